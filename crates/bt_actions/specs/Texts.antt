-- The results of `change.case$` and `quote$`.
use Rattle.std.specs.Prelude.{ℕ, List, [], ◌∷◌, Option, Some, None, ◌||◌, ◌==◌, if◌then◌else◌}
use Rattle.bt_text.specs.declared.modes.Mode.{Mode}
use Rattle.bt_text.specs.declared.modes.Mode.TheVariants.{Title, Lower, Upper}
use Rattle.bt_text.specs.CaseChange.{changed_case}
use Rattle.bt_actions.specs.declared.complaint.Complaint.TheVariants.{BadCase}
use Rattle.bt_actions.specs.Item.{Txt}
use Rattle.bt_actions.specs.Given.{Given, Gives, Errs}

-- the change of case that a byte names
abbrev pub mode_of_byte : ℕ → Option Mode
mode_of_byte b =
    if b == 116 || b == 84 then Some Title else
    (if b == 108 || b == 76 then Some Lower else
    (if b == 117 || b == 85 then Some Upper else None))

-- the change of case that a text names: `t`, `l` or `u`, in either case
abbrev pub mode_of : List ℕ → Option Mode
mode_of (b ∷ []) = mode_of_byte b
mode_of _ = None

-- the text in that case; if there is no such case, an error, and the text stays
abbrev pub case_by : Option Mode → List ℕ → List ℕ → Given
case_by None t name = Errs (BadCase name) (Txt t)
case_by (Some mode) t name = Gives (Txt (changed_case mode t))

abbrev pub case_of : List ℕ × List ℕ → Given
case_of (t, name) = case_by (mode_of name) t name

-- a text of one double quote
abbrev pub quote : List ℕ
quote = 34 ∷ []
