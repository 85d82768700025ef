-- What databases use of the paper's style.
use Rattle.std.specs.Prelude.{ℕ, nat_lt, not, ◌||◌, if◌then◌else◌, List, length}
use Rattle.serde_json.specs.Data.{Data}
use Rattle.bt_positions.specs.declared.counting.Counting.{Counting}
use Rattle.bt_style_answers.specs.declared.references.Lent.{Lent}
use Rattle.bt_style_answers.specs.References.{with_declaration}
use Rattle.bt_places.specs.Entries.{is_style}

-- A list with the place where a file declares what a database uses by a name, if it is a style of at most 1 GiB. `units` has
-- those of each file's text.
abbrev pub with_lent : (List ℕ → Counting) → Lent → List ℕ → List Data → List ℕ → List ℕ → List Data
with_lent units lent name list uri words =
    if not (is_style uri) || nat_lt 1073741824 (length words) then list
    else with_declaration (units uri) uri words lent name list
