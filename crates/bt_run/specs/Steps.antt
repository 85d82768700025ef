-- The steps of a run under the text of its style.
use Rattle.std.specs.Prelude.{◌≡◌, ℕ, List, Option, Some, None, Result, Ok, Err, All, bytes_eq, if◌then◌else◌}
use Rattle.bt_style.specs.declared.fault.StyleFault.{StyleFault}
use Rattle.bt_style.specs.Program.{Program}
use Rattle.bt_style.specs.Reader.{style_of}
use Rattle.bt_run.specs.declared.course.Step.{Step}
use Rattle.bt_run.specs.Work.{IsStep, work_under}

-- All steps are those of the style of this text, if it could be read. (No cases: a ghost field's type must be seen to
-- be a proposition.)
abbrev pub StepsAre : Option (List ℕ) → List Step → Type 0
StepsAre text steps = (t : List ℕ) (p : Program) → text ≡ Some t → style_of t ≡ Ok p → All (IsStep p) steps

-- the work of steps under a style that could be read; a style with a fault has no steps
abbrev pub styled_work : Result Program StyleFault → List Step → List Step → List Step
styled_work (Ok p) earlier steps = work_under p earlier steps
styled_work (Err fault) earlier steps = steps

-- The work of steps after earlier ones, given the texts of the two styles: all of them, if the texts differ or one run has
-- no style.
abbrev pub work_after : Option (List ℕ) → List Step → Option (List ℕ) → List Step → List Step
work_after own earlier None steps = steps
work_after None earlier (Some text) steps = steps
work_after (Some own) earlier (Some text) steps =
    if bytes_eq own text then styled_work (style_of text) earlier steps else steps
