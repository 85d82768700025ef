-- Marks by their numbers, and the steps of words.
use Rattle.std.specs.Prelude.{ℕ, Option, slice_get, option_map}
use Rattle.bt_marks.specs.declared.marks.Mark.{Mark}
use Rattle.bt_marks.specs.declared.marks.Marks.{Marks}
use Rattle.bt_marks.specs.declared.marks.Site.{Site}

-- the mark of a number
abbrev pub mark_at : Marks → ℕ → Option Mark
mark_at marks number = slice_get marks.marks.items number

-- the step in which a word ran
abbrev pub step_at : Marks → Site → Option ℕ
step_at marks site = option_map (λ call. call.step) (slice_get marks.calls.items site.call)
