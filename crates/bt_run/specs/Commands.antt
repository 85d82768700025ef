-- The commands of a style in order.
use Rattle.std.specs.Prelude.{ℕ, suc, List, [], ◌∷◌, reverse, Some, None, if◌then◌else◌}
use Rattle.bt_style.specs.declared.style.Target.{Target}
use Rattle.bt_style.specs.declared.style.Command.{Command}
use Rattle.bt_style.specs.declared.style.Action.{Action}
use Rattle.bt_style.specs.declared.style.Action.TheVariants.{Execute, Iterate, Read, Reverse, Sort}
use Rattle.bt_style.specs.Program.{Program}
use Rattle.bt_run.specs.declared.course.CommandPlace.{CommandPlace}
use Rattle.bt_run.specs.declared.course.Step.{Step}
use Rattle.bt_run.specs.Course.{Recorded, stepped}
use Rattle.bt_run.specs.SortCommand.{key_at, sorted}
use Rattle.bt_run.specs.ReadCommand.{Job, list_order, read}

-- A step for the entry at each of these places in turn, until one stops the run. Here and below, `note` adds a step to
-- what was seen of the run: for `meaning` it appends the step to a list.
abbrev pub iterated : {S : Type 0} → (S → Step → S) → Program → CommandPlace → Target → List ℕ → Recorded S → Recorded S
iterated note p site t [] r = r
iterated note p site t (n ∷ ns) r =
    iterated note p site t ns (if r.course.stopped then r else stepped note p site t (Some n) r)

-- What a command does; those that declare something did it when the style was read. SORT puts the entries into the order
-- of their sort keys. Entries with equal keys come in list order, whatever the order was before.
abbrev pub carried_out : {S : Type 0} → (S → Step → S) → Job → ℕ → ℕ → Action → Recorded S → Recorded S
carried_out note job number line action r =
    let site : CommandPlace = record { style = job.style; command = number; line = line } in
    elim action [
      | Execute t ↦ stepped note job.program site t None r
      | Iterate t ↦ iterated note job.program site t r.course.order r
      | Reverse t ↦ iterated note job.program site t (reverse r.course.order) r
      | Read ↦ record r { course = read job number r.course }
      | Sort ↦
          record r { course = record r.course { order = sorted (key_at r.course.entries) (list_order r.course.entries) } }
      | _ ↦ r
    ]

-- commands in order, numbered from here on, until a step stops the run
abbrev pub commands_from : {S : Type 0} → (S → Step → S) → Job → ℕ → List Command → Recorded S → Recorded S
commands_from note job n [] r = r
commands_from note job n (c ∷ cs) r =
    commands_from note job (suc n) cs (if r.course.stopped then r else carried_out note job n c.line c.action r)
