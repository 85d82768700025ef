use Rattle.bt_run.specs.inner.Names.{IsUnnamedTo}
use Rattle.bt_run.specs.inner.Work.{name_of}
use Rattle.bt_run.proofs.reused_step.scan.Given as goal

-- none of the steps so far has this name
abbrev pub invariant-places : goal.invariant-places
invariant-places l = IsUnnamedTo l.place (name_of l.sought) l.earlier.steps
