use Rattle.bt_run.specs.inner.Names.{IsIndexTo}
use Rattle.bt_run.proofs.index.Index.of.Given as goal

-- the steps so far are there
abbrev pub invariant-steps : goal.invariant-steps
invariant-steps l = IsIndexTo l.place l.steps l.index
