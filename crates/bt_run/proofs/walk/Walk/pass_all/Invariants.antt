use Rattle.bt_run.specs.inner.Walk.{AreOrderedIn, IsWalkedIn}
use Rattle.bt_run.proofs.walk.Walk.pass_all.Given as goal

abbrev pub invariant-steps : goal.invariant-steps
invariant-steps l = record { walked : IsWalkedIn l.context l.number l.self; ordered : AreOrderedIn l.context l.number l.self }
