use Rattle.std.proofs.Common.{◌≡◌, ◌++◌, ◌≤◌, drop, length, take}
use Rattle.bt_run.specs.inner.Cases.{bbl_of}
use Rattle.bt_run.specs.inner.Walk.{AreNumbered, with_steps}
use Rattle.bt_run.proofs.bibliography.NewPart.of.Given as goal

abbrev pub invariant-others : goal.invariant-others
invariant-others l = record {
  numbered : AreNumbered l.number (length l.kept.steps) (drop l.other-index l.others);
  begin : l.part.begin ≤ l.part.end;
  within : l.part.end ≤ length l.old;
  rest : drop l.part.end l.old ≡ bbl_of (drop l.number l.kept.steps);
  whole : take l.part.begin l.old ++ l.part.text.items ++ bbl_of (drop l.number (with_steps l.kept.steps (drop l.other-index l.others)))
      ≡ bbl_of (with_steps l.kept.steps l.others);
}
