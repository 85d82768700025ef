use Rattle.std.proofs.Common.{◌≡◌, ◌+◌, length, take, drop}
use Rattle.bt_session.proofs.differing.front_by.Given as goal

abbrev pub invariant-steps : goal.invariant-steps
invariant-steps l = record {
  old_rest : l.old_rest ≡ drop l.count l.old;
  new_rest : l.new_rest ≡ drop l.count l.new;
  old_length : l.count + length l.old_rest ≡ length l.old;
  new_length : l.count + length l.new_rest ≡ length l.new;
  same : take l.count l.old ≡ take l.count l.new;
}

abbrev pub decreases-steps : goal.decreases-steps
decreases-steps l = length l.old_rest
