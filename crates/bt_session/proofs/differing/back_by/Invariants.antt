use Rattle.std.proofs.Common.{◌≡◌, ◌+◌, ◌++◌, length, drop}
use Rattle.bt_session.proofs.differing.back_by.Given as goal

abbrev pub invariant-steps : goal.invariant-steps
invariant-steps l = record {
  old_length : length l.old_rest + l.count ≡ length l.old;
  new_length : length l.new_rest + l.count ≡ length l.new;
  old_rest : l.old ≡ l.old_rest ++ drop (length l.old_rest) l.old;
  new_rest : l.new ≡ l.new_rest ++ drop (length l.new_rest) l.new;
  same : drop (length l.old_rest) l.old ≡ drop (length l.new_rest) l.new;
}

abbrev pub decreases-steps : goal.decreases-steps
decreases-steps l = length l.old_rest
