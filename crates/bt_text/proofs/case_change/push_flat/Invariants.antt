use Rattle.std.proofs.Common.{◌≡◌, ◌++◌, length, flat_map}
use Rattle.bt_text.specs.Blocks.{blocks}
use Rattle.bt_text.specs.CaseChange.{changed_block}
use Rattle.bt_text.proofs.case_change.push_flat.Given as goal

abbrev pub invariant-walk : goal.invariant-walk
invariant-walk l = l.out.items ++ flat_map (changed_block l.mode) (blocks l.rest) ≡ l.fn.out.items ++ flat_map (changed_block l.mode) (blocks l.text)

abbrev pub decreases-walk : goal.decreases-walk
decreases-walk l = length l.rest
