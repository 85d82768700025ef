use Rattle.std.proofs.Common.{◌≡◌, ◌+◌, ◌≤◌, length, count_by}
use Rattle.bt_text.specs.Blocks.{blocks}
use Rattle.bt_names.specs.inner.Cases.{is_comma}
use Rattle.bt_names.proofs.cuts.comma_count.Given as goal

abbrev pub invariant-walk : goal.invariant-walk
invariant-walk l = (l.count + length l.rest ≤ length l.name) × (l.count + count_by is_comma (blocks l.rest) ≡ count_by is_comma (blocks l.name))

abbrev pub decreases-walk : goal.decreases-walk
decreases-walk l = length l.rest
