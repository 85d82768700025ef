use Rattle.std.proofs.Common.{◌≡◌, ◌≤◌, ◌++◌, drop}
use Rattle.bt_names.proofs.StrayLemmas.{kept_from}
use Rattle.bt_names.proofs.name.without_stray_braces.Given as goal

abbrev pub invariant-loop-byte : goal.invariant-loop-byte
invariant-loop-byte l = (l.depth ≤ l.byte-index) × (l.kept.items ++ kept_from l.depth (drop l.byte-index l.name) ≡ kept_from 0 l.name)
