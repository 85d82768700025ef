use Rattle.std.proofs.Common.{◌≡◌, ◌≤◌, drop}
use Rattle.bt_names.proofs.StrayLemmas.{kept_from}
use Rattle.bt_names.proofs.name.has_flat_brace.Given as goal

abbrev pub invariant-loop-byte : goal.invariant-loop-byte
invariant-loop-byte l = (l.depth ≤ l.byte-index) × (kept_from l.depth (drop l.byte-index l.name) ≡ drop l.byte-index l.name → kept_from 0 l.name ≡ l.name)
