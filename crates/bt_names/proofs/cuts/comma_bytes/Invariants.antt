use Rattle.std.proofs.Common.{◌≡◌, ◌+◌, ◌≤◌, eqb, drop, count_by}
use Rattle.bt_names.proofs.cuts.comma_bytes.Given as goal

abbrev pub invariant-loop-byte : goal.invariant-loop-byte
invariant-loop-byte l = (l.count ≤ l.byte-index) × (l.count + count_by (λ b. eqb b 44) (drop l.byte-index l.name) ≡ count_by (λ b. eqb b 44) l.name)
