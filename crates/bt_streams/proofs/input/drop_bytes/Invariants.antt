use Rattle.std.proofs.Common.{◌≡◌, ◌+◌, ◌≤◌, List, ℕ, length}
use Rattle.std.specs.Io.KnownBytes.{Consumes}
use Rattle.bt_streams.proofs.input.drop_bytes.Given as goal

abbrev pub invariant-pieces : goal.invariant-pieces
invariant-pieces g l =
    let source = g.S.Source in
    record {
      failures : (source.seen l.source).failures ≡ (source.seen l.fn.source).failures;
      reads : (source.seen l.source).reads_left ≤ (source.seen l.fn.source).reads_left;
      part : (bytes : List ℕ) × (length bytes + l.to_drop ≡ l.count) × Consumes (source.seen l.fn.source).rest (source.seen l.source).rest bytes;
    }

abbrev pub decreases-pieces : goal.decreases-pieces
decreases-pieces g l = l.to_drop
