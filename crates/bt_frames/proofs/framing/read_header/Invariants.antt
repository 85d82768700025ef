use Rattle.std.proofs.Common.{◌≡◌, ◌≤◌, ◌<◌, ℕ, List, length, false}
use Rattle.std.specs.Io.KnownBytes.{Consumes}
use Rattle.bt_frames.specs.Headers.{AreLines}
use Rattle.bt_frames.proofs.framing.read_header.Given as goal

abbrev pub invariant-lines : goal.invariant-lines
invariant-lines g l =
    let source = g.S.Source in
    record {
      failures : (source.seen l.source).failures ≡ (source.seen l.fn.source).failures;
      reads : (source.seen l.source).reads_left ≤ (source.seen l.fn.source).reads_left;
      read : (bytes : List ℕ) × AreLines bytes l.length l.first × Consumes (source.seen l.fn.source).rest (source.seen l.source).rest bytes × (l.first ≡ false → 0 < length bytes);
    }

abbrev pub decreases-lines : goal.decreases-lines
decreases-lines g l = (g.S.Source.seen l.source).reads_left
