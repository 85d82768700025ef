use Rattle.std.proofs.Common.{◌≡◌, ◌≤◌, ◌+◌, ◌++◌, length}
use Rattle.std.specs.List.{slice_split}
use Rattle.bt_text.specs.ByteTests.{is_line_feed}
use Rattle.bt_bib.specs.AuxLine.{items_from, aux_lines}
use Rattle.bt_bib.proofs.aux_line.read_aux.Given as goal

abbrev pub invariant-lines : goal.invariant-lines
invariant-lines l = record {
  number : l.number + length l.rest ≤ length l.text + 1;
  same : l.items ++ items_from l.number (slice_split is_line_feed l.rest) ≡ aux_lines l.text;
}

abbrev pub decreases-lines : goal.decreases-lines
decreases-lines l = length l.rest
