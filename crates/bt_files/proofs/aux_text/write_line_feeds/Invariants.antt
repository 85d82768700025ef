use Rattle.std.proofs.Common.{◌≡◌, ◌++◌, replicate}
use Rattle.bt_files.specs.AuxText.{line_feed}
use Rattle.bt_files.proofs.aux_text.write_line_feeds.Given as goal

abbrev pub invariant-lines : goal.invariant-lines
invariant-lines l = l.text ≡ l.fn.text ++ replicate l.counter line_feed
