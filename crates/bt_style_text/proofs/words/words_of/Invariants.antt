use Rattle.std.proofs.Common.{◌≡◌, ◌+◌, ◌++◌, length}
use Rattle.bt_style_text.specs.Words.{words_after, words_of}
use Rattle.bt_style_text.proofs.words.words_of.Given as goal

abbrev pub invariant-pieces : goal.invariant-pieces
invariant-pieces l = record {
  within : l.start + length l.rest ≡ length l.text;
  so_far : l.words.items ++ words_after 0 l.start l.rest ≡ words_of l.text;
}

abbrev pub decreases-pieces : goal.decreases-pieces
decreases-pieces l = length l.rest
