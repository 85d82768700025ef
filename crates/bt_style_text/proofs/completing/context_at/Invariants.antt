use Rattle.std.proofs.Common.{◌≡◌, ◌≤◌, drop}
use Rattle.bt_style_text.specs.Completing.{context_at, context_from}
use Rattle.bt_style_text.proofs.completing.context_at.Given as goal

abbrev pub invariant-words : goal.invariant-words
invariant-words l = record {
  depth : l.context.depth ≤ l.word-index;
  same : context_from l.context l.text l.place (drop l.word-index l.words) ≡ context_at l.text l.place l.words;
}
