use Rattle.std.proofs.Common.{◌≡◌, ◌≤◌, ◌++◌, drop}
use Rattle.bt_style_text.specs.Roles.{top}
use Rattle.bt_style_text.specs.Marks.{marks_from}
use Rattle.bt_style_text.proofs.marks.marks_in.Given as goal

abbrev pub invariant-words : goal.invariant-words
invariant-words l = record {
  depth : l.context.depth ≤ l.word-index;
  so_far : l.marks.items ++ marks_from l.context l.text (drop l.word-index l.words) ≡ marks_from top l.text l.words;
}
