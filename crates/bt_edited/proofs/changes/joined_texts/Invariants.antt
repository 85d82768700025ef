use Rattle.std.proofs.Common.{◌≡◌, drop}
use Rattle.std.specs.List.{fold}
use Rattle.bt_edited.specs.Changes.{with_text}
use Rattle.bt_edited.proofs.changes.joined_texts.Given as goal

abbrev pub invariant-parts : goal.invariant-parts
invariant-parts l = fold with_text l.joined (drop l.part-index l.parts) ≡ fold with_text l.initial.joined l.parts
