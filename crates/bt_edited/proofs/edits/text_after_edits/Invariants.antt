use Rattle.std.proofs.Common.{◌≡◌, drop}
use Rattle.std.specs.List.{fold}
use Rattle.bt_edited.specs.Edits.{draft_after}
use Rattle.bt_edited.proofs.edits.text_after_edits.Given as goal

abbrev pub invariant-edits : goal.invariant-edits
invariant-edits l =
    let step = draft_after l.counting l.text in
    fold step l.draft (drop l.edit-index l.edits) ≡ fold step l.initial.draft l.edits
