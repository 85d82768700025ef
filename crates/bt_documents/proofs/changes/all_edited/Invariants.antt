use Rattle.std.proofs.Common.{◌≡◌, drop}
use Rattle.bt_documents.specs.Changes.{all_edited}
use Rattle.bt_documents.proofs.changes.all_edited.Given as goal

abbrev pub invariant-changes : goal.invariant-changes
invariant-changes l = all_edited l.fn.counting (drop l.change-index l.rest) l.now ≡ all_edited l.fn.counting l.fn.changes l.fn.text
