use Rattle.std.proofs.Common.{◌≡◌, drop}
use Rattle.std.specs.List.{fold}
use Rattle.bt_answers.specs.Formatting.{with_asked_gaps}
use Rattle.bt_answers.proofs.formatting.with_pieces.Given as goal

abbrev pub invariant-pieces : goal.invariant-pieces
invariant-pieces l =
    let add = with_asked_gaps l.page.counting l.page.end l.page.text.now l.page.scope in
    fold add l.all.items (drop l.piece-index l.pieces) ≡ fold add l.fn.list.items l.pieces
