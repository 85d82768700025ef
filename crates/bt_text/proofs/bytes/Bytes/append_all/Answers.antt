use Rattle.std.proofs.Common.{◌∙◌, map}
use Rattle.std.proofs.lemmas.List.{drop_all}
use Rattle.bt_text.proofs.JoinedLemmas.{joined_behind}
use Rattle.bt_text.proofs.bytes.Bytes.append_all.Goals as goal

pub returns : goal.returns
returns c =
    rw (drop_all c.pieces.piece-index c.args.pieces.now c.pieces-test.false) at c.pieces.invariant
    ∙ joined_behind c.args.self.now (map (λ piece. piece.now) c.args.pieces.now)
