use Rattle.std.proofs.Common.{◌<◌, length, arith}
use Rattle.bt_writing.proofs.MoreLemmas.{candidate_found}
use Rattle.bt_writing.proofs.citing.add_candidate.Goals as goal

pub returns : goal.returns
returns c =
    let some : 0 < length c.key_of-key.result.now = grind (arith, c.is_empty.ensures, c.if-is_empty.false) in
    candidate_found c.args.written c.args.piece.now.piece _ _ _ _ _ _ _ some c.key_of-key.ensures c.kind_of.ensures c.field_of-author.ensures c.field_of-title.ensures
    c.in_ok-value.ensures c.in_ok-all.ensures
