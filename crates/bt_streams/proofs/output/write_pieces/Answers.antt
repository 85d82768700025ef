use Rattle.std.proofs.Common.{◌∙◌, ◌+◌, ap, ℕ, List, arith, Bor}
use Rattle.std.proofs.lemmas.Result.{MatchResult-from_err}
use Rattle.bt_streams.proofs.WriteLemmas.{part_behind, flat_map_at}
use Rattle.bt_streams.proofs.output.write_pieces.Goals as goal

pub returns-in_err-write_all : goal.returns-in_err-write_all
returns-in_err-write_all g c =
    let before = c.each.invariant in
    let i = c.each.piece-index in
    let pieces = c.args.pieces.now in
    let part = part_behind _ _ _ _ _ _ _ (flat_map_at (λ (p : Bor (List ℕ)). p.now) pieces i _ (omega arith)) before.bytes c.in_err-write_all.ensures.0 in
    MatchResult-from_err c.from_residual.result _ _ c.from_residual.ensures.0 (λ _. (part, c.in_err-write_all.ensures.1 ∙ ap (λ n. n + 1) before.failures))
