use Rattle.std.proofs.Common.{sym, ◌∙◌, ap, Ok}
use Rattle.bt_bib.specs.Spot.{here}
use Rattle.bt_bib.specs.Many.{all}
use Rattle.bt_bib.specs.inner.Many.{gathered}
use Rattle.bt_bib.specs.inner.Cases.{next_one}
use Rattle.bt_bib.proofs.ManyLemmas.{gathers_more}
use Rattle.bt_bib.proofs.PieceLemmas.{next_piece_less}
use Rattle.bt_bib.proofs.LoopLemmas.{ahead_then, goes_down, all_none}
use Rattle.bt_bib.proofs.reader.Reader.pieces_from.Goals as goal

pub returns-in-None : goal.returns-in-None
returns-in-None c = sym (ap (λ x. x.0) (all_none next_one next_piece_less c.pieces.items c.args.self.now.text.now c.args.from c.pieces.at c.in_ok-next.end c.pieces.invariant.same (ap (λ x. Ok x) c.in_ok-next.ensures.0 ∙ ap (λ o. Ok (o, here c.args.self.now.text.now c.in_ok-next.end)) c.in-None.is)))

pub pieces-smaller : goal.pieces-smaller
pieces-smaller c = goes_down next_one next_piece_less c.args.self.now.text.now c.pieces.at c.in_ok-next.end c.in-Some.piece (ap (λ x. Ok x) c.in_ok-next.ensures.0 ∙ ap (λ o. Ok (o, here c.args.self.now.text.now c.in_ok-next.end)) c.in-Some.is)

pub pieces-preserved : goal.pieces-preserved
pieces-preserved c =
    let text = c.args.self.now.text.now in
    record {
      inside = ahead_then text c.args.from c.pieces.at c.in_ok-next.end c.pieces.invariant.inside c.in_ok-next.ensures.1;
      same = ap (λ front. gathered front (all next_one (here text c.in_ok-next.end))) c.in_ok-push-in-Some.ensures.ok ∙ gathers_more next_one next_piece_less c.pieces.items c.in-Some.piece (here text c.pieces.at) (here text c.in_ok-next.end) (ap (λ x. Ok x) c.in_ok-next.ensures.0 ∙ ap (λ o. Ok (o, here text c.in_ok-next.end)) c.in-Some.is) ∙ c.pieces.invariant.same;
    }
