use Rattle.std.proofs.Common.{◌∙◌, ap, Ok}
use Rattle.std.proofs.lemmas.Result.{err_from_is_err_and}
use Rattle.bt_bib.specs.Spot.{here}
use Rattle.bt_bib.specs.Many.{all}
use Rattle.bt_bib.specs.inner.Many.{gathered}
use Rattle.bt_bib.specs.Values.{next_part}
use Rattle.bt_bib.proofs.ManyLemmas.{gathers_more}
use Rattle.bt_bib.proofs.FieldLemmas.{joined_less}
use Rattle.bt_bib.proofs.LoopLemmas.{ahead_then, goes_down, ends_none, ends_err}
use Rattle.bt_bib.proofs.reader.Reader.others.Goals as goal

pub returns-in_err-next : goal.returns-in_err-next
returns-in_err-next c =
    let next = next_part c.args.close in
    let p = err_from_is_err_and c.from_residual.result c.from_residual.ensures.1 in
    rw (p.1, p.2) (ends_err next (joined_less c.args.close) c.args.parts c.parts.parts c.args.self.now.text.now c.args.from c.parts.at c.in_err-next.field-0.0 c.parts.invariant.same c.parts.invariant.inside c.in_err-next.ensures)

pub returns-in-None : goal.returns-in-None
returns-in-None c =
    let next = next_part c.args.close in (
      ends_none next (joined_less c.args.close) c.args.parts c.parts.parts c.args.self.now.text.now c.args.from c.parts.at c.in_ok-next.end c.parts.invariant.same (c.in_ok-next.ensures.0 ∙ ap (λ o. Ok (o, here c.args.self.now.text.now c.in_ok-next.end)) c.in-None.is),
      ahead_then c.args.self.now.text.now c.args.from c.parts.at c.in_ok-next.end c.parts.invariant.inside c.in_ok-next.ensures.1,
    )

pub parts-smaller : goal.parts-smaller
parts-smaller c = goes_down (next_part c.args.close) (joined_less c.args.close) c.args.self.now.text.now c.parts.at c.in_ok-next.end c.in-Some.part (c.in_ok-next.ensures.0 ∙ ap (λ o. Ok (o, here c.args.self.now.text.now c.in_ok-next.end)) c.in-Some.is)

pub parts-preserved : goal.parts-preserved
parts-preserved c =
    let next = next_part c.args.close in
    let text = c.args.self.now.text.now in
    record {
      inside = ahead_then text c.args.from c.parts.at c.in_ok-next.end c.parts.invariant.inside c.in_ok-next.ensures.1;
      same = ap (λ front. gathered front (all next (here text c.in_ok-next.end))) c.in_ok-parts-in-Some.ensures ∙ gathers_more next (joined_less c.args.close) c.parts.parts c.in-Some.part (here text c.parts.at) (here text c.in_ok-next.end) (c.in_ok-next.ensures.0 ∙ ap (λ o. Ok (o, here text c.in_ok-next.end)) c.in-Some.is) ∙ c.parts.invariant.same;
    }
