use Rattle.std.proofs.Common.{◌∙◌, ap, Ok}
use Rattle.std.proofs.lemmas.Result.{err_from_is_err_and}
use Rattle.bt_bib.specs.Spot.{here}
use Rattle.bt_bib.specs.Many.{all}
use Rattle.bt_bib.specs.inner.Many.{gathered}
use Rattle.bt_bib.specs.Fields.{next_field}
use Rattle.bt_bib.proofs.ManyLemmas.{gathers_more}
use Rattle.bt_bib.proofs.FieldLemmas.{next_field_less}
use Rattle.bt_bib.proofs.LoopLemmas.{ahead_then, goes_down, fills_none, fills_err}
use Rattle.bt_bib.proofs.reader.Reader.fields.Goals as goal

pub returns-in_err-next : goal.returns-in_err-next
returns-in_err-next c =
    let next = next_field c.args.close in
    let p = err_from_is_err_and c.from_residual.result c.from_residual.ensures.1 in
    rw (p.1, p.2) (fills_err next (next_field_less c.args.close) c.args.fields.now c.fields.fields c.args.self.now.text.now c.args.from c.fields.at c.in_err-next.field-0.0 c.fields.invariant.same c.fields.invariant.inside c.in_err-next.ensures)

pub returns-in-None : goal.returns-in-None
returns-in-None c =
    let next = next_field c.args.close in (
      fills_none next (next_field_less c.args.close) c.args.fields.now c.fields.fields c.args.self.now.text.now c.args.from c.fields.at c.in_ok-next.end c.fields.invariant.same (c.in_ok-next.ensures.0 ∙ ap (λ o. Ok (o, here c.args.self.now.text.now c.in_ok-next.end)) c.in-None.is),
      ahead_then c.args.self.now.text.now c.args.from c.fields.at c.in_ok-next.end c.fields.invariant.inside c.in_ok-next.ensures.1,
    )

pub fields-smaller : goal.fields-smaller
fields-smaller c = goes_down (next_field c.args.close) (next_field_less c.args.close) c.args.self.now.text.now c.fields.at c.in_ok-next.end c.in-Some.field (c.in_ok-next.ensures.0 ∙ ap (λ o. Ok (o, here c.args.self.now.text.now c.in_ok-next.end)) c.in-Some.is)

pub fields-preserved : goal.fields-preserved
fields-preserved c =
    let next = next_field c.args.close in
    let text = c.args.self.now.text.now in
    record {
      inside = ahead_then text c.args.from c.fields.at c.in_ok-next.end c.fields.invariant.inside c.in_ok-next.ensures.1;
      same = ap (λ front. gathered front (all next (here text c.in_ok-next.end))) c.in_ok-push-in-Some.ensures.ok ∙ gathers_more next (next_field_less c.args.close) c.fields.fields c.in-Some.field (here text c.fields.at) (here text c.in_ok-next.end) (c.in_ok-next.ensures.0 ∙ ap (λ o. Ok (o, here text c.in_ok-next.end)) c.in-Some.is) ∙ c.fields.invariant.same;
    }
