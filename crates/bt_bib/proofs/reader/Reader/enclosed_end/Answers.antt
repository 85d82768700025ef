use Rattle.std.proofs.Common.{sym, ◌∙◌, ap, arith, rules, drop}
use Rattle.bt_bib.specs.declared.spot.Spot.{Spot}
use Rattle.bt_bib.specs.Spot.{here}
use Rattle.bt_bib.proofs.EnclosedLemmas.{enclosed_run, end_is_run, enclosed_closes, enclosed_breaks, enclosed_goes, enclosed_ends, enclosed_jumps}
use Rattle.bt_bib.proofs.LoopLemmas.{ahead_then}
use Rattle.bt_bib.proofs.reader.Reader.enclosed_end.Goals as goal

pub bytes-init : goal.bytes-init
bytes-init c = record {
  inside = search rules;
  shallow = omega arith;
  same = sym (end_is_run c.args.close (here c.args.self.now.text.now c.args.from));
}

pub returns-in-Closes : goal.returns-in-Closes
returns-in-Closes c =
    let text = c.args.self.now.text.now in
    let next = c.past_plain-next.result in
    let jump = enclosed_jumps c.args.close c.bytes.depth text c.bytes.at next c.past_plain-next.ensures.inside.order c.past_plain-next.ensures.value in
    (sym (jump ∙ c.bytes.invariant.same) ∙ enclosed_closes c.args.close c.bytes.depth text next c.if-next-self.false c.in-Closes.ensures.value, ahead_then text c.args.from c.bytes.at next c.bytes.invariant.inside c.past_plain-next.ensures.inside)

pub returns-in-Breaks : goal.returns-in-Breaks
returns-in-Breaks c =
    let text = c.args.self.now.text.now in
    let next = c.past_plain-next.result in
    let jump = enclosed_jumps c.args.close c.bytes.depth text c.bytes.at next c.past_plain-next.ensures.inside.order c.past_plain-next.ensures.value in
    (sym (jump ∙ c.bytes.invariant.same) ∙ enclosed_breaks c.args.close c.bytes.depth text next c.if-next-self.false c.in-Breaks.ensures.value, ahead_then text c.args.from c.bytes.at next c.bytes.invariant.inside c.past_plain-next.ensures.inside)

pub returns-then-next-self : goal.returns-then-next-self
returns-then-next-self c =
    let text = c.args.self.now.text.now in
    let next = c.past_plain-next.result in
    let jump = enclosed_jumps c.args.close c.bytes.depth text c.bytes.at next c.past_plain-next.ensures.inside.order c.past_plain-next.ensures.value in
    (sym (jump ∙ c.bytes.invariant.same) ∙ enclosed_ends c.args.close c.bytes.depth text next c.if-next-self.true, ahead_then text c.args.from c.bytes.at next c.bytes.invariant.inside c.past_plain-next.ensures.inside)

pub bytes-preserved : goal.bytes-preserved
bytes-preserved c =
    let text = c.args.self.now.text.now in
    let next = c.past_plain-next.result in
    let jump = enclosed_jumps c.args.close c.bytes.depth text c.bytes.at next c.past_plain-next.ensures.inside.order c.past_plain-next.ensures.value in
    record {
      inside = search rules;
      shallow = omega (arith, c.in-Goes.ensures.near, ap (λ (s : Spot). s.place) c.after-at.ensures, c.past_plain-next.ensures.inside.order, c.bytes.invariant.shallow);
      same = ap (λ s. enclosed_run c.args.close c.in-Goes.open s (drop s.place text)) c.after-at.ensures ∙ enclosed_goes c.args.close c.bytes.depth c.in-Goes.open text next c.if-next-self.false c.in-Goes.ensures.value ∙ jump ∙ c.bytes.invariant.same;
    }
