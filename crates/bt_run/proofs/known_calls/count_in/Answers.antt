use Rattle.std.proofs.Common.{◌≡◌, ◌∙◌, ap, sym, refl, ◌+◌, ◌-◌, ◌<◌, length, Some, arith}
use Rattle.std.specs.Prelude.{slice_get}
use Rattle.std.proofs.lemmas.Option.{slice_get_read}
use Rattle.bt_run.proofs.TurnLemmas.{calls_exchanged}
use Rattle.bt_run.proofs.known_calls.count_in.Goals as goal

pub returns : goal.returns
returns c = λ known steps are.
    let earlier = c.args.earlier.now in
    let from = c.args.turn.from in
    let next = c.args.turn.next in
    let at = from + (next - 1 - from) in
    let last : at ≡ next - 1 = omega (arith, c.if-next-from.false, c.if-next-from-2.false) in
    let on : next ≡ at + 1 = omega (arith, c.if-next-from.false, c.if-next-from-2.false) in
    let less : next - 1 < length earlier = omega (arith, c.if-next-from.false, c.if-next-from-2.false, c.if-next-earlier.false) in
    let here : slice_get earlier at ≡ Some c.deref.result.now =
    ap (slice_get earlier) last ∙ slice_get_read earlier (length earlier) (next - 1) c.index-earlier-last.result refl less c.index-earlier-last.is ∙ ap Some (sym c.deref.ensures) in
    calls_exchanged earlier steps c.args.step.now c.deref.result.now at next _ _ here on c.in_ok-exchange_calls.ensures (c.in_ok-skip_calls.ensures steps are)
