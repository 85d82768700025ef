use Rattle.std.proofs.Common.{◌≡◌, ◌<◌, None, length, sym, ap, ◌∙◌, arith}
use Rattle.std.proofs.lemmas.Bool.{lt-leb}
use Rattle.bt_text.specs.LineBreaks.{break_place}
use Rattle.bt_text.proofs.HeldLemmas.{none_white}
use Rattle.bt_text.proofs.held.Held.has_white.Goals as goal

pub returns-else-len-le79 : goal.returns-else-len-le79
returns-else-len-le79 c =
    let held = c.args.self.now in
    let same : c.self.inside.bytes ≡ held = c.self.view_is in
    let whole : break_place held ≡ None = ap break_place (sym same) ∙ c.self.invariant.1 in
    let long : 79 < length held = omega (arith, ap length same) in
    lt-leb c.len.result 79 c.if-len-le79.false ∙ sym (none_white held whole long)
