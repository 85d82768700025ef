use Rattle.std.proofs.Common.{◌≡◌, sym, ◌∙◌, length, arith}
use Rattle.std.proofs.lemmas.Result.{IfOk-weaker}
use Rattle.bt_machine.proofs.PutLemmas.{blend_none}
use Rattle.bt_machine.proofs.substitution.fitted.Goals as goal

pub returns-then-len : goal.returns-then-len
returns-then-len g c =
    let l : length c.args.left.now ≡ length c.args.base.now = omega arith in
    IfOk-weaker c.copied.result _ _ (λ values h. h ∙ sym (blend_none c.args.left.now c.args.base.now l)) c.copied.ensures
