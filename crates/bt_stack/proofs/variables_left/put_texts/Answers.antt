use Rattle.std.proofs.Common.{◌≡◌, suc, ◌+◌, take, ap, sym, ◌∙◌, arith}
use Rattle.bt_actions.specs.Arguments.{as_text}
use Rattle.bt_stack.specs.inner.Kept.{item_in, texts_over, put}
use Rattle.bt_stack.proofs.LeftLemmas.{texts_next}
use Rattle.bt_stack.proofs.variables_left.put_texts.Goals as goal

pub texts-preserved : goal.texts-preserved
texts-preserved c =
    let next : c.texts.n + 1 ≡ suc c.texts.n = omega arith in
    c.in_ok-put_text.ensures
    ∙ ap (put (as_text (item_in c.args.pool.now c.index-texts-n.result)) c.texts.n) c.texts.invariant
    ∙ sym ((λ i. texts_over c.args.pool.now (take (next i) c.args.texts.now) c.args.left.now)
    ∙ texts_next c.args.pool.now c.args.texts.now c.args.left.now c.texts.n c.index-texts-n.result (omega (arith, c.texts-test.true)) c.index-texts-n.is)
