use Rattle.std.proofs.Common.{◌∙◌, ap, sym, ◌++◌, arith}
use Rattle.std.proofs.lemmas.List.{take_all}
use Rattle.bt_resolve.specs.Values.{joined_parts}
use Rattle.bt_resolve.proofs.PartLemmas.{joined_more}
use Rattle.bt_resolve.proofs.skeleton.is_same_value.Goals as goal

pub parts-preserved : goal.parts-preserved
parts-preserved c = λ m.
    joined_more m c.args.old.now c.parts.k c.index-old-k.result c.parts-test.true c.index-old-k.is
    ∙ (λ j. c.parts.invariant m j ++ c.is_same_part.ensures c.if-not-is_same_part.false m j)
    ∙ sym (joined_more m c.args.new.now c.parts.k c.index-new-k.result (omega (arith, c.parts-test.true, c.if-old-new.false)) c.index-new-k.is)

pub returns : goal.returns
returns c = λ go m.
    sym (ap (joined_parts m) (take_all c.parts.k c.args.old.now c.parts-test.false))
    ∙ c.parts.invariant m
    ∙ ap (joined_parts m) (take_all c.parts.k c.args.new.now (omega (arith, c.parts-test.false, c.if-old-new.false)))
