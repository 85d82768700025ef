use Rattle.std.proofs.Common.{◌≡◌, List, arith, ap, ◌∙◌, take, subst}
use Rattle.std.proofs.lemmas.Grind.{common_steps}
use Rattle.std.proofs.lemmas.List.Elements.{All-more}
use Rattle.bt_marks.specs.declared.lines.Written.{Written}
use Rattle.bt_why.specs.Named.{AreRight, IsLineRight}
use Rattle.bt_why.proofs.machine.Machine.wrong_line.Goals as goal

pub lines-preserved : goal.lines-preserved
lines-preserved c =
    All-more (λ line. IsLineRight c.args.self.now line.items) c.args.lines.now c.lines.number c.index-lines-number.result c.lines-test.true c.lines.invariant
    (subst (λ (line : List Written). IsLineRight c.args.self.now line) (c.as_slice.ensures.value ∙ ap (λ line. line.items) c.index-lines-number.is)
    (c.is_line_right.ensures c.if-not-is_line_right.false))

pub returns : goal.returns
returns c none =
    let whole : take c.lines.number c.args.lines.now ≡ c.args.lines.now = grind (arith, common_steps) in
    subst (AreRight c.args.self.now) whole c.lines.invariant
