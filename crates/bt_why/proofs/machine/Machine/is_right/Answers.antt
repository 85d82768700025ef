use Rattle.std.proofs.Common.{sym, ◌∙◌}
use Rattle.bt_why.specs.Named.{IsRight}
use Rattle.bt_why.proofs.NamedLemmas.{is_added_source, right_if_named}
use Rattle.bt_why.proofs.machine.Machine.is_right.Goals as goal

pub returns-in-Added : goal.returns-in-Added
returns-in-Added c t =
    c.marks.invariant (IsRight.Supplied c.marks.is_made c.marks.number c.in-Some.mark (sym c.mark.ensures ∙ c.in-Some.is)
    (is_added_source c.in-Some.mark.source c.in-Added.is))

pub returns-in-Some-named_byte : goal.returns-in-Some-named_byte
returns-in-Some-named_byte c t =
    c.marks.invariant (right_if_named c.args.self.now c.args.marked.byte c.args.marked.at c.marks.is_made c.marks.number c.in-Some.mark c.in-Some-named_byte.named
    (sym c.mark.ensures ∙ c.in-Some.is) (sym c.named_byte.ensures ∙ c.in-Some-named_byte.is) (sym c.is_byte_of.ensures ∙ search))

pub marks-preserved : goal.marks-preserved
marks-preserved c right =
    c.marks.invariant (IsRight.Changed c.marks.is_made c.marks.number c.in-Some.mark _ c.in-Made.of (sym c.mark.ensures ∙ c.in-Some.is) c.in-Made.is right)
