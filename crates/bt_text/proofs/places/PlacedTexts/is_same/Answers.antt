use Rattle.std.proofs.Common.{◌≡◌, sym, ap, ◌∙◌, true, false, Bool, arith, nat_eq}
use Rattle.std.specs.Prelude.{◌==◌, ◌&&◌}
use Rattle.std.proofs.lemmas.Bool.Decides.{nat_tests}
use Rattle.bt_text.specs.inner.Merging.{Present, same_present}
use Rattle.bt_text.proofs.SparseLemmas.{same_is}
use Rattle.bt_text.proofs.places.PlacedTexts.is_same.Goals as goal

pub returns-then-self-others : goal.returns-then-self-others
returns-then-self-others c =
    let xs = c.self.inside.present.items in
    let ys = c.others.inside.present.items in
    let as_many : (c.self.inside.count == c.others.inside.count) ≡ true = grind (arith, nat_tests, c.if-self-others.true) in
    let tested : c.same_present.result ≡ (c.self.inside.count == c.others.inside.count && same_present xs ys) =
    c.same_present.ensures
    ∙ ap (λ (zs : Present). same_present zs c.as_slice-then-self-others.result.now) c.as_slice.ensures.value
    ∙ ap (same_present xs) c.as_slice-then-self-others.ensures.value
    ∙ ap (λ (b : Bool). b && same_present xs ys) (sym as_many) in
    let both = same_is c.same_present.result xs ys c.self.inside.count c.others.inside.count c.self.invariant c.others.invariant tested in
    (λ h. sym c.self.view_is ∙ both.0 h ∙ c.others.view_is, λ e. both.1 (c.self.view_is ∙ e ∙ sym c.others.view_is))

pub returns-else-self-others : goal.returns-else-self-others
returns-else-self-others c =
    let xs = c.self.inside.present.items in
    let ys = c.others.inside.present.items in
    let counted = nat_eq c.self.inside.count c.others.inside.count in
    let fewer : (c.self.inside.count == c.others.inside.count) ≡ false = grind (arith, nat_tests, c.if-self-others.false) in
    let other : counted ≡ false = grind (arith, nat_tests, c.if-self-others.false) in
    let tested : counted ≡ (c.self.inside.count == c.others.inside.count && same_present xs ys) =
    other ∙ ap (λ (b : Bool). b && same_present xs ys) (sym fewer) in
    let both = same_is counted xs ys c.self.inside.count c.others.inside.count c.self.invariant c.others.invariant tested in
    (λ h. sym c.self.view_is ∙ both.0 h ∙ c.others.view_is, λ e. both.1 (c.self.view_is ∙ e ∙ sym c.others.view_is))
