-- Texts that have no capital letters.
use Rattle.std.proofs.Common.{◌≡◌, ℕ, Bool, true, false, ◌&&◌, List, [], ◌∷◌, refl, sym, ap, ◌∙◌, true≢false}
use Rattle.std.specs.Prelude.{nat_eq}
use Rattle.std.specs.List.{list_all}
use Rattle.std.specs.Char.{to_ascii_lowercase}
use Rattle.std.proofs.lemmas.Bool.{eqb-true}
use Rattle.bt_text.specs.CaseFolding.{folded}

and_both : (a c : Bool) → (a && c) ≡ true → (a ≡ true) × (c ≡ true)
and_both true c h = (refl, h)
and_both false c h = absurd (true≢false (sym h))

pub small_stays : (t : List ℕ) → list_all (λ b. nat_eq (to_ascii_lowercase b) b) t ≡ true → folded t ≡ t
small_stays [] h = refl
small_stays (b ∷ t) h =
    let both = and_both (nat_eq (to_ascii_lowercase b) b) (list_all (λ b. nat_eq (to_ascii_lowercase b) b) t) h in
    ap (λ (c : ℕ). c ∷ folded t) (eqb-true (to_ascii_lowercase b) b both.0) ∙ ap (λ u. b ∷ u) (small_stays t both.1)
