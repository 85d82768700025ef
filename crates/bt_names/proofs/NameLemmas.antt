-- A name without right braces.
use Rattle.std.proofs.Common.{◌≡◌, ℕ, suc, ◌<◌, Bool, true, false, cond, eqb, ◌&&◌, List, [], ◌∷◌, length, get_or, None, refl, sym, ap, ◌∙◌, arith}
use Rattle.memchr.specs.Find.{IsFirstByte, is_byte}
use Rattle.bt_text.specs.Blocks.{blocks}
use Rattle.bt_text.specs.Depth.{depth_after}
use Rattle.bt_names.specs.Cuts.{kept_blocks}
use Rattle.bt_names.proofs.StrayLemmas.{blocks_kept, kept_from}

not_true : (v : Bool) → (v ≡ true → ⊥) → v ≡ false
not_true true h = absurd (h refl)
not_true false h = refl

kept_all : (d : ℕ) (t : List ℕ) → ((j : ℕ) → j < length t → eqb (get_or t j 0) 125 ≡ true → ⊥) → kept_from d t ≡ t
kept_all d [] none = refl
kept_all d (b ∷ t) none =
    let rest = kept_from (depth_after d b) t in
    ap (λ x. cond (x && eqb d 0) rest (b ∷ rest)) (not_true (eqb b 125) (none 0 (omega arith))) ∙ ap (λ (l : List ℕ). b ∷ l) (kept_all (depth_after d b) t (λ j lt. none (suc j) (omega arith)))

pub unbraced : (t : List ℕ) → IsFirstByte (is_byte 125) t None → blocks t ≡ kept_blocks t
unbraced t none = sym (ap blocks (kept_all 0 t (λ j lt. none j (omega arith) lt))) ∙ blocks_kept t
