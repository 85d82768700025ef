-- Two texts with the same bytes below a place are read alike.
use Rattle.std.proofs.Common.{◌≡◌, ℕ, suc, ◌+◌, ◌-◌, ◌<◌, ◌≤◌, Bool, true, false, cond, List, [], ◌∷◌, take, Some, refl, sym, ap, subst, ◌∙◌, arith}
use Rattle.std.proofs.lemmas.List.{take-take}
use Rattle.bt_bib.specs.declared.spot.Spot.{Spot}
use Rattle.bt_bib.specs.Spot.{Here, at, spot_after_byte, after_byte, after_first_byte}
use Rattle.bt_bib.specs.Scan.{first, run, after_run}
use Rattle.bt_bib.proofs.RunLemmas.{past_run, past_is_run, run_is_between}
use Rattle.bt_bib.proofs.EnclosedLemmas.{between}
use Rattle.bt_bib.proofs.ReachLemmas.{Reaches, reaches_place, past_reaches}

-- the same spot, and the same bytes up to place limit
pub record Alike (limit : ℕ) (h k : Here) : Type 0 where
  pub spot : k.spot ≡ h.spot
  pub rest : take (limit - h.spot.place) h.rest ≡ take (limit - h.spot.place) k.rest

below : (limit : ℕ) (s : Spot) → s.place < limit → limit - s.place ≡ suc (limit - (s.place + 1))
below limit s lt = omega arith

-- one more byte of both
pub alike_cons : (limit : ℕ) (s t : Spot) (b c : ℕ) (bs cs : List ℕ) → s.place < limit → Alike limit (at s (b ∷ bs)) (at t (c ∷ cs)) → (b ≡ c) × Alike limit (at (spot_after_byte b s) bs) (at (spot_after_byte c t) cs)
alike_cons limit s t b c bs cs lt a =
    let e : take (suc (limit - (s.place + 1))) (b ∷ bs) ≡ take (suc (limit - (s.place + 1))) (c ∷ cs) = subst (λ n. take n (b ∷ bs) ≡ take n (c ∷ cs)) (below limit s lt) a.rest in
    let head : b ≡ c = cc e in (
      head,
      record {
        spot = ap (λ x. spot_after_byte x t) (sym head) ∙ ap (spot_after_byte b) a.spot;
        rest = cc e;
      },
    )

pub alike_nil_cons : (limit : ℕ) (s t : Spot) (c : ℕ) (cs : List ℕ) → s.place < limit → Alike limit (at s []) (at t (c ∷ cs)) → ⊥
alike_nil_cons limit s t c cs lt a =
    let e : take (suc (limit - (s.place + 1))) [] ≡ take (suc (limit - (s.place + 1))) (c ∷ cs) = subst (λ n. take n [] ≡ take n (c ∷ cs)) (below limit s lt) a.rest in
    cc e

pub alike_cons_nil : (limit : ℕ) (s t : Spot) (b : ℕ) (bs : List ℕ) → s.place < limit → Alike limit (at s (b ∷ bs)) (at t []) → ⊥
alike_cons_nil limit s t b bs lt a =
    let e : take (suc (limit - (s.place + 1))) (b ∷ bs) ≡ take (suc (limit - (s.place + 1))) [] = subst (λ n. take n (b ∷ bs) ≡ take n []) (below limit s lt) a.rest in
    cc e

alike_behind_first : (limit : ℕ) (s t : Spot) (r q : List ℕ) → s.place < limit → Alike limit (at s r) (at t q) → Alike limit (after_first_byte s r) (after_first_byte t q)
alike_behind_first limit s t [] [] lt a = a
alike_behind_first limit s t [] (c ∷ cs) lt a = absurd (alike_nil_cons limit s t c cs lt a)
alike_behind_first limit s t (b ∷ bs) [] lt a = absurd (alike_cons_nil limit s t b bs lt a)
alike_behind_first limit s t (b ∷ bs) (c ∷ cs) lt a = (alike_cons limit s t b c bs cs lt a).1

pub alike_behind : (limit : ℕ) (h k : Here) → h.spot.place < limit → Alike limit h k → Alike limit (after_byte h) (after_byte k)
alike_behind limit h k lt a = alike_behind_first limit h.spot k.spot h.rest k.rest lt a

alike_first_run : (limit : ℕ) (s t : Spot) (r q : List ℕ) → s.place < limit → Alike limit (at s r) (at t q) → first q ≡ first r
alike_first_run limit s t [] [] lt a = refl
alike_first_run limit s t [] (c ∷ cs) lt a = absurd (alike_nil_cons limit s t c cs lt a)
alike_first_run limit s t (b ∷ bs) [] lt a = absurd (alike_cons_nil limit s t b bs lt a)
alike_first_run limit s t (b ∷ bs) (c ∷ cs) lt a = ap (λ x. Some x) (sym (alike_cons limit s t b c bs cs lt a).0)

pub alike_first : (limit : ℕ) (h k : Here) → h.spot.place < limit → Alike limit h k → first k.rest ≡ first h.rest
alike_first limit h k lt a = alike_first_run limit h.spot k.spot h.rest k.rest lt a

alike_past_run : (limit : ℕ) (test : ℕ → Bool) (s t : Spot) (r q : List ℕ) → s.place < limit → Alike limit (at s r) (at t q) → (past_run test s r).spot.place < limit → Alike limit (past_run test s r) (past_run test t q)
unfolding past_run
alike_past_run limit test s t [] [] lt a in_limit = a
alike_past_run limit test s t [] (c ∷ cs) lt a in_limit = absurd (alike_nil_cons limit s t c cs lt a)
alike_past_run limit test s t (b ∷ bs) [] lt a in_limit = absurd (alike_cons_nil limit s t b bs lt a)
alike_past_run limit test s t (b ∷ bs) (c ∷ cs) lt a in_limit =
    let next = alike_cons limit s t b c bs cs lt a in
    let P : ℕ → Bool → Type 0 = λ x v. (cond v (past_run test (spot_after_byte b s) bs) (at s (b ∷ bs))).spot.place < limit → Alike limit (cond v (past_run test (spot_after_byte b s) bs) (at s (b ∷ bs))) (cond (test x) (past_run test (spot_after_byte c t) cs) (at t (c ∷ cs))) in
    let Q : Bool → Type 0 = λ v. (cond v (past_run test (spot_after_byte b s) bs) (at s (b ∷ bs))).spot.place < limit → Alike limit (cond v (past_run test (spot_after_byte b s) bs) (at s (b ∷ bs))) (cond v (past_run test (spot_after_byte c t) cs) (at t (c ∷ cs))) in
    let both : Q (test b) = elim (test b) as Q [
      | true ↦ λ inner. alike_past_run limit test (spot_after_byte b s) (spot_after_byte c t) bs cs (omega (arith, reaches_place (at (spot_after_byte b s) bs) (past_run test (spot_after_byte b s) bs) (subst (λ e. Reaches (at (spot_after_byte b s) bs) e) (past_is_run test (spot_after_byte b s) bs) (past_reaches test (at (spot_after_byte b s) bs))))) next.1 inner
      | false ↦ λ inner. a
    ] in
    subst (λ x. P x (test b)) next.0 both in_limit

pub alike_past : (limit : ℕ) (test : ℕ → Bool) (h k : Here) → Alike limit h k → (after_run test h).spot.place < limit → Alike limit (after_run test h) (after_run test k)
alike_past limit test h k a lt =
    let walked : past_run test h.spot h.rest ≡ after_run test h = sym (past_is_run test h.spot h.rest) in
    let also : past_run test k.spot k.rest ≡ after_run test k = sym (past_is_run test k.spot k.rest) in
    let below : (past_run test h.spot h.rest).spot.place < limit = subst (λ (e : Here). e.spot.place < limit) (sym walked) lt in
    subst (λ e. Alike limit (after_run test h) e) also (subst (λ e. Alike limit e (past_run test k.spot k.rest)) walked (alike_past_run limit test h.spot k.spot h.rest k.rest (omega (arith, reaches_place h (after_run test h) (past_reaches test h))) a below))

pub alike_between : (limit : ℕ) (h k e f : Here) → Reaches h e → e.spot.place < limit → Alike limit h k → Alike limit e f → between k f ≡ between h e
alike_between limit h k e f r lt a b =
    let n : f.spot.place - k.spot.place ≡ e.spot.place - h.spot.place = omega (arith, ap (λ (s : Spot). s.place) a.spot, ap (λ (s : Spot). s.place) b.spot) in
    let le : e.spot.place - h.spot.place ≤ limit - h.spot.place = omega (arith, reaches_place h e r) in
    ap (λ x. take x k.rest) n ∙ sym (take-take (e.spot.place - h.spot.place) (limit - h.spot.place) k.rest le) ∙ ap (take (e.spot.place - h.spot.place)) (sym a.rest) ∙ take-take (e.spot.place - h.spot.place) (limit - h.spot.place) h.rest le

-- the same run of bytes
pub alike_run : (limit : ℕ) (test : ℕ → Bool) (h k : Here) → Alike limit h k → (after_run test h).spot.place < limit → run test k ≡ run test h
alike_run limit test h k a lt = run_is_between test k ∙ alike_between limit h k (after_run test h) (after_run test k) (past_reaches test h) lt a (alike_past limit test h k a lt) ∙ sym (run_is_between test h)
