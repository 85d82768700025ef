-- Runs of bytes outside of groups in another case.
use Rattle.std.proofs.Common.{◌≡◌, ◌≢◌, ℕ, Bool, true, false, cond, eqb, List, [], ◌∷◌, ◌++◌, take, drop, map, flat_map, fold, append_assoc, refl, sym, ap, ◌∙◌, ◌⊎◌, inl, inr}
use Rattle.std.specs.Char.{to_ascii_lowercase}
use Rattle.std.proofs.lemmas.Bool.Decides.{eqb_tells}
use Rattle.std.proofs.lemmas.Grind.{flat_map-append}
use Rattle.bt_text.specs.declared.modes.Mode.{Mode}
use Rattle.bt_text.specs.declared.modes.Mode.TheVariants.{Title, Lower, Upper}
use Rattle.bt_text.specs.Blocks.{blocks}
use Rattle.bt_text.specs.CaseChange.{changed_after, changed_block, changed_byte, changed_case}
use Rattle.bt_text.specs.inner.TitlePlace.{TitlePlace, is_spared_at, next_place}
use Rattle.bt_text.proofs.CasingLemmas.{changed_from}
use Rattle.bt_text.specs.inner.Runs.{alone}
use Rattle.bt_text.specs.inner.Titles.{title_run}

small_after : (front : List ℕ) (bs : List (List ℕ)) → changed_after Lower front bs ≡ flat_map (changed_block Lower) bs
small_after front [] = refl
small_after front (block ∷ bs) = ap (λ (l : List ℕ). changed_block Lower block ++ l) (small_after (front ++ block) bs)

large_after : (front : List ℕ) (bs : List (List ℕ)) → changed_after Upper front bs ≡ flat_map (changed_block Upper) bs
large_after front [] = refl
large_after front (block ∷ bs) = ap (λ (l : List ℕ). changed_block Upper block ++ l) (large_after (front ++ block) bs)

pub small_flat : (t : List ℕ) → changed_case Lower t ≡ flat_map (changed_block Lower) (blocks t)
small_flat t = small_after [] (blocks t)

pub large_flat : (t : List ℕ) → changed_case Upper t ≡ flat_map (changed_block Upper) (blocks t)
large_flat t = large_after [] (blocks t)

-- a byte as a block of its own
changed_one : (mode : Mode) (b : ℕ) → changed_block mode (b ∷ []) ≡ changed_byte mode b ∷ []
changed_one mode b = by_brace mode (eqb_tells b 123)
  where
    by_brace : (mode : Mode) → ((eqb b 123 ≡ true) × (b ≡ 123)) ⊎ ((eqb b 123 ≡ false) × (b ≢ 123)) → cond (eqb b 123) (b ∷ []) (changed_byte mode b ∷ []) ≡ changed_byte mode b ∷ []
    by_brace Title (inl e) = rw e.1 refl
    by_brace Lower (inl e) = rw e.1 refl
    by_brace Upper (inl e) = rw e.1 refl
    by_brace mode (inr n) = rw n.0 refl

run_changed : (mode : Mode) (run : List ℕ) → flat_map (changed_block mode) (alone run) ≡ map (changed_byte mode) run
run_changed mode [] = refl
run_changed mode (b ∷ run) = rw (changed_one mode b, run_changed mode run) refl

-- a turn that puts a run after what is there
pub flat_pushed : (mode : Mode) (out new t front back all : List ℕ) (n : ℕ) → blocks t ≡ alone (take n t) ++ blocks (drop n t) → front ≡ take n t → back ≡ drop n t → new ≡ out ++ map (changed_byte mode) front → out ++ flat_map (changed_block mode) (blocks t) ≡ all → new ++ flat_map (changed_block mode) (blocks back) ≡ all
flat_pushed mode out new t front back all n first is_front is_back grown so_far =
    let rest = flat_map (changed_block mode) (blocks (drop n t)) in
    let cut = ap (flat_map (changed_block mode)) first ∙ flat_map-append (changed_block mode) (alone (take n t)) (blocks (drop n t)) ∙ ap (λ (l : List ℕ). l ++ rest) (run_changed mode (take n t)) in
    rw (grown, is_front, is_back)
    (append_assoc out (map (changed_byte mode) (take n t)) rest ∙ ap (λ (l : List ℕ). out ++ l) (sym cut) ∙ so_far)

title_changed : (place : TitlePlace) (run : List ℕ) (bs : List (List ℕ)) → changed_from Title place (alone run ++ bs) ≡ title_run place run ++ changed_from Title (fold next_place place run) bs
title_changed place [] bs = refl
title_changed place (b ∷ run) bs =
    ap (λ (l : List ℕ). cond (is_spared_at Title place) (b ∷ []) l ++ changed_from Title (next_place place b) (alone run ++ bs)) (changed_one Title b)
    ∙ by_test (is_spared_at Title place) (title_changed (next_place place b) run bs)
  where
    by_test : (s : Bool) → changed_from Title (next_place place b) (alone run ++ bs) ≡ title_run (next_place place b) run ++ changed_from Title (fold next_place (next_place place b) run) bs → cond s (b ∷ []) (to_ascii_lowercase b ∷ []) ++ changed_from Title (next_place place b) (alone run ++ bs) ≡ cond s b (to_ascii_lowercase b) ∷ (title_run (next_place place b) run ++ changed_from Title (fold next_place (next_place place b) run) bs)
    by_test true e = ap (λ (l : List ℕ). b ∷ l) e
    by_test false e = ap (λ (l : List ℕ). to_ascii_lowercase b ∷ l) e

pub title_pushed : (p q : TitlePlace) (out new t front back all : List ℕ) (n : ℕ) → blocks t ≡ alone (take n t) ++ blocks (drop n t) → front ≡ take n t → back ≡ drop n t → new ≡ out ++ title_run p front → q ≡ fold next_place p front → out ++ changed_from Title p (blocks t) ≡ all → new ++ changed_from Title q (blocks back) ≡ all
title_pushed p q out new t front back all n first is_front is_back grown moved so_far =
    let rest = changed_from Title (fold next_place p (take n t)) (blocks (drop n t)) in
    let cut = ap (changed_from Title p) first ∙ title_changed p (take n t) (blocks (drop n t)) in
    rw (grown, moved, is_front, is_back)
    (append_assoc out (title_run p (take n t)) rest ∙ ap (λ (l : List ℕ). out ++ l) (sym cut) ∙ so_far)
