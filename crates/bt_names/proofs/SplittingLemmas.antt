-- The parts of a name.
use Rattle.std.proofs.Common.{◌≡◌, ◌⊎◌, inl, inr, ℕ, ◌+◌, ◌<◌, ◌≤◌, Bool, true, false, cond, eqb, not, List, [], ◌∷◌, ◌++◌, length, filter, count_by, None, Some, is_some, refl, sym, ap, ◌∙◌, arith}
use Rattle.std.specs.List.{slice_split}
use Rattle.std.proofs.lemmas.List.Sums.{sum_by-cons}
use Rattle.std.proofs.lemmas.List.Splits.{length-slice_split}
use Rattle.std.proofs.lemmas.Bool.{cases_Bool, eqb-true}
use Rattle.bt_text.specs.Blocks.{blocks}
use Rattle.bt_names.specs.declared.tokens.Token.{Token}
use Rattle.bt_names.specs.Cuts.{is_single, kept_blocks, runs, sections, tokens, lead_after}
use Rattle.bt_names.specs.inner.Cases.{is_comma}
use Rattle.bt_names.specs.inner.Cuts.{sections_from, first_section, other_sections}
use Rattle.bt_names.specs.NameParts.{parts_of, parts_of_sections, with_commas, without_comma}
use Rattle.bt_names.proofs.StrayLemmas.{is_kept}
use Rattle.bt_names.proofs.CuttingLemmas.{sections_is}

stray_no_comma : (block : List ℕ) → is_single (λ b. eqb b 125) block ≡ true → is_comma block ≡ false
stray_no_comma [] h = refl
stray_no_comma (b ∷ []) h = ap (λ x. eqb x 44) (eqb-true b 125 h)
stray_no_comma (b ∷ c ∷ block) h = refl

commas_kept : (bs : List (List ℕ)) → count_by is_comma (filter is_kept bs) ≡ count_by is_comma bs
commas_kept [] = refl
commas_kept (block ∷ bs) = by_test (cases_Bool (is_single (λ b. eqb b 125) block)) (commas_kept bs)
  where
    by_test : (is_single (λ b. eqb b 125) block ≡ true) ⊎ (is_single (λ b. eqb b 125) block ≡ false) → count_by is_comma (filter is_kept bs) ≡ count_by is_comma bs → count_by is_comma (filter is_kept (block ∷ bs)) ≡ count_by is_comma (block ∷ bs)
    by_test (inl e) ih =
        let dropped = ap (λ x. count_by is_comma (cond (not x) (block ∷ filter is_kept bs) (filter is_kept bs))) e in
        let others = sum_by-cons (λ x. cond {A = ℕ} (is_comma x) 1 0) block bs in
        let none = ap (λ (x : Bool). cond {A = ℕ} x 1 0) (stray_no_comma block e) in
        omega (arith, dropped, others, none, ih)
    by_test (inr e) ih =
        let kept = ap (λ x. count_by is_comma (cond (not x) (block ∷ filter is_kept bs) (filter is_kept bs))) e in
        let others = sum_by-cons (λ x. cond {A = ℕ} (is_comma x) 1 0) block bs in
        let others_kept = sum_by-cons (λ x. cond {A = ℕ} (is_comma x) 1 0) block (filter is_kept bs) in
        omega (arith, kept, others, others_kept, ih)

pub length-sections : (name : List ℕ) → length (sections name) ≡ count_by is_comma (blocks name) + 1
length-sections name = length-slice_split is_comma (kept_blocks name) ∙ ap (λ n. n + 1) (commas_kept (blocks name))

none_of_many : (ss : List (List (List ℕ))) → 3 < length ss → parts_of_sections ss ≡ None
none_of_many [] h = absurd (omega arith)
none_of_many (a ∷ []) h = absurd (omega arith)
none_of_many (a ∷ b ∷ []) h = absurd (omega arith)
none_of_many (a ∷ b ∷ c ∷ []) h = absurd (omega arith)
none_of_many (a ∷ b ∷ c ∷ d ∷ ss) h = refl

pub too_many_commas : (name : List ℕ) → 2 < count_by is_comma (blocks name) → parts_of name ≡ None
too_many_commas name h = none_of_many (sections name) (omega (arith, length-sections name))

sections_kept : (name kept : List ℕ) → blocks kept ≡ kept_blocks name → sections name ≡ first_section kept ∷ other_sections kept
sections_kept name kept e = ap (slice_split is_comma) (sym e) ∙ sections_is kept

pub parts_of_one : (name kept : List ℕ) → blocks kept ≡ kept_blocks name → other_sections kept ≡ [] → parts_of name ≡ Some (without_comma (tokens 0 (runs (first_section kept))))
parts_of_one name kept e f = ap parts_of_sections (sections_kept name kept e ∙ ap (λ ss. first_section kept ∷ ss) f)

pub parts_of_two : (name kept rest : List ℕ) (front second : List Token) → blocks kept ≡ kept_blocks name → other_sections kept ≡ sections_from rest → other_sections rest ≡ [] → front ≡ tokens 0 (runs (first_section kept)) → second ≡ tokens (lead_after front) (runs (first_section rest)) → parts_of name ≡ Some (with_commas front [] second)
parts_of_two name kept rest front second e f g h k =
    ap parts_of_sections (sections_kept name kept e ∙ ap (λ ss. first_section kept ∷ ss) (f ∙ sections_is rest ∙ ap (λ ss. first_section rest ∷ ss) g)) ∙ ap (λ ws. Some (with_commas ws [] (tokens (lead_after ws) (runs (first_section rest))))) (sym h) ∙ ap (λ ws. Some (with_commas front [] ws)) (sym k)

last_section : (ss : List (List (List ℕ))) → length ss ≡ 0 → ss ≡ []
last_section [] h = refl
last_section (s ∷ ss) h = absurd (omega arith)

pub parts_of_three : (name kept rest behind : List ℕ) (front second third : List Token) → count_by is_comma (blocks name) ≤ 2 → blocks kept ≡ kept_blocks name → other_sections kept ≡ sections_from rest → other_sections rest ≡ sections_from behind → front ≡ tokens 0 (runs (first_section kept)) → second ≡ tokens (lead_after front) (runs (first_section rest)) → third ≡ tokens (lead_after (front ++ second)) (runs (first_section behind)) → parts_of name ≡ Some (with_commas front second third)
parts_of_three name kept rest behind front second third few e f g h k m =
    let three : sections name ≡ first_section kept ∷ first_section rest ∷ first_section behind ∷ other_sections behind = sections_kept name kept e ∙ ap (λ ss. first_section kept ∷ ss) (f ∙ sections_is rest ∙ ap (λ ss. first_section rest ∷ ss) (g ∙ sections_is behind)) in
    let none : other_sections behind ≡ [] = last_section (other_sections behind) (omega (arith, few, length-sections name, ap length three)) in
    ap parts_of_sections (three ∙ ap (λ ss. first_section kept ∷ first_section rest ∷ first_section behind ∷ ss) none) ∙ ap (λ ws. Some (with_commas ws (tokens (lead_after ws) (runs (first_section rest))) (tokens (lead_after (ws ++ tokens (lead_after ws) (runs (first_section rest)))) (runs (first_section behind))))) (sym h) ∙ ap (λ ws. Some (with_commas front ws (tokens (lead_after (front ++ ws)) (runs (first_section behind))))) (sym k) ∙ ap (λ ws. Some (with_commas front second ws)) (sym m)

parts_of_few : (ss : List (List (List ℕ))) → 0 < length ss → length ss ≤ 3 → is_some (parts_of_sections ss) ≡ true
parts_of_few [] h g = absurd (omega arith)
parts_of_few (a ∷ []) h g = refl
parts_of_few (a ∷ b ∷ []) h g = refl
parts_of_few (a ∷ b ∷ c ∷ []) h g = refl
parts_of_few (a ∷ b ∷ c ∷ d ∷ ss) h g = absurd (omega arith)

pub few_commas : (name : List ℕ) → count_by is_comma (blocks name) ≤ 2 → is_some (parts_of name) ≡ true
few_commas name h = parts_of_few (sections name) (omega (arith, length-sections name)) (omega (arith, length-sections name, h))
