-- The parts of a name whose sections stand one after another.
use Rattle.std.proofs.Common.{◌≡◌, ℕ, ◌-◌, ◌≤◌, List, [], ◌++◌, length, take, drop, count_by, Some, slice_range, refl, sym, ap, ◌∙◌, arith, length-append}
use Rattle.std.proofs.lemmas.List.{drop-append-le, drop_all, take-append-le, take_all}
use Rattle.bt_text.specs.Blocks.{blocks}
use Rattle.bt_names.specs.declared.tokens.Token.{Token}
use Rattle.bt_names.specs.Cuts.{kept_blocks, runs, tokens}
use Rattle.bt_names.specs.NameParts.{parts_of, section_tokens, with_commas, without_comma}
use Rattle.bt_names.specs.inner.Cases.{is_comma}
use Rattle.bt_names.specs.inner.Cuts.{first_section, other_sections, sections_from}
use Rattle.bt_names.proofs.SplittingLemmas.{parts_of_one, parts_of_two, parts_of_three}

take_front : (xs ys : List Token) → take (length xs) (xs ++ ys) ≡ xs
take_front xs ys = take-append-le (length xs) xs ys (omega arith) ∙ take_all (length xs) xs (omega arith)

drop_front : (xs ys : List Token) → drop (length xs) (xs ++ ys) ≡ ys
drop_front xs ys = drop-append-le (length xs) xs ys (omega arith) ∙ ap (λ (l : List Token). l ++ ys) (drop_all (length xs) xs (omega arith))

range_none : (xs : List Token) (n : ℕ) → slice_range xs n n ≡ []
range_none xs n =
    let none : n - n ≡ 0 = omega arith in
    ap (λ k. take k (drop n xs)) none

range_middle : (xs ys zs : List Token) → slice_range ((xs ++ ys) ++ zs) (length xs) (length (xs ++ ys)) ≡ ys
range_middle xs ys zs =
    let len : length (xs ++ ys) - length xs ≡ length ys = omega (arith, length-append xs ys) in
    let behind : drop (length xs) ((xs ++ ys) ++ zs) ≡ ys ++ zs = drop-append-le (length xs) (xs ++ ys) zs (omega (arith, length-append xs ys)) ∙ ap (λ (l : List Token). l ++ zs) (drop_front xs ys) in
    ap (λ k. take k (drop (length xs) ((xs ++ ys) ++ zs))) len ∙ ap (take (length ys)) behind ∙ take_front ys zs

take_both : (xs ys zs : List Token) → take (length xs) ((xs ++ ys) ++ zs) ≡ xs
take_both xs ys zs = take-append-le (length xs) (xs ++ ys) zs (omega (arith, length-append xs ys)) ∙ take_front xs ys

first_tokens : (kept : List ℕ) (old one : List Token) → old ≡ [] → one ≡ old ++ section_tokens old (first_section kept) → one ≡ tokens 0 (runs (first_section kept))
first_tokens kept old one empty grown = grown ∙ ap (λ ws. ws ++ section_tokens ws (first_section kept)) empty

pub cut_one : (name kept rest : List ℕ) (old one : List Token) → blocks kept ≡ kept_blocks name → old ≡ [] → one ≡ old ++ section_tokens old (first_section kept) → other_sections rest ≡ other_sections kept → other_sections rest ≡ [] → parts_of name ≡ Some (without_comma one)
cut_one name kept rest old one is_kept empty grown behind none =
    parts_of_one name kept is_kept (sym behind ∙ none) ∙ ap (λ ws. Some (without_comma ws)) (sym (first_tokens kept old one empty grown))

cut_two_at : (name kept rest second end : List ℕ) (old one two : List Token) → blocks kept ≡ kept_blocks name → old ≡ [] → one ≡ old ++ section_tokens old (first_section kept) → other_sections rest ≡ other_sections kept → other_sections rest ≡ sections_from second → two ≡ one ++ section_tokens one (first_section second) → other_sections end ≡ other_sections second → other_sections end ≡ [] → parts_of name ≡ Some (with_commas (take (length one) two) (slice_range two (length one) (length one)) (drop (length one) two))
cut_two_at name kept rest second end old one two is_kept empty grown behind comma more last none =
    let others = section_tokens one (first_section second) in
    let front = ap (take (length one)) more ∙ take_front one others in
    let back = ap (drop (length one)) more ∙ drop_front one others in
    parts_of_two name kept second one others is_kept (sym behind ∙ comma) (sym last ∙ none) (first_tokens kept old one empty grown) refl
    ∙ ap Some (rw (front, range_none two (length one), back) refl)

cut_three_at : (name kept rest second end third : List ℕ) (old one two three : List Token) → count_by is_comma (blocks name) ≤ 2 → blocks kept ≡ kept_blocks name → old ≡ [] → one ≡ old ++ section_tokens old (first_section kept) → other_sections rest ≡ other_sections kept → other_sections rest ≡ sections_from second → two ≡ one ++ section_tokens one (first_section second) → other_sections end ≡ other_sections second → other_sections end ≡ sections_from third → three ≡ two ++ section_tokens two (first_section third) → parts_of name ≡ Some (with_commas (take (length one) three) (slice_range three (length one) (length two)) (drop (length two) three))
cut_three_at name kept rest second end third old one two three few is_kept empty grown behind comma more last again most =
    let jr = section_tokens one (first_section second) in
    let first = section_tokens two (first_section third) in
    let whole : three ≡ (one ++ jr) ++ first = most ∙ ap (λ (ws : List Token). ws ++ first) more in
    let front = ap (take (length one)) whole ∙ take_both one jr first in
    let middle : slice_range three (length one) (length two) ≡ jr = ap (λ ws. slice_range ws (length one) (length two)) whole ∙ ap (λ ws. slice_range ((one ++ jr) ++ first) (length one) (length ws)) more ∙ range_middle one jr first in
    let back : drop (length two) three ≡ first = ap (drop (length two)) most ∙ drop_front two first in
    parts_of_three name kept second third one jr first few is_kept (sym behind ∙ comma) (sym last ∙ again) (first_tokens kept old one empty grown) refl (ap (λ ws. section_tokens ws (first_section third)) more)
    ∙ ap Some (rw (front, middle, back) refl)

-- The same, where numbers say how many tokens stand before a comma.
pub cut_two : (n : ℕ) (name kept rest second end : List ℕ) (old one two : List Token) → blocks kept ≡ kept_blocks name → old ≡ [] → one ≡ old ++ section_tokens old (first_section kept) → other_sections rest ≡ other_sections kept → other_sections rest ≡ sections_from second → two ≡ one ++ section_tokens one (first_section second) → other_sections end ≡ other_sections second → other_sections end ≡ [] → n ≡ length one → parts_of name ≡ Some (with_commas (take n two) (slice_range two n n) (drop n two))
cut_two n name kept rest second end old one two is_kept empty grown behind comma more last none at =
    cut_two_at name kept rest second end old one two is_kept empty grown behind comma more last none
    ∙ ap (λ k. Some (with_commas (take k two) (slice_range two k k) (drop k two))) (sym at)

pub cut_three : (n m : ℕ) (name kept rest second end third : List ℕ) (old one two three : List Token) → count_by is_comma (blocks name) ≤ 2 → blocks kept ≡ kept_blocks name → old ≡ [] → one ≡ old ++ section_tokens old (first_section kept) → other_sections rest ≡ other_sections kept → other_sections rest ≡ sections_from second → two ≡ one ++ section_tokens one (first_section second) → other_sections end ≡ other_sections second → other_sections end ≡ sections_from third → three ≡ two ++ section_tokens two (first_section third) → n ≡ length one → m ≡ length two → parts_of name ≡ Some (with_commas (take n three) (slice_range three n m) (drop m three))
cut_three n m name kept rest second end third old one two three few is_kept empty grown behind comma more last again most at and =
    cut_three_at name kept rest second end third old one two three few is_kept empty grown behind comma more last again most
    ∙ ap (λ k. Some (with_commas (take k three) (slice_range three k (length two)) (drop (length two) three))) (sym at)
    ∙ ap (λ k. Some (with_commas (take n three) (slice_range three n k) (drop k three))) (sym and)
