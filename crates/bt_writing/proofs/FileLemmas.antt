-- One file more of a paper.
use Rattle.std.proofs.Common.{◌≡◌, ℕ, suc, ◌+◌, ◌≤◌, List, ◌++◌, length, drop, refl, ap, sym, ◌∙◌, append_assoc, arith, true, false, Some}
use Rattle.std.specs.Prelude.{slice_get, is_some}
use Rattle.serde_json.specs.Data.{Data, null, boolean, number, string, array, object}
use Rattle.serde_json.specs.Find.{as_null}
use Rattle.bt_positions.specs.declared.counting.Counting.{Counting}
use Rattle.bt_writing.specs.Finding.{location_in, or_else, found_in}
use Rattle.bt_writing.specs.Citing.{candidates_from, candidates_in}
use Rattle.bt_writing.specs.declared.written.Written.{Written}
use Rattle.bt_places.proofs.FileLemmas.{drop_at, drop_end}

-- what completions offer after one more file
pub next_candidates : (w : Written) (files : List (List ℕ × List ℕ)) (n m : ℕ) (uri words : List ℕ) (old new whole : List Data) → slice_get files n ≡ Some (uri, words) → m ≡ n + 1 →
    old ++ candidates_in w (drop n files) ≡ whole → new ≡ old ++ candidates_from w uri words → new ++ candidates_in w (drop m files) ≡ whole
next_candidates w files n m uri words old new whole at is before more =
    let there = drop_at files n m (uri, words) at (omega (arith, is)) in
    ap (λ t. t ++ candidates_in w (drop m files)) more ∙ append_assoc old (candidates_from w uri words) (candidates_in w (drop m files)) ∙
    ap (λ fs. old ++ candidates_in w fs) (sym there) ∙ before

or_else_null : (d e : Data) → is_some (as_null d) ≡ true → or_else d e ≡ e
or_else_null null e p = refl
or_else_null (boolean b) e p = absurd (cc)
or_else_null (number n) e p = absurd (cc)
or_else_null (string s) e p = absurd (cc)
or_else_null (array ds) e p = absurd (cc)
or_else_null (object ms) e p = absurd (cc)

or_else_first : (d e : Data) → is_some (as_null d) ≡ false → or_else d e ≡ d
or_else_first null e p = absurd (cc)
or_else_first (boolean b) e p = refl
or_else_first (number n) e p = refl
or_else_first (string s) e p = refl
or_else_first (array ds) e p = refl
or_else_first (object ms) e p = refl

-- a file that doesn't have the entry
pub found_later : (units : List ℕ → Counting) (key : List ℕ) (files : List (List ℕ × List ℕ)) (n m : ℕ) (uri words : List ℕ) (d whole : Data) → slice_get files n ≡ Some (uri, words) → m ≡ n + 1 →
    found_in units key (drop n files) ≡ whole → d ≡ location_in (units uri) key uri words → is_some (as_null d) ≡ true → found_in units key (drop m files) ≡ whole
found_later units key files n m uri words d whole at is before here none =
    let there = drop_at files n m (uri, words) at (omega (arith, is)) in
    sym (or_else_null (location_in (units uri) key uri words) (found_in units key (drop m files)) (ap (λ x. is_some (as_null x)) (sym here) ∙ none)) ∙
    ap (found_in units key) (sym there) ∙ before

-- the first file that has it
pub found_here : (units : List ℕ → Counting) (key : List ℕ) (files : List (List ℕ × List ℕ)) (n : ℕ) (uri words : List ℕ) (d whole : Data) → slice_get files n ≡ Some (uri, words) →
    found_in units key (drop n files) ≡ whole → d ≡ location_in (units uri) key uri words → is_some (as_null d) ≡ false → d ≡ whole
found_here units key files n uri words d whole at before here some =
    let there = drop_at files n (suc n) (uri, words) at refl in
    here ∙ sym (or_else_first (location_in (units uri) key uri words) (found_in units key (drop (suc n) files)) (ap (λ x. is_some (as_null x)) (sym here) ∙ some)) ∙
    ap (found_in units key) (sym there) ∙ before

-- no file has it
pub found_nowhere : (units : List ℕ → Counting) (key : List ℕ) (files : List (List ℕ × List ℕ)) (n count : ℕ) (whole : Data) → count ≡ length files → count ≤ n → found_in units key (drop n files) ≡ whole → null ≡ whole
found_nowhere units key files n count whole is l before = ap (found_in units key) (sym (drop_end files n (omega (arith, is, l)))) ∙ before
