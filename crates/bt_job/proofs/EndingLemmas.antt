-- Endings of names.
use Rattle.std.specs.Prelude.{codes}
use Rattle.std.specs.Str.{bytes_eq}
use Rattle.std.proofs.Math.Seq.{drop-append_seam}
use Rattle.std.proofs.Common.{◌≡◌, ℕ, ◌-◌, Bool, true, false, cond, List, [], ◌∷◌, ◌++◌, length, drop, length-append, refl, sym, ap, ◌∙◌, arith}
use Rattle.bt_job.specs.FileNames.{is_aux, with_ending}
use Rattle.bt_job.proofs.NameLemmas.{same_bytes}
use Rattle.bt_job.proofs.FileLemmas.{is_base}

-- the last four bytes
end_of : (name : List ℕ) (a b c d : ℕ) → drop (length (name ++ a ∷ b ∷ c ∷ d ∷ []) - 4) (name ++ a ∷ b ∷ c ∷ d ∷ []) ≡ a ∷ b ∷ c ∷ d ∷ []
end_of name a b c d =
    let count : length (name ++ a ∷ b ∷ c ∷ d ∷ []) - 4 ≡ length name = omega (arith, length-append name (a ∷ b ∷ c ∷ d ∷ [])) in
    ap (λ n. drop n (name ++ a ∷ b ∷ c ∷ d ∷ [])) count ∙ drop-append_seam name (a ∷ b ∷ c ∷ d ∷ [])

pub aux_ends : (root : List ℕ) → is_aux (root ++ codes ".aux") ≡ true
aux_ends root = ap (λ t. bytes_eq (codes ".aux") t) (end_of root 46 97 117 120)

pub base_ends : (part : List ℕ) → is_base (with_ending (codes ".bib") part) ≡ true
base_ends part = go (is_base part) refl
  where
    go : (b : Bool) → is_base part ≡ b → is_base (cond b part (part ++ codes ".bib")) ≡ true
    go true e = e
    go false e = ap (λ t. bytes_eq (codes ".bib") t) (end_of part 46 98 105 98)

-- no name ends in both
pub base_not_aux : (name : List ℕ) → is_base name ≡ true → is_aux name ≡ false
base_not_aux name h = ap (λ t. bytes_eq (codes ".aux") t) (sym (same_bytes (codes ".bib") (drop (length name - 4) name) h))

pub aux_not_base : (name : List ℕ) → is_aux name ≡ true → is_base name ≡ false
aux_not_base name h = ap (λ t. bytes_eq (codes ".bib") t) (sym (same_bytes (codes ".aux") (drop (length name - 4) name) h))
