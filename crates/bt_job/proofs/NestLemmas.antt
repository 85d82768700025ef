-- If what a line opens comes directly after it, a queue of lines and nested lines give the same.
use Rattle.std.specs.Prelude.{fold}
use Rattle.std.proofs.Common.{◌≡◌, ℕ, zero, suc, ◌≤◌, List, [], ◌∷◌, ◌++◌, refl, sym, ap, ◌∙◌, arith}

unfoldable pub nested : {A : Type 0} → (List A → A → List A) → ℕ → List A → A → List A
nested opened zero before line = before ++ line ∷ []
nested opened (suc deep) before line = fold (nested opened deep) (before ++ line ∷ []) (opened before line)

-- what is known of the queue: it ends, and what a line opens comes directly after it
pub record IsQueue {A : Type 0} (opened : List A → A → List A) (all : List A → List A → List A) : Type 0 where
  pub at_end : (before : List A) → all before [] ≡ before
  pub in_place : (before : List A) (line : A) (later : List A) →
      all before (line ∷ later) ≡ all (before ++ line ∷ []) (opened before line ++ later)

-- a measure that no line raises, and that a line lowers which opens anything
pub record Lowers {A : Type 0} (opened : List A → A → List A) (room : List A → ℕ) : Type 0 where
  pub no_more : (before : List A) (line : A) → room (before ++ line ∷ []) ≤ room before
  pub fewer : (before : List A) (line first : A) (others : List A) → opened before line ≡ first ∷ others →
      suc (room (before ++ line ∷ [])) ≤ room before

fold_lowers : {A : Type 0} (room : List A → ℕ) (step : List A → A → List A) →
    ((before : List A) (line : A) → room (step before line) ≤ room before) →
    (next before : List A) → room (fold step before next) ≤ room before
fold_lowers room step h [] before = omega arith
fold_lowers room step h (line ∷ more) before =
    omega (arith, h before line, fold_lowers room step h more (step before line))

nested_lowers : {A : Type 0} (opened : List A → A → List A) (room : List A → ℕ) → Lowers opened room →
    (deep : ℕ) (before : List A) (line : A) → room (nested opened deep before line) ≤ room before
unfolding nested
nested_lowers opened room l zero before line = l.no_more before line
nested_lowers opened room l (suc deep) before line =
    let all = fold_lowers room (nested opened deep) (nested_lowers opened room l deep) (opened before line) (before ++ line ∷ []) in
    omega (arith, all, l.no_more before line)

pub nests : {A : Type 0} (opened : List A → A → List A) (all : List A → List A → List A) (room : List A → ℕ) →
    IsQueue opened all → Lowers opened room →
    (deep : ℕ) (next before later : List A) → room before ≤ deep →
    all before (next ++ later) ≡ all (fold (nested opened deep) before next) later
unfolding nested
nests {A = A} opened all room q l deep [] before later h = refl
nests {A = A} opened all room q l zero (line ∷ more) before later h =
    let rest : all (before ++ line ∷ []) (more ++ later) ≡ all (fold (nested opened zero) (before ++ line ∷ []) more) later =
    nests opened all room q l zero more (before ++ line ∷ []) later (omega (arith, h, l.no_more before line)) in
    q.in_place before line (more ++ later) ∙ nothing (opened before line) refl ∙ rest
  where
    nothing : (o : List A) → opened before line ≡ o → all (before ++ line ∷ []) (opened before line ++ (more ++ later)) ≡ all (before ++ line ∷ []) (more ++ later)
    nothing [] is = ap (λ o. all (before ++ line ∷ []) (o ++ (more ++ later))) is
    nothing (first ∷ others) is = absurd (omega (arith, h, l.fewer before line first others is))
nests {A = A} opened all room q l (suc deep) (line ∷ more) before later h =
    let there = nested opened (suc deep) before line in
    let less : room there ≤ room before = nested_lowers opened room l (suc deep) before line in
    let deeper = λ (lower : room (before ++ line ∷ []) ≤ deep). nests opened all room q l deep (opened before line) (before ++ line ∷ []) (more ++ later) lower in
    q.in_place before line (more ++ later) ∙ inside deeper (opened before line) refl
    ∙ nests opened all room q l (suc deep) more there later (omega (arith, h, less))
  where
    inside : (room (before ++ line ∷ []) ≤ deep → all (before ++ line ∷ []) (opened before line ++ (more ++ later)) ≡ all (nested opened (suc deep) before line) (more ++ later))
        → (o : List A) → opened before line ≡ o
        → all (before ++ line ∷ []) (opened before line ++ (more ++ later)) ≡ all (nested opened (suc deep) before line) (more ++ later)
    inside deeper [] is =
        ap (λ o. all (before ++ line ∷ []) (o ++ (more ++ later))) is
        ∙ sym (ap (λ o. all (fold (nested opened deep) (before ++ line ∷ []) o) (more ++ later)) is)
    inside deeper (first ∷ others) is = deeper (omega (arith, h, l.fewer before line first others is))
