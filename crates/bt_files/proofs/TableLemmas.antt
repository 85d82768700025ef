-- Tables of the author's names, and the names that stand for them.
use Rattle.std.proofs.Common.{◌≡◌, refl, sym, ap, ◌∙◌, ℕ, zero, suc, ◌+◌, ◌<◌, ◌≤◌, ◌^◌, Bool, true, false, cond, List, [], ◌∷◌, length, get_or, Some, None, arith, add-zero}
use Rattle.std.specs.Str.{bytes_eq}
use Rattle.bt_job.proofs.NameLemmas.{same_bytes, name_itself}
use Rattle.bt_files.specs.Names.{is_stand_in, numbered, stood_for, author_name}
use Rattle.bt_files.proofs.NumberLemmas.{same_number}

-- A name stands for an author's name, which is at a place of a table whose numbers begin here.
pub record Stands (number : ℕ) (table : List (List ℕ)) (author session : List ℕ) : Type 0 where
  pub place : ℕ
  pub within : place < length table
  pub there : get_or table place [] ≡ author
  pub same : numbered (number + place) author ≡ session

-- one name stands for one author's name
pub stands : (number : ℕ) (table : List (List ℕ)) (author session : List ℕ) → number + length table ≤ 2 ^ 64 → Stands number table author session
    → stood_for number table session ≡ Some author
stands number [] author session few s = let w = s.within in absurd (omega arith)
stands number (name ∷ table) author session few s =
    go (bytes_eq (numbered number name) session) refl s.place s.within s.there s.same (λ (more : (number + 1) + length table ≤ 2 ^ 64) (t : Stands (number + 1) table author session). stands (number + 1) table author session more t)
  where
    go : (b : Bool) → bytes_eq (numbered number name) session ≡ b → (place : ℕ) → place < length (name ∷ table) → get_or (name ∷ table) place [] ≡ author
        → numbered (number + place) author ≡ session
        → ((number + 1) + length table ≤ 2 ^ 64 → Stands (number + 1) table author session → stood_for (number + 1) table session ≡ Some author)
        → cond b (Some name) (stood_for (number + 1) table session) ≡ Some author
    go true e zero within there same later = ap (λ (n : List ℕ). Some n) there
    go true e (suc place) within there same later =
        let one : number ≡ number + suc place =
        same_number number (number + suc place) name author (omega arith) (omega arith) (same_bytes (numbered number name) session e ∙ sym same) in
        absurd (omega arith)
    go false e zero within there same later =
        let is : numbered number name ≡ session = ap (λ (a : List ℕ). numbered number a) there ∙ ap (λ (n : ℕ). numbered n author) (sym (add-zero number)) ∙ same in
        let wrong : bytes_eq (numbered number name) session ≡ true = ap (λ (s : List ℕ). bytes_eq (numbered number name) s) (sym is) ∙ name_itself (numbered number name) in
        cc
    go false e (suc place) within there same later =
        let next : (number + 1) + place ≡ number + suc place = omega arith in
        later (omega arith) (record { place = place; within = omega arith; there = there; same = ap (λ (n : ℕ). numbered n author) next ∙ same })

-- what is found
pub data Found (number : ℕ) (table : List (List ℕ)) (session : List ℕ) : Type 0 where
  nothing : stood_for number table session ≡ None → Found number table session
  one : (author : List ℕ) → Stands number table author session → Found number table session

pub found : (number : ℕ) (table : List (List ℕ)) (session : List ℕ) → Found number table session
found number [] session = nothing refl
found number (name ∷ table) session = go (bytes_eq (numbered number name) session) refl (found (number + 1) table session)
  where
    go : (b : Bool) → bytes_eq (numbered number name) session ≡ b → Found (number + 1) table session → Found number (name ∷ table) session
    go true e later =
        one name (record {
          place = 0;
          within = omega arith;
          there = refl;
          same = ap (λ (n : ℕ). numbered n name) (add-zero number) ∙ same_bytes (numbered number name) session e;
        })
    go false e (nothing is) = nothing (ap (λ (b : Bool). cond b (Some name) (stood_for (number + 1) table session)) e ∙ is)
    go false e (one author s) =
        let within : s.place < length table = s.within in
        let next : number + suc s.place ≡ (number + 1) + s.place = omega arith in
        one author (record { place = suc s.place; within = omega arith; there = s.there; same = ap (λ (n : ℕ). numbered n author) next ∙ s.same })

-- no name where none is found
pub lacks : (table : List (List ℕ)) (session : List ℕ) → is_stand_in session ≡ true → ((author : List ℕ) → Stands 1 table author session → ⊥)
    → None ≡ author_name table session
lacks table session form none = go (found 1 table session)
  where
    go : Found 1 table session → None ≡ author_name table session
    go (nothing is) = sym (ap (λ (b : Bool). cond b (stood_for 1 table session) (Some session)) form ∙ is)
    go (one author s) = absurd (none author s)

-- the name that is found
pub has : (table : List (List ℕ)) (author session : List ℕ) → is_stand_in session ≡ true → length table < 2 ^ 64 → Stands 1 table author session
    → Some author ≡ author_name table session
has table author session form few s =
    sym (ap (λ (b : Bool). cond b (stood_for 1 table session) (Some session)) form ∙ stands 1 table author session (omega arith) s)
