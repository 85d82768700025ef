-- One file more of a paper.
use Rattle.std.proofs.Common.{◌≡◌, ℕ, zero, suc, ◌+◌, ◌≤◌, List, [], ◌∷◌, length, drop, refl, ap, sym, ◌∙◌, arith, Some}
use Rattle.std.specs.Prelude.{slice_get}
use Rattle.std.specs.List.{fold}
use Rattle.serde_json.specs.Data.{Data}
use Rattle.bt_places.specs.Visiting.{with_files}

some_is : {A : Type 0} (x y : A) → Some x ≡ Some y → x ≡ y
some_is x y e = cc

pub drop_at : {A : Type 0} (xs : List A) (n m : ℕ) (x : A) → slice_get xs n ≡ Some x → m ≡ suc n → drop n xs ≡ x ∷ drop m xs
drop_at [] n m x e is = absurd (cc)
drop_at (y ∷ xs) zero m x e is = rw is (ap (λ z. z ∷ xs) (some_is y x e))
drop_at (y ∷ xs) (suc n) m x e is = rw is (drop_at xs n (suc n) x e refl)

pub drop_end : {A : Type 0} (xs : List A) (n : ℕ) → length xs ≤ n → drop n xs ≡ []
drop_end [] zero l = refl
drop_end [] (suc n) l = refl
drop_end (x ∷ xs) zero l = absurd (omega (arith, l))
drop_end (x ∷ xs) (suc n) l = drop_end xs n (omega (arith, l))

-- what is added for one more file
pub next_file : (add : List Data → List ℕ → List ℕ → List Data) (files : List (List ℕ × List ℕ)) (n m : ℕ) (uri words : List ℕ) (old new whole : List Data) →
    slice_get files n ≡ Some (uri, words) → m ≡ n + 1 → with_files add (drop n files) old ≡ whole → new ≡ add old uri words → with_files add (drop m files) new ≡ whole
next_file add files n m uri words old new whole at is before more =
    let there = drop_at files n m (uri, words) at (omega (arith, is)) in
    ap (with_files add (drop m files)) more ∙ ap (λ fs. with_files add fs old) (sym there) ∙ before

-- after the last file
pub no_file : (add : List Data → List ℕ → List ℕ → List Data) (files : List (List ℕ × List ℕ)) (n count : ℕ) (list whole : List Data) → count ≡ length files → count ≤ n →
    with_files add (drop n files) list ≡ whole → list ≡ whole
no_file add files n count list whole is l before = ap (λ fs. with_files add fs list) (sym (drop_end files n (omega (arith, is, l)))) ∙ before

-- a fold over files after one more file
pub fold_file : {B : Type 0} (f : B → List ℕ × List ℕ → B) (files : List (List ℕ × List ℕ)) (n m : ℕ) (uri words : List ℕ) (old new whole : B) → slice_get files n ≡ Some (uri, words) →
    m ≡ n + 1 → fold f old (drop n files) ≡ whole → new ≡ f old (uri, words) → fold f new (drop m files) ≡ whole
fold_file f files n m uri words old new whole at is before more =
    let there = drop_at files n m (uri, words) at (omega (arith, is)) in
    ap (λ x. fold f x (drop m files)) more ∙ ap (λ fs. fold f old fs) (sym there) ∙ before

-- after the last file
pub fold_no_file : {B : Type 0} (f : B → List ℕ × List ℕ → B) (files : List (List ℕ × List ℕ)) (n count : ℕ) (x whole : B) → count ≡ length files → count ≤ n →
    fold f x (drop n files) ≡ whole → x ≡ whole
fold_no_file f files n count x whole is l before = ap (λ fs. fold f x fs) (sym (drop_end files n (omega (arith, is, l)))) ∙ before
