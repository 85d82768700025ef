-- Texts by their names: what is looked up after a change, and that each name stands once.
use Rattle.std.proofs.Common.{◌≡◌, ◌∙◌, ap, sym, refl, subst, ◌+◌, ℕ, suc, Bool, true, false, not, cond, List, [], ◌∷◌, length, map, Option, Some, None, option_map, one-add, true≢false}
use Rattle.std.specs.Prelude.{if◌then◌else◌, nat_lt, bytes_eq, unwrap_or}
use Rattle.std.specs.List.{IsDistinct, AllByRecursion, position_or_len}
use Rattle.std.proofs.Math.Dec.{leb-zero, leb-suc-suc}
use Rattle.std.proofs.lemmas.Cmp.{nat_list_eq_equiv}
use Rattle.std.proofs.lemmas.Slice.Eq.{bytes_eq-Decides}
use Rattle.bt_job.specs.declared.files.File.{File}
use Rattle.bt_job.specs.FileNames.{text_of}
use Rattle.bibtex.specs.Present.{EachOnce, place_of_file, with_text}
use Rattle.bibtex.specs.inner.Cases.{without, put_at}

-- Names

-- names that are equal to one name
pub same_name : (a b : List ℕ) → bytes_eq a b ≡ true → a ≡ b
same_name a b h = (bytes_eq-Decides a b).0 h

pub flipped : (a b : List ℕ) → bytes_eq a b ≡ bytes_eq b a
flipped a b = nat_list_eq_equiv.symm a b

-- a name that isn't another isn't both at once
not_both : (a b n : List ℕ) → bytes_eq a b ≡ false → bytes_eq a n ≡ true → bytes_eq b n ≡ true → ⊥
not_both a b n apart p q = true≢false (sym (nat_list_eq_equiv.congr a n b p ∙ flipped n b ∙ q) ∙ apart)

-- Which file has a name

-- the place in a longer list
place_more : (b : Bool) (n l : ℕ) → cond (nat_lt (cond (not b) (1 + n) 0) (suc l)) (Some (cond (not b) (1 + n) 0)) None ≡ cond b (Some 0) (option_map suc (cond (nat_lt n l) (Some n) None))
place_more true n l = rw (leb-suc-suc 0 l, leb-zero l) refl
place_more false n l = rw (one-add n, leb-suc-suc (suc n) l) (go (nat_lt n l))
  where
    go : (q : Bool) → cond q (Some (suc n)) None ≡ option_map suc (cond q (Some n) None)
    go true = refl
    go false = refl

pub place_step : (name : List ℕ) (f : File) (fs : List File) → place_of_file name (f ∷ fs) ≡ cond (bytes_eq f.name name) (Some 0) (option_map suc (place_of_file name fs))
place_step name f fs = place_more (bytes_eq f.name name) (position_or_len (λ (g : File). bytes_eq g.name name) fs) (length fs)

-- A text that is put

-- a file in the place of that of its name, or after the others, file by file
abbrev put : File → List File → List File
put file [] = file ∷ []
put file (f ∷ fs) = if bytes_eq f.name file.name then file ∷ fs else f ∷ put file fs

put_more : (b : Bool) (o : Option ℕ) (file f : File) (fs : List File) → put_at (cond b (Some 0) (option_map suc o)) file (f ∷ fs) ≡ cond b (file ∷ fs) (f ∷ put_at o file fs)
put_more true o file f fs = refl
put_more false None file f fs = refl
put_more false (Some n) file f fs = refl

pub put_is : (file : File) (files : List File) → put_at (place_of_file file.name files) file files ≡ put file files
put_is file [] = refl
put_is file (f ∷ fs) =
    ap (λ o. put_at o file (f ∷ fs)) (place_step file.name f fs)
    ∙ put_more (bytes_eq f.name file.name) (place_of_file file.name fs) file f fs
    ∙ ap (λ (rest : List File). cond (bytes_eq f.name file.name) (file ∷ fs) (f ∷ rest)) (put_is file fs)

-- Look-ups after a change

twice : {A : Type 0} (c : Bool) (x y z : A) → cond c x y ≡ cond c x (cond c z y)
twice true x y z = refl
twice false x y z = refl

exchanged : {A : Type 0} (c d : Bool) (x y z : A) → (c ≡ true → d ≡ true → ⊥) → cond c x (cond d y z) ≡ cond d y (cond c x z)
exchanged true true x y z apart = absurd (apart refl refl)
exchanged true false x y z apart = refl
exchanged false d x y z apart = refl

pub text_of_put : (file : File) (files : List File) (n : List ℕ) → text_of (put file files) n ≡ (if bytes_eq file.name n then Some file.text else text_of files n)
text_of_put file [] n = refl
text_of_put file (f ∷ fs) n = go (bytes_eq f.name file.name) refl (text_of_put file fs n)
  where
    go : (b : Bool) → bytes_eq f.name file.name ≡ b → text_of (put file fs) n ≡ (if bytes_eq file.name n then Some file.text else text_of fs n) →
        text_of (if b then file ∷ fs else f ∷ put file fs) n ≡ (if bytes_eq file.name n then Some file.text else text_of (f ∷ fs) n)
    go true is later =
        twice (bytes_eq file.name n) (Some file.text) (text_of fs n) (Some f.text)
        ∙ ap (λ (m : List ℕ). cond (bytes_eq file.name n) (Some file.text) (cond (bytes_eq m n) (Some f.text) (text_of fs n))) (sym (same_name f.name file.name is))
    go false is later =
        ap (λ o. cond (bytes_eq f.name n) (Some f.text) o) later
        ∙ exchanged (bytes_eq f.name n) (bytes_eq file.name n) (Some f.text) (Some file.text) (text_of fs n) (not_both f.name file.name n is)

none_either : (b : Bool) → text_of [] [] ≡ (if b then None else text_of [] [])
none_either true = refl
none_either false = refl

-- A name without a text has none, and every other has the one that it had.
pub text_of_without : (name : List ℕ) (files : List File) (n : List ℕ) → text_of (without name files) n ≡ (if bytes_eq name n then None else text_of files n)
text_of_without name [] n = none_either (bytes_eq name n)
text_of_without name (f ∷ fs) n = go (bytes_eq f.name name) refl (text_of_without name fs n)
  where
    go : (b : Bool) → bytes_eq f.name name ≡ b → text_of (without name fs) n ≡ (if bytes_eq name n then None else text_of fs n) →
        text_of (cond (not b) (f ∷ without name fs) (without name fs)) n ≡ (if bytes_eq name n then None else text_of (f ∷ fs) n)
    go true is later =
        later
        ∙ twice (bytes_eq name n) None (text_of fs n) (Some f.text)
        ∙ ap (λ (m : List ℕ). cond (bytes_eq name n) None (cond (bytes_eq m n) (Some f.text) (text_of fs n))) (sym (same_name f.name name is))
    go false is later =
        ap (λ o. cond (bytes_eq f.name n) (Some f.text) o) later
        ∙ exchanged (bytes_eq f.name n) (bytes_eq name n) (Some f.text) None (text_of fs n) (not_both f.name name n is)

-- Each name once

-- none of the names is this one
abbrev IsNew : List ℕ → List File → Type 0
IsNew name files = AllByRecursion (λ y. bytes_eq name y ≡ false) (map (λ (f : File). f.name) files)

new_if_none : (name : List ℕ) (files : List File) → text_of files name ≡ None → IsNew name files
new_if_none name [] is = tt
new_if_none name (f ∷ fs) is = go (bytes_eq f.name name) refl is (new_if_none name fs)
  where
    go : (b : Bool) → bytes_eq f.name name ≡ b → cond b (Some f.text) (text_of fs name) ≡ None → (text_of fs name ≡ None → IsNew name fs) → IsNew name (f ∷ fs)
    go true same wrong later = absurd cc
    go false apart none later = (flipped name f.name ∙ apart, later none)

none_if_new : (name : List ℕ) (files : List File) → IsNew name files → text_of files name ≡ None
none_if_new name [] new = refl
none_if_new name (f ∷ fs) new = rw (flipped f.name name, new.0) (none_if_new name fs new.1)

pub once_none : EachOnce []
unfolding IsDistinct
once_none = tt

once_put : (file : File) (files : List File) → EachOnce files → EachOnce (put file files)
unfolding IsDistinct
once_put file [] once = (tt, tt)
once_put file (f ∷ fs) once = go (bytes_eq f.name file.name) refl (once_put file fs once.1)
  where
    go : (b : Bool) → bytes_eq f.name file.name ≡ b → EachOnce (put file fs) → EachOnce (if b then file ∷ fs else f ∷ put file fs)
    go true is later = (subst (λ m. IsNew m fs) (same_name f.name file.name is) once.0, once.1)
    go false is later =
        (new_if_none f.name (put file fs) (text_of_put file fs f.name ∙ rw (flipped file.name f.name, is) (none_if_new f.name fs once.0)), later)

pub once_with : (name text : List ℕ) (files : List File) → EachOnce files → EachOnce (with_text name text files)
once_with name text files once =
    subst EachOnce (sym (put_is (record { name = name; text = text }) files)) (once_put (record { name = name; text = text }) files once)

pub once_without : (name : List ℕ) (files : List File) → EachOnce files → EachOnce (without name files)
unfolding IsDistinct
once_without name [] once = tt
once_without name (f ∷ fs) once = go (bytes_eq f.name name) refl (once_without name fs once.1)
  where
    go : (b : Bool) → bytes_eq f.name name ≡ b → EachOnce (without name fs) → EachOnce (cond (not b) (f ∷ without name fs) (without name fs))
    go true is later = later
    go false is later =
        (new_if_none f.name (without name fs) (text_of_without name fs f.name ∙ rw (flipped name f.name, is) (none_if_new f.name fs once.0)), later)

-- Look-ups after a change

-- The text that was put is that of its name, and every other name has the one that it had.
pub text_of_with : (name text : List ℕ) (files : List File) (n : List ℕ) → text_of (with_text name text files) n ≡ (if bytes_eq name n then Some text else text_of files n)
text_of_with name text files n =
    ap (λ fs. text_of fs n) (put_is (record { name = name; text = text }) files) ∙ text_of_put (record { name = name; text = text }) files n

other_text : (o p : Option (List ℕ)) (b : Bool) (text : List ℕ) → b ≡ false → o ≡ (if b then Some text else p) → o ≡ p
other_text o p true text other is = absurd cc
other_text o p false text other is = is

-- Only that name has another text.
pub others_stay : (name text : List ℕ) (files : List File) (n : List ℕ) → bytes_eq name n ≡ false → unwrap_or (text_of (with_text name text files) n) [] ≡ unwrap_or (text_of files n) []
others_stay name text files n other =
    ap (λ o. unwrap_or o [])
    (other_text (text_of (with_text name text files) n) (text_of files n) (bytes_eq name n) text other (text_of_with name text files n))
