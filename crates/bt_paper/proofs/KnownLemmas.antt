-- Names of files: no two URIs have one name, and a file that is added changes none.
use Rattle.std.proofs.Common.{◌≡◌, ◌∙◌, sym, refl, subst, ℕ, Bool, true, false, List, [], ◌∷◌, ◌++◌, Option, Some, None, true≢false}
use Rattle.std.specs.Prelude.{if◌then◌else◌, bytes_eq}
use Rattle.std.proofs.lemmas.Slice.Eq.{bytes_eq-Decides}
use Rattle.bibtex.proofs.TextLemmas.{same_name}
use Rattle.bt_paper.specs.declared.known.Known.{Known}
use Rattle.bt_paper.specs.Known.{name_at, uri_named, is_uri, name_if_first, name_of}

pub some_is : {A : Type 0} (x y : A) → Some x ≡ Some y → x ≡ y
some_is x y e = cc

pub not_none : {A : Type 0} (o : Option A) (x : A) → o ≡ None → o ≡ Some x → ⊥
not_none o x p q = cc

pub is_itself : (a : List ℕ) → bytes_eq a a ≡ true
is_itself a = (bytes_eq-Decides a a).1 refl

-- ---- one name, one URI

uri_both : (o : Option (List ℕ)) (a b : List ℕ) → is_uri a o ≡ true → is_uri b o ≡ true → a ≡ b
uri_both None a b p q = absurd (true≢false (sym p))
uri_both (Some own) a b p q = sym (same_name own a p) ∙ same_name own b q

named_first : (known : List Known) (uri n : List ℕ) (o : Option (List ℕ)) → name_if_first known uri o ≡ Some n → is_uri uri (uri_named n known) ≡ true
named_first known uri n None e = absurd (cc)
named_first known uri n (Some m) e = go (is_uri uri (uri_named m known)) refl e
  where
    go : (b : Bool) → is_uri uri (uri_named m known) ≡ b → (if b then Some m else None) ≡ Some n → is_uri uri (uri_named n known) ≡ true
    go true is same = subst (λ x. is_uri uri (uri_named x known) ≡ true) (some_is m n same) is
    go false is none = absurd (cc)

-- the names of two URIs are two
pub names_apart : (known : List Known) (a b m n : List ℕ) → name_of known a ≡ Some m → name_of known b ≡ Some n → bytes_eq a b ≡ false → bytes_eq m n ≡ false
names_apart known a b m n p q apart = go (bytes_eq m n) refl
  where
    go : (same : Bool) → bytes_eq m n ≡ same → bytes_eq m n ≡ false
    go false is = is
    go true is =
        let at_m = named_first known a m _ p in
        let at_n = named_first known b n _ q in
        let one = uri_both (uri_named n known) a b (subst (λ x. is_uri a (uri_named x known) ≡ true) (same_name m n is) at_m) at_n in
        absurd (true≢false (sym (subst (λ x. bytes_eq a x ≡ true) one (is_itself a)) ∙ apart))

-- ---- one file more

at_more : (uri n : List ℕ) (known : List Known) (k : Known) → name_at uri known ≡ Some n → name_at uri (known ++ k ∷ []) ≡ Some n
at_more uri n [] k e = absurd (cc)
at_more uri n (x ∷ known) k e = go (bytes_eq x.uri uri) e (λ later. at_more uri n known k later)
  where
    go : (b : Bool) → (if b then Some x.name else name_at uri known) ≡ Some n → (name_at uri known ≡ Some n → name_at uri (known ++ k ∷ []) ≡ Some n) →
        (if b then Some x.name else name_at uri (known ++ k ∷ [])) ≡ Some n
    go true here rest = here
    go false later rest = rest later

named_more : (name u : List ℕ) (known : List Known) (k : Known) → uri_named name known ≡ Some u → uri_named name (known ++ k ∷ []) ≡ Some u
named_more name u [] k e = absurd (cc)
named_more name u (x ∷ known) k e = go (bytes_eq x.name name) e (λ later. named_more name u known k later)
  where
    go : (b : Bool) → (if b then Some x.uri else uri_named name known) ≡ Some u → (uri_named name known ≡ Some u → uri_named name (known ++ k ∷ []) ≡ Some u) →
        (if b then Some x.uri else uri_named name (known ++ k ∷ [])) ≡ Some u
    go true here rest = here
    go false later rest = rest later

first_more : (known : List Known) (k : Known) (uri m n : List ℕ) (o : Option (List ℕ)) → uri_named m known ≡ o →
    (if is_uri uri o then Some m else None) ≡ Some n → name_if_first (known ++ k ∷ []) uri (Some m) ≡ Some n
first_more known k uri m n None is e = absurd (cc)
first_more known k uri m n (Some u) is e = rw (named_more m u known k is) e

-- a file that is added changes no name
pub name_more : (known : List Known) (k : Known) (uri n : List ℕ) → name_of known uri ≡ Some n → name_of (known ++ k ∷ []) uri ≡ Some n
name_more known k uri n e = go (name_at uri known) refl e
  where
    go : (o : Option (List ℕ)) → name_at uri known ≡ o → name_if_first known uri o ≡ Some n → name_of (known ++ k ∷ []) uri ≡ Some n
    go None is none = absurd (cc)
    go (Some m) is first = rw (at_more uri m known k is) (first_more known k uri m n (uri_named m known) refl first)

pub noted : (old new : List Known) (k : Known) → new ≡ old ++ k ∷ [] → (uri name : List ℕ) → name_of old uri ≡ Some name → name_of new uri ≡ Some name
noted old new k is uri name e = subst (λ l. name_of l uri ≡ Some name) (sym is) (name_more old k uri name e)
