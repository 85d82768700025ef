-- The fields of a style differ by more than case.
use Rattle.std.proofs.Common.{◌≡◌, ◌∙◌, sym, refl, subst, ℕ, Bool, true, false, cond, List, [], ◌∷◌, ◌++◌, Option, Some, None, Result, Ok, Err}
use Rattle.std.specs.Prelude.{bytes_eq, ◌&&◌, ◌||◌, not, IsTrue}
use Rattle.std.specs.Cmp.Lexicographic.{bytes_decides}
use Rattle.std.specs.List.{list_any}
use Rattle.std.specs.Option.{option_map, is_some}
use Rattle.std.proofs.lemmas.List.Folds.{list_any-append}
use Rattle.std.proofs.lemmas.Str.Ascii.{lowercase-lowercase}
use Rattle.bt_text.specs.CaseFolding.{folded, is_same_folded}
use Rattle.bt_style.specs.declared.fault.StyleFault.{StyleFault}
use Rattle.bt_style.specs.declared.names.Names.{Names}
use Rattle.bt_style.specs.declared.names.Names.TheVariants.{Fields, EntryNumbers, EntryTexts, GlobalNumbers, GlobalTexts}
use Rattle.bt_style.specs.declared.style.Target.TheVariants as targets
use Rattle.bt_style.specs.Program.{Program}
use Rattle.bt_style.specs.Token.{tokens_of}
use Rattle.bt_style.specs.Names.{place_in, target_named, is_taken, builtin_named}
use Rattle.bt_style.specs.Draft.{preset, with_name, with_command}
use Rattle.bt_style.specs.inner.Cases.{with_macro, with_function}
use Rattle.bt_style.specs.Declares.{new_name}
use Rattle.bt_style.specs.Reader.{reading, style_of}
use Rattle.bt_text.specs.NameList.{has_name, are_apart}
use Rattle.bt_style.proofs.NameLemmas.{none_behind, none_of, slot_none}
use Rattle.bt_style.proofs.SpelledLemmas.{ok_same}
use Rattle.bt_style.proofs.KeptLemmas.{IsKept, commands_keep}

-- Names

and_first : (a b : Bool) → (a && b) ≡ true → a ≡ true
and_first true b h = refl
and_first false b h = cc

and_second : (a b : Bool) → (a && b) ≡ true → b ≡ true
and_second true b h = h
and_second false b h = cc

not_false : (a : Bool) → not a ≡ true → a ≡ false
not_false true h = cc
not_false false h = refl

or_first : (a b : Bool) → (a || b) ≡ false → a ≡ false
or_first true b h = cc
or_first false b h = refl

or_second : (a b : Bool) → (a || b) ≡ false → b ≡ false
or_second true b h = cc
or_second false b h = h

-- a name that is none of some may stand after them
push_apart : (names : List (List ℕ)) (name : List ℕ) → are_apart names ≡ true → list_any (λ n. is_same_folded name n) names ≡ false → are_apart (names ++ name ∷ []) ≡ true
push_apart [] name h none = refl
push_apart (first ∷ names) name h none =
    let old = not_false (has_name names first) (and_first (not (has_name names first)) (are_apart names) h) in
    let rest = push_apart names name (and_second (not (has_name names first)) (are_apart names) h) (or_second (is_same_folded name first) (list_any (λ n. is_same_folded name n) names) none) in
    let new : is_same_folded name first ≡ false = or_first (is_same_folded name first) (list_any (λ n. is_same_folded name n) names) none in
    rw (list_any-append (λ n. is_same_folded n first) names (name ∷ []), old, new, rest) refl

-- names in small letters
abbrev AreFolded : List (List ℕ) → Type 0
AreFolded [] = Unit {0}
AreFolded (name ∷ names) = (folded name ≡ name) × AreFolded names

push_folded : (names : List (List ℕ)) (name : List ℕ) → AreFolded names → folded name ≡ name → AreFolded (names ++ name ∷ [])
push_folded [] name h e = (e, tt)
push_folded (first ∷ names) name h e = (h.0, push_folded names name h.1 e)

folded-folded : (name : List ℕ) → folded (folded name) ≡ folded name
folded-folded [] = refl
folded-folded (b ∷ bs) = rw (lowercase-lowercase b, folded-folded bs) refl

other_way : (v : Bool) (a b : List ℕ) → bytes_eq b a ≡ v → bytes_eq a b ≡ false → v ≡ false
other_way true a b h e = sym ((bytes_decides a b).1 (sym ((bytes_decides b a).0 h))) ∙ e
other_way false a b h e = refl

-- a name that has no place is none of them
is_none_of : (names : List (List ℕ)) (name : List ℕ) → AreFolded names → folded name ≡ name → place_in names name ≡ None → list_any (λ n. is_same_folded name n) names ≡ false
is_none_of [] name f e h = refl
is_none_of (first ∷ names) name f e h =
    let both = none_behind (bytes_eq first name) (place_in names name) h in
    let differs : bytes_eq name first ≡ false = other_way (bytes_eq name first) first name refl both.0 in
    rw (e, f.0, differs, is_none_of names name f.1 e both.1) refl

-- Programs

-- the fields of a program differ by more than case, and are kept in small letters
record Good (p : Program) : Type 0 where
  pub apart : are_apart p.fields ≡ true
  pub small : AreFolded p.fields

same_fields : (p q : Program) → p.fields ≡ q.fields → Good p → Good q
same_fields p q e g = record {
  apart = subst (λ (names : List (List ℕ)). are_apart names ≡ true) e g.apart;
  small = subst AreFolded e g.small;
}

pub absent : {A : Type 0} (o : Option A) → is_some o ≡ false → o ≡ None
absent None h = refl
absent (Some x) h = cc

-- a name that isn't taken is no field's
field_free : (p : Program) (name : List ℕ) → is_taken p name ≡ false → place_in p.fields name ≡ None
unfolding target_named
field_free p name h =
    none_of targets.Field (place_in p.fields name)
    (slot_none (option_map targets.Builtin (builtin_named name) ∷ []) (option_map targets.Field (place_in p.fields name)) _ (absent (target_named p name) h))

named_good : (names : Names) (name : List ℕ) (p : Program) → Good p → folded name ≡ name → is_taken p name ≡ false → Good (with_name names name p)
named_good Fields name p g e free = record {
  apart = push_apart p.fields name g.apart (is_none_of p.fields name g.small e (field_free p name free));
  small = push_folded p.fields name g.small e;
}
named_good EntryNumbers name p g e free = same_fields p (with_name EntryNumbers name p) refl g
named_good EntryTexts name p g e free = same_fields p (with_name EntryTexts name p) refl g
named_good GlobalNumbers name p g e free = same_fields p (with_name GlobalNumbers name p) refl g
named_good GlobalTexts name p g e free = same_fields p (with_name GlobalTexts name p) refl g

new_is : (a b : Bool) (x name : List ℕ) (e f : StyleFault) → ◌≡◌ {A = Result (List ℕ) StyleFault} (cond (not a) (Err e) (cond b (Err f) (Ok x))) (Ok name) → (x ≡ name) × (b ≡ false)
new_is true true x name e f h = cc
new_is true false x name e f h = (ok_same x name h, refl)
new_is false b x name e f h = cc

new_name_is : (taken : List ℕ → Bool) (word : List ℕ) (line : ℕ) (name : List ℕ) → new_name taken word line ≡ Ok name → (folded name ≡ name) × (taken name ≡ false)
new_name_is taken word line name h =
    let both = new_is _ (taken (folded word)) (folded word) name _ _ h in
    (subst (λ (n : List ℕ). folded n ≡ n) both.0 (folded-folded word), subst (λ (n : List ℕ). taken n ≡ false) both.0 both.1)

are_kept : IsKept Good
are_kept = record {
  named = λ names p word line name h g. (let new = new_name_is (is_taken p) word line name h in named_good names name p g new.0 new.1);
  defined = λ p word line name tokens body rest h b g. same_fields p (with_function name body p) refl g;
  macro = λ p word line name text h g. same_fields p (with_macro name text p) refl g;
  listed = λ p action line acts g. same_fields p (with_command action line p) refl g;
}

pub fields_apart : (text : List ℕ) (p : Program) → style_of text ≡ Ok p → IsTrue (are_apart p.fields)
unfolding style_of reading
fields_apart text p h = (commands_keep Good are_kept _ _ preset (tokens_of text) p (record { apart = refl; small = (refl, tt) }) h).apart
