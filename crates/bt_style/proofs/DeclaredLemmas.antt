-- What is read where a name is used is declared.
use Rattle.std.specs.Prelude.{bytes_eq}
use Rattle.std.specs.Option.{option_map}
use Rattle.std.proofs.Common.{◌≡◌, ap, refl, subst, ℕ, suc, ◌<◌, Bool, true, false, cond, List, [], ◌∷◌, length, Option, Some, None, Ok, arith}
use Rattle.std.proofs.lemmas.List.{length-map}
use Rattle.bt_text.specs.CaseFolding.{folded}
use Rattle.bt_style.specs.declared.style.Target.{Target}
use Rattle.bt_style.specs.declared.style.Target.TheVariants as targets
use Rattle.bt_style.specs.Program.{Program, Definition}
use Rattle.bt_style.specs.Names.{builtin_named, place_in, first_some, target_named}
use Rattle.bt_style.specs.inner.Cases.{function_names, target_or_fault}
use Rattle.bt_style.specs.Declares.{target_of, runnable}
use Rattle.bt_style.specs.Commands.{run_target}
use Rattle.bt_style.specs.Uses.{IsDeclared}
use Rattle.bt_style.proofs.SpelledLemmas.{bind_ok, ok_same}

-- Names

place_next : (v : Bool) (names : List (List ℕ)) (o : Option ℕ) (n : ℕ) → ((m : ℕ) → o ≡ Some m → m < length names) → cond v (Some 0) (option_map (λ n. suc n) o) ≡ Some n → n < suc (length names)
place_next true names o n later h = (let zero_it : 0 ≡ n = cc h in omega (arith, zero_it))
place_next false names None n later h = cc
place_next false names (Some m) n later h = (let next : suc m ≡ n = cc h in omega (arith, next, later m refl))

place_within : (names : List (List ℕ)) (name : List ℕ) (n : ℕ) → place_in names name ≡ Some n → n < length names
place_within [] name n h = cc
place_within (first ∷ names) name n h = place_next (bytes_eq first name) names (place_in names name) n (place_within names name) h

-- the first that is there, where each that may be has a property
slot : {X : Type 0} (P : Target → Type 0) (f : X → Target) (o : Option X) (rest : List (Option Target)) (t : Target) → ((x : X) → o ≡ Some x → P (f x)) → (first_some rest ≡ Some t → P t) →
    first_some (option_map f o ∷ rest) ≡ Some t → P t
slot P f None rest t is later h = later h
slot P f (Some x) rest t is later h = (let same : f x ≡ t = cc h in subst P same (is x refl))

meaning_within : (p : Program) (name : List ℕ) (t : Target) → target_named p name ≡ Some t → IsDeclared p (length p.functions) t
unfolding target_named
meaning_within p name t h =
    let P : Target → Type 0 = IsDeclared p (length p.functions) in
    slot P targets.Builtin (builtin_named name) _ t (λ b e. tt)
    (slot P targets.Field (place_in p.fields name) _ t (place_within p.fields name)
    (slot P targets.EntryNumber (place_in p.entry_numbers name) _ t (place_within p.entry_numbers name)
    (slot P targets.EntryText (place_in p.entry_texts name) _ t (place_within p.entry_texts name)
    (slot P targets.GlobalNumber (place_in p.global_numbers name) _ t (place_within p.global_numbers name)
    (slot P targets.GlobalText (place_in p.global_texts name) _ t (place_within p.global_texts name)
    (slot P targets.Function (place_in (function_names p) name) [] t
    (λ n e. subst (λ k. n < k) (length-map p.functions (λ (f : Definition). f.name)) (place_within (function_names p) name n e)) (λ e. cc)))))))
    h

known_is : (o : Option Target) (line : ℕ) (t : Target) → target_or_fault o line ≡ Ok t → o ≡ Some t
known_is None line t h = cc
known_is (Some x) line t h = ap Some (ok_same x t h)

pub target_within : (p : Program) (word : List ℕ) (line : ℕ) (t : Target) → target_of p word line ≡ Ok t → IsDeclared p (length p.functions) t
target_within p word line t h = meaning_within p (folded word) t (known_is (target_named p (folded word)) line t h)

runnable_same : (s : Target) (line : ℕ) (t : Target) → runnable s line ≡ Ok t → s ≡ t
runnable_same (targets.Builtin b) line t h = ok_same (targets.Builtin b) t h
runnable_same (targets.Field n) line t h = cc
runnable_same (targets.EntryNumber n) line t h = cc
runnable_same (targets.EntryText n) line t h = cc
runnable_same (targets.GlobalNumber n) line t h = cc
runnable_same (targets.GlobalText n) line t h = cc
runnable_same (targets.Function n) line t h = ok_same (targets.Function n) t h

pub run_within : (p : Program) (word : List ℕ) (line : ℕ) (t : Target) → run_target p word line ≡ Ok t → IsDeclared p (length p.functions) t
run_within p word line t h =
    let found = bind_ok (target_of p word line) (λ target. runnable target line) t h in
    subst (IsDeclared p (length p.functions)) (runnable_same found.0 line t found.2) (target_within p word line found.0 found.1)
