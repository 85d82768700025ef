-- Each name of a style stands for what was declared by it.
use Rattle.std.specs.Prelude.{bytes_eq, not}
use Rattle.std.specs.Cmp.Lexicographic.{bytes_decides}
use Rattle.std.proofs.lemmas.Bool.{cond-true, cond-false}
use Rattle.std.proofs.lemmas.List.{length-map, map-append}
use Rattle.std.proofs.Common.{◌≡◌, ◌∙◌, inl, inr, ap, sym, refl, subst, ℕ, zero, suc, Bool, true, false, cond, List, [], ◌∷◌, ◌++◌, length, Option, Some, None, Result, Ok, Err}
use Rattle.bt_text.specs.CaseFolding.{folded}
use Rattle.bt_text.specs.NameBytes.{is_name}
use Rattle.bt_style.specs.declared.fault.StyleFault.{StyleFault}
use Rattle.bt_style.specs.declared.names.Names.{Names}
use Rattle.bt_style.specs.declared.names.Names.TheVariants.{Fields, EntryNumbers, EntryTexts, GlobalNumbers, GlobalTexts}
use Rattle.bt_style.specs.declared.style.Target.TheVariants as targets
use Rattle.bt_style.specs.declared.style.Macro.{Macro}
use Rattle.bt_style.specs.declared.verbs.Stage.TheVariants.{BeforeEntry}
use Rattle.bt_style.specs.Program.{Program, Definition}
use Rattle.bt_style.specs.Tree.{Body}
use Rattle.bt_style.specs.Token.{tokens_of, count}
use Rattle.bt_style.specs.Builtins.{table}
use Rattle.bt_style.specs.Names.{builtin_named, target_named, is_taken, macro_named, is_macro}
use Rattle.bt_style.specs.Draft.{preset, with_name}
use Rattle.bt_style.specs.inner.Cases.{with_macro, with_function, function_names, macro_names}
use Rattle.bt_style.specs.inner.Draft.{next_target}
use Rattle.bt_style.specs.Declares.{new_name}
use Rattle.bt_style.specs.Reader.{reading, style_of}
use Rattle.bt_style.specs.laws.Apart.{AreFound, EachNameIsFound}
use Rattle.bt_style.proofs.NameLemmas.{meaning_declared, meaning_defined, macro_defined}
use Rattle.bt_style.proofs.laws.UsesLemmas.{pushed}
use Rattle.bt_style.proofs.KeptLemmas.{IsKept, commands_keep}
use Rattle.bt_style.proofs.ApartLemmas.{absent}

-- A look-up that finds one name more

abbrev Finds : {T : Type 0} → (List ℕ → Option T) → (List ℕ → Option T) → Type 0
Finds {T} f g = (x : List ℕ) (t : T) → f x ≡ Some t → g x ≡ Some t

finds_by : {T : Type 0} (f g : List ℕ → Option T) (name : List ℕ) (new : T) → f name ≡ None → (x : List ℕ) (t : T) → f x ≡ Some t → (v : Bool) → bytes_eq name x ≡ v →
    g x ≡ cond (bytes_eq name x) (Some new) (f x) → g x ≡ Some t
finds_by f g name new free x t h true same is =
    (let no_way : None ≡ Some t = sym free ∙ ap f ((bytes_decides name x).0 same) ∙ h in absurd (cc no_way))
finds_by f g name new free x t h false other is = is ∙ cond-false (bytes_eq name x) (Some new) (f x) other ∙ h

finds : {T : Type 0} (f g : List ℕ → Option T) (name : List ℕ) (new : T) → f name ≡ None → ((x : List ℕ) → g x ≡ cond (bytes_eq name x) (Some new) (f x)) → Finds f g
finds f g name new free is x t h = finds_by f g name new free x t h (bytes_eq name x) refl (is x)

finds_new : {T : Type 0} (f g : List ℕ → Option T) (name : List ℕ) (new : T) → ((x : List ℕ) → g x ≡ cond (bytes_eq name x) (Some new) (f x)) → g name ≡ Some new
finds_new f g name new is = is name ∙ cond-true (bytes_eq name name) (Some new) (f name) ((bytes_decides name name).1 refl)

old_found : {T : Type 0} (f g : List ℕ → Option T) (make : ℕ → T) (names : List (List ℕ)) → Finds f g → AreFound f make names → AreFound g make names
old_found f g make names more h n x e = more x (make n) (h n x e)

new_found : {T : Type 0} (f g : List ℕ → Option T) (make : ℕ → T) (names : List (List ℕ)) (name : List ℕ) → Finds f g → g name ≡ Some (make (length names)) → AreFound f make names →
    AreFound g make (names ++ name ∷ [])
new_found f g make names name more new h n x e = elim (pushed names name n x e) [
  | inl old ↦ more x (make n) (h n x old)
  | inr last ↦ ap g (sym last.1) ∙ new ∙ ap (λ k. Some (make k)) (sym last.0)
]

-- A new name

free_by : (taken : List ℕ → Bool) (word name : List ℕ) (a b : Bool) (e f : StyleFault) → taken (folded word) ≡ b →
    ◌≡◌ {A = Result (List ℕ) StyleFault} (cond (not a) (Err e) (cond b (Err f) (Ok (folded word)))) (Ok name) → taken name ≡ false
free_by taken word name true true e f is h = cc
free_by taken word name true false e f is h = (let same : folded word ≡ name = cc h in subst (λ (x : List ℕ). taken x ≡ false) same is)
free_by taken word name false b e f is h = cc

free : (taken : List ℕ → Bool) (word : List ℕ) (line : ℕ) (name : List ℕ) → new_name taken word line ≡ Ok name → taken name ≡ false
free taken word line name h = free_by taken word name (is_name word) (taken (folded word)) _ _ refl h

-- Styles

abbrev Found : Program → Type 0
Found p =
    AreFound (target_named p) targets.Field p.fields × AreFound (target_named p) targets.EntryNumber p.entry_numbers × AreFound (target_named p) targets.EntryText p.entry_texts
    × AreFound (target_named p) targets.GlobalNumber p.global_numbers × AreFound (target_named p) targets.GlobalText p.global_texts × AreFound (target_named p) targets.Function (function_names p)
    × AreFound (macro_named p) (λ n. n) (macro_names p)

-- what was found is found with a name more, and that name is found
named_more : (list : Names) (name : List ℕ) (p : Program) → target_named p name ≡ None → Finds (target_named p) (target_named (with_name list name p)) × (target_named (with_name list name p) name ≡ Some (next_target list p))
named_more list name p none = (
  finds (target_named p) (target_named (with_name list name p)) name (next_target list p) none (λ x. meaning_declared list name x p none),
  finds_new (target_named p) (target_named (with_name list name p)) name (next_target list p) (λ x. meaning_declared list name x p none),
)

named_found : (list : Names) (name : List ℕ) (p : Program) → target_named p name ≡ None → Found p → Found (with_name list name p)
unfolding macro_named
named_found Fields name p none h =
    let f = target_named p in
    let g = target_named (with_name Fields name p) in
    let m = named_more Fields name p none in (
      new_found f g targets.Field p.fields name m.0 m.1 h.0,
      old_found f g targets.EntryNumber p.entry_numbers m.0 h.1,
      old_found f g targets.EntryText p.entry_texts m.0 h.2,
      old_found f g targets.GlobalNumber p.global_numbers m.0 h.3,
      old_found f g targets.GlobalText p.global_texts m.0 h.4,
      old_found f g targets.Function (function_names p) m.0 h.5,
      h.6,
    )
named_found EntryNumbers name p none h =
    let f = target_named p in
    let g = target_named (with_name EntryNumbers name p) in
    let m = named_more EntryNumbers name p none in (
      old_found f g targets.Field p.fields m.0 h.0,
      new_found f g targets.EntryNumber p.entry_numbers name m.0 m.1 h.1,
      old_found f g targets.EntryText p.entry_texts m.0 h.2,
      old_found f g targets.GlobalNumber p.global_numbers m.0 h.3,
      old_found f g targets.GlobalText p.global_texts m.0 h.4,
      old_found f g targets.Function (function_names p) m.0 h.5,
      h.6,
    )
named_found EntryTexts name p none h =
    let f = target_named p in
    let g = target_named (with_name EntryTexts name p) in
    let m = named_more EntryTexts name p none in (
      old_found f g targets.Field p.fields m.0 h.0,
      old_found f g targets.EntryNumber p.entry_numbers m.0 h.1,
      new_found f g targets.EntryText p.entry_texts name m.0 m.1 h.2,
      old_found f g targets.GlobalNumber p.global_numbers m.0 h.3,
      old_found f g targets.GlobalText p.global_texts m.0 h.4,
      old_found f g targets.Function (function_names p) m.0 h.5,
      h.6,
    )
named_found GlobalNumbers name p none h =
    let f = target_named p in
    let g = target_named (with_name GlobalNumbers name p) in
    let m = named_more GlobalNumbers name p none in (
      old_found f g targets.Field p.fields m.0 h.0,
      old_found f g targets.EntryNumber p.entry_numbers m.0 h.1,
      old_found f g targets.EntryText p.entry_texts m.0 h.2,
      new_found f g targets.GlobalNumber p.global_numbers name m.0 m.1 h.3,
      old_found f g targets.GlobalText p.global_texts m.0 h.4,
      old_found f g targets.Function (function_names p) m.0 h.5,
      h.6,
    )
named_found GlobalTexts name p none h =
    let f = target_named p in
    let g = target_named (with_name GlobalTexts name p) in
    let m = named_more GlobalTexts name p none in (
      old_found f g targets.Field p.fields m.0 h.0,
      old_found f g targets.EntryNumber p.entry_numbers m.0 h.1,
      old_found f g targets.EntryText p.entry_texts m.0 h.2,
      old_found f g targets.GlobalNumber p.global_numbers m.0 h.3,
      new_found f g targets.GlobalText p.global_texts name m.0 m.1 h.4,
      old_found f g targets.Function (function_names p) m.0 h.5,
      h.6,
    )

defined_found : (p : Program) (name : List ℕ) (body : Body) → target_named p name ≡ None → Found p → Found (with_function name body p)
unfolding macro_named
defined_found p name body none h =
    let f = target_named p in
    let g = target_named (with_function name body p) in
    let new : Definition = record { name = name; body = body } in
    let more : Finds f g = finds f g name (targets.Function (length p.functions)) none (λ x. meaning_defined name x body p none) in
    let found : g name ≡ Some (targets.Function (length (function_names p))) =
    finds_new f g name (targets.Function (length p.functions)) (λ x. meaning_defined name x body p none) ∙ ap (λ n. Some (targets.Function n)) (sym (length-map p.functions (λ (f : Definition). f.name))) in (
      old_found f g targets.Field p.fields more h.0,
      old_found f g targets.EntryNumber p.entry_numbers more h.1,
      old_found f g targets.EntryText p.entry_texts more h.2,
      old_found f g targets.GlobalNumber p.global_numbers more h.3,
      old_found f g targets.GlobalText p.global_texts more h.4,
      subst (AreFound g targets.Function) (sym (map-append (λ (d : Definition). d.name) p.functions (new ∷ []))) (new_found f g targets.Function (function_names p) name more found h.5),
      h.6,
    )

macro_found : (p : Program) (name text : List ℕ) → macro_named p name ≡ None → Found p → Found (with_macro name text p)
unfolding target_named
macro_found p name text none h =
    let f = macro_named p in
    let g = macro_named (with_macro name text p) in
    let new : Macro = record { name = name; text = text } in
    let more : Finds f g = finds f g name (length p.macros) none (λ x. macro_defined name text x p none) in
    let found : g name ≡ Some (length (macro_names p)) = finds_new f g name (length p.macros) (λ x. macro_defined name text x p none) ∙ ap Some (sym (length-map p.macros (λ (m : Macro). m.name))) in
    (h.0, h.1, h.2, h.3, h.4, h.5, subst (AreFound g (λ n. n)) (sym (map-append (λ (m : Macro). m.name) p.macros (new ∷ []))) (new_found f g (λ n. n) (macro_names p) name more found h.6))

are_kept : IsKept Found
unfolding target_named macro_named
are_kept = record {
  named = λ list p word line name new h. named_found list name p (absent (target_named p name) (free (is_taken p) word line name new)) h;
  defined = λ p word line name tokens body rest new b h. defined_found p name body (absent (target_named p name) (free (is_taken p) word line name new)) h;
  macro = λ p word line name text new h. macro_found p name text (absent (macro_named p name) (free (is_macro p) word line name new)) h;
  listed = λ p action line acts h. h;
}

one_found : {T : Type 0} (f : List ℕ → Option T) (make : ℕ → T) (name : List ℕ) → f name ≡ Some (make 0) → AreFound f make (name ∷ [])
one_found f make name is zero x e = (let same : name ≡ x = cc e in ap f (sym same) ∙ is)
one_found f make name is (suc n) x e = cc

two_found : {T : Type 0} (f : List ℕ → Option T) (make : ℕ → T) (first second : List ℕ) → f first ≡ Some (make 0) → f second ≡ Some (make 1) → AreFound f make (first ∷ second ∷ [])
two_found f make first second a b zero x e = (let same : first ≡ x = cc e in ap f (sym same) ∙ a)
two_found f make first second a b (suc zero) x e = (let same : second ≡ x = cc e in ap f (sym same) ∙ b)
two_found f make first second a b (suc (suc n)) x e = cc

none_found : {T : Type 0} (f : List ℕ → Option T) (make : ℕ → T) → AreFound f make []
none_found f make n x e = cc

preset_found : Found preset
unfolding target_named builtin_named table
preset_found =
    let f = target_named preset in (
      one_found f targets.Field _ refl,
      none_found f targets.EntryNumber,
      one_found f targets.EntryText _ refl,
      two_found f targets.GlobalNumber _ _ refl refl,
      none_found f targets.GlobalText,
      none_found f targets.Function,
      none_found (macro_named preset) (λ n. n),
    )

pub each_name_is_found : EachNameIsFound
unfolding style_of reading
each_name_is_found text p h =
    let found = commands_keep Found are_kept (suc (count (tokens_of text))) BeforeEntry preset (tokens_of text) p preset_found h in
    record {
      fields = found.0;
      entry_numbers = found.1;
      entry_texts = found.2;
      global_numbers = found.3;
      global_texts = found.4;
      functions = found.5;
      macros = found.6;
    }
