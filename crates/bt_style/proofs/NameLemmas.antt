-- What names stand for once one more is declared.
use Rattle.std.proofs.Common.{◌≤◌, ◌<◌, drop, get_or, drop-cons, arith, ◌≡◌, ◌∙◌, ap, sym, refl, subst, ℕ, suc, Bool, true, false, cond, List, [], ◌∷◌, ◌++◌, map, length, Option, Some, None, inl, inr}
use Rattle.std.specs.Prelude.{bytes_eq, if◌then◌else◌}
use Rattle.bt_text.specs.declared.by_name.ByName.{ByName}
use Rattle.bt_text.specs.ByName.{at_small, listed}
use Rattle.std.specs.Map.{lookup}
use Rattle.std.specs.Option.{option_map}
use Rattle.std.specs.Cmp.Lexicographic.{bytes_decides}
use Rattle.std.proofs.lemmas.Bool.{cases_Bool, cond-true, cond-false}
use Rattle.std.proofs.lemmas.List.{length-map, map-append}
use Rattle.bt_style.specs.declared.builtin.Builtin.{Builtin}
use Rattle.bt_style.specs.declared.builtin.Builtin.TheVariants.{Greater}
use Rattle.bt_style.specs.declared.style.Target.{Target}
use Rattle.bt_style.specs.declared.style.Target.TheVariants as targets
use Rattle.bt_style.specs.declared.style.Macro.{Macro}
use Rattle.bt_style.specs.declared.names.Names.{Names}
use Rattle.bt_style.specs.declared.names.Names.TheVariants.{Fields, EntryNumbers, EntryTexts, GlobalNumbers, GlobalTexts}
use Rattle.bt_style.specs.Tree.{Body}
use Rattle.bt_style.specs.Builtins.{name_of}
use Rattle.bt_style.specs.Program.{Program, Definition}
use Rattle.bt_style.specs.Names.{builtin_named, place_in, first_some, target_named, macro_named}
use Rattle.bt_style.specs.inner.Names.{Holds, builtin_among}
use Rattle.bt_style.specs.Draft.{with_name}
use Rattle.bt_style.specs.inner.Cases.{bare, with_macro, with_function, function_names, macro_names}
use Rattle.bt_style.specs.inner.Draft.{next_target}

-- one more built-in function before others
pub builtin_more : (b : Builtin) (others : List Builtin) (name : List ℕ) (old : Option Target) → old ≡ option_map targets.Builtin (builtin_among others name) →
    (if bytes_eq (name_of b) name then Some (targets.Builtin b) else old) ≡ option_map targets.Builtin (builtin_among (b ∷ others) name)
builtin_more b others name old h =
    elim (bytes_eq (name_of b) name) as (λ v. cond v (Some (targets.Builtin b)) old ≡ option_map targets.Builtin (cond v (Some b) (builtin_among others name))) [
      | true ↦ refl
      | false ↦ h
    ]

-- another name has the place that it had
push_other : (names : List (List ℕ)) (name q : List ℕ) → bytes_eq name q ≡ false → place_in (names ++ name ∷ []) q ≡ place_in names q
push_other [] name q e = rw e refl
push_other (first ∷ names) name q e = ap (λ (o : Option ℕ). cond (bytes_eq first q) (Some 0) (option_map (λ n. suc n) o)) (push_other names name q e)

pub none_behind : (b : Bool) (o : Option ℕ) → cond b (Some 0) (option_map (λ n. suc n) o) ≡ None → (b ≡ false) × (o ≡ None)
none_behind true o h = cc
none_behind false None h = (refl, refl)
none_behind false (Some n) h = cc

-- a new name has the last place
push_same : (names : List (List ℕ)) (name q : List ℕ) → bytes_eq name q ≡ true → place_in names q ≡ None → place_in (names ++ name ∷ []) q ≡ Some (length names)
push_same [] name q e h = rw e refl
push_same (first ∷ names) name q e h =
    let both : (bytes_eq first q ≡ false) × (place_in names q ≡ None) = none_behind (bytes_eq first q) (place_in names q) h in
    rw (both.0, push_same names name q e both.1) refl

pub none_of : (F : ℕ → Target) (o : Option ℕ) → option_map F o ≡ None → o ≡ None
none_of F None h = refl
none_of F (Some n) h = cc

pub slot_none : (us : List (Option Target)) (o : Option Target) (vs : List (Option Target)) → first_some (us ++ o ∷ vs) ≡ None → o ≡ None
slot_none [] None vs h = refl
slot_none [] (Some t) vs h = cc
slot_none (None ∷ us) o vs h = slot_none us o vs h
slot_none (Some u ∷ us) o vs h = cc

slot_some : (us : List (Option Target)) (o : Option Target) (vs : List (Option Target)) (t : Target) → first_some (us ++ o ∷ vs) ≡ None → first_some (us ++ Some t ∷ vs) ≡ Some t
slot_some [] o vs t h = refl
slot_some (None ∷ us) o vs t h = slot_some us o vs t h
slot_some (Some u ∷ us) o vs t h = cc

-- one list of names has one more
slot : (us vs : List (Option Target)) (F : ℕ → Target) (names : List (List ℕ)) (name q : List ℕ) →
    (bytes_eq name q ≡ true → first_some (us ++ option_map F (place_in names q) ∷ vs) ≡ None) →
    first_some (us ++ option_map F (place_in (names ++ name ∷ []) q) ∷ vs)
    ≡ cond (bytes_eq name q) (Some (F (length names))) (first_some (us ++ option_map F (place_in names q) ∷ vs))
slot us vs F names name q h =
    elim (cases_Bool (bytes_eq name q)) [
      | inl y ↦
          let absent : place_in names q ≡ None = none_of F (place_in names q) (slot_none us (option_map F (place_in names q)) vs (h y)) in
          ap (λ (o : Option ℕ). first_some (us ++ option_map F o ∷ vs)) (push_same names name q y absent)
          ∙ slot_some us (option_map F (place_in names q)) vs (F (length names)) (h y)
          ∙ sym (cond-true (bytes_eq name q) (Some (F (length names))) (first_some (us ++ option_map F (place_in names q) ∷ vs)) y)
      | inr n ↦
          ap (λ (o : Option ℕ). first_some (us ++ option_map F o ∷ vs)) (push_other names name q n)
          ∙ sym (cond-false (bytes_eq name q) (Some (F (length names))) (first_some (us ++ option_map F (place_in names q) ∷ vs)) n)
    ]

free_alike : (p : Program) (name q : List ℕ) → target_named p name ≡ None → bytes_eq name q ≡ true → target_named p q ≡ None
free_alike p name q h e = subst (λ (x : List ℕ). target_named p x ≡ None) ((bytes_decides name q).0 e) h

-- what a name stands for once a free one is declared
pub meaning_declared : (names : Names) (name q : List ℕ) (p : Program) → target_named p name ≡ None →
    target_named (with_name names name p) q ≡ (if bytes_eq name q then Some (next_target names p) else target_named p q)
unfolding target_named
meaning_declared Fields name q p h =
    slot (option_map targets.Builtin (builtin_named q) ∷ [])
    (option_map targets.EntryNumber (place_in p.entry_numbers q) ∷ option_map targets.EntryText (place_in p.entry_texts q) ∷ option_map targets.GlobalNumber (place_in p.global_numbers q)
    ∷ option_map targets.GlobalText (place_in p.global_texts q) ∷ option_map targets.Function (place_in (function_names p) q) ∷ [])
    targets.Field p.fields name q (free_alike p name q h)
meaning_declared EntryNumbers name q p h =
    slot (option_map targets.Builtin (builtin_named q) ∷ option_map targets.Field (place_in p.fields q) ∷ [])
    (option_map targets.EntryText (place_in p.entry_texts q) ∷ option_map targets.GlobalNumber (place_in p.global_numbers q)
    ∷ option_map targets.GlobalText (place_in p.global_texts q) ∷ option_map targets.Function (place_in (function_names p) q) ∷ [])
    targets.EntryNumber p.entry_numbers name q (free_alike p name q h)
meaning_declared EntryTexts name q p h =
    slot (option_map targets.Builtin (builtin_named q) ∷ option_map targets.Field (place_in p.fields q) ∷ option_map targets.EntryNumber (place_in p.entry_numbers q) ∷ [])
    (option_map targets.GlobalNumber (place_in p.global_numbers q)
    ∷ option_map targets.GlobalText (place_in p.global_texts q) ∷ option_map targets.Function (place_in (function_names p) q) ∷ [])
    targets.EntryText p.entry_texts name q (free_alike p name q h)
meaning_declared GlobalNumbers name q p h =
    slot (option_map targets.Builtin (builtin_named q) ∷ option_map targets.Field (place_in p.fields q) ∷ option_map targets.EntryNumber (place_in p.entry_numbers q)
    ∷ option_map targets.EntryText (place_in p.entry_texts q) ∷ [])
    (option_map targets.GlobalText (place_in p.global_texts q) ∷ option_map targets.Function (place_in (function_names p) q) ∷ [])
    targets.GlobalNumber p.global_numbers name q (free_alike p name q h)
meaning_declared GlobalTexts name q p h =
    slot (option_map targets.Builtin (builtin_named q) ∷ option_map targets.Field (place_in p.fields q) ∷ option_map targets.EntryNumber (place_in p.entry_numbers q)
    ∷ option_map targets.EntryText (place_in p.entry_texts q) ∷ option_map targets.GlobalNumber (place_in p.global_numbers q) ∷ [])
    (option_map targets.Function (place_in (function_names p) q) ∷ [])
    targets.GlobalText p.global_texts name q (free_alike p name q h)

pub meaning_defined : (name q : List ℕ) (body : Body) (p : Program) → target_named p name ≡ None →
    target_named (with_function name body p) q ≡ (if bytes_eq name q then Some (targets.Function (length p.functions)) else target_named p q)
unfolding target_named
meaning_defined name q body p h =
    let us : List (Option Target) =
    option_map targets.Builtin (builtin_named q) ∷ option_map targets.Field (place_in p.fields q) ∷ option_map targets.EntryNumber (place_in p.entry_numbers q)
    ∷ option_map targets.EntryText (place_in p.entry_texts q) ∷ option_map targets.GlobalNumber (place_in p.global_numbers q) ∷ option_map targets.GlobalText (place_in p.global_texts q) ∷ [] in
    let new : Definition = record { name = name; body = body } in
    let more : map (λ (f : Definition). f.name) (p.functions ++ new ∷ []) ≡ function_names p ++ name ∷ [] = map-append (λ (f : Definition). f.name) p.functions (new ∷ []) in
    ap (λ (l : List (List ℕ)). first_some (us ++ option_map targets.Function (place_in l q) ∷ [])) more
    ∙ slot us [] targets.Function (function_names p) name q (free_alike p name q h)
    ∙ ap (λ (n : ℕ). cond (bytes_eq name q) (Some (targets.Function n)) (first_some (us ++ option_map targets.Function (place_in (function_names p) q) ∷ []))) (length-map p.functions (λ (f : Definition). f.name))

-- the same of macros
pub macro_defined : (name text q : List ℕ) (p : Program) → macro_named p name ≡ None →
    macro_named (with_macro name text p) q ≡ (if bytes_eq name q then Some (length p.macros) else macro_named p q)
unfolding macro_named
macro_defined name text q p h =
    let new : Macro = record { name = name; text = text } in
    let more : map (λ (m : Macro). m.name) (p.macros ++ new ∷ []) ≡ macro_names p ++ name ∷ [] = map-append (λ (m : Macro). m.name) p.macros (new ∷ []) in
    elim (cases_Bool (bytes_eq name q)) [
      | inl y ↦
          let absent : place_in (macro_names p) q ≡ None = subst (λ (x : List ℕ). place_in (macro_names p) x ≡ None) ((bytes_decides name q).0 y) h in
          ap (λ (l : List (List ℕ)). place_in l q) more ∙ push_same (macro_names p) name q y absent ∙ ap (λ (n : ℕ). Some n) (length-map p.macros (λ (m : Macro). m.name))
          ∙ sym (cond-true (bytes_eq name q) (Some (length p.macros)) (place_in (macro_names p) q) y)
      | inr n ↦
          ap (λ (l : List (List ℕ)). place_in l q) more ∙ push_other (macro_names p) name q n
          ∙ sym (cond-false (bytes_eq name q) (Some (length p.macros)) (place_in (macro_names p) q) n)
    ]

-- a table that holds what names stand for, once a free name is declared
pub holds_declared : (old roomed new : ByName Target) (names : Names) (name : List ℕ) (p after : Program) (bytes : List ℕ) (value : Target) →
    Holds old (target_named p) → ((key : List ℕ) → at_small roomed key ≡ at_small old key) → target_named p name ≡ None → after ≡ with_name names name p →
    bytes ≡ name → value ≡ next_target names p →
    ((key : List ℕ) → at_small new key ≡ (if bytes_eq bytes key then Some value else at_small roomed key)) → Holds new (target_named after)
holds_declared old roomed new names name p after bytes value holds room free is named stands put key =
    put key
    ∙ ap (λ (b : List ℕ). cond (bytes_eq b key) (Some value) (at_small roomed key)) named
    ∙ ap (λ (v : Target). cond (bytes_eq name key) (Some v) (at_small roomed key)) stands
    ∙ ap (λ (o : Option Target). cond (bytes_eq name key) (Some (next_target names p)) o) (room key ∙ holds key)
    ∙ sym (meaning_declared names name key p free)
    ∙ ap (λ (q : Program). target_named q key) (sym is)

-- the same of a function
pub holds_defined : (old roomed new : ByName Target) (name : List ℕ) (body : Body) (p after : Program) (bytes : List ℕ) (value : Target) →
    Holds old (target_named p) → ((key : List ℕ) → at_small roomed key ≡ at_small old key) → target_named p name ≡ None → after ≡ with_function name body p →
    bytes ≡ name → value ≡ targets.Function (length p.functions) →
    ((key : List ℕ) → at_small new key ≡ (if bytes_eq bytes key then Some value else at_small roomed key)) → Holds new (target_named after)
holds_defined old roomed new name body p after bytes value holds room free is named stands put key =
    put key
    ∙ ap (λ (b : List ℕ). cond (bytes_eq b key) (Some value) (at_small roomed key)) named
    ∙ ap (λ (v : Target). cond (bytes_eq name key) (Some v) (at_small roomed key)) stands
    ∙ ap (λ (o : Option Target). cond (bytes_eq name key) (Some (targets.Function (length p.functions))) o) (room key ∙ holds key)
    ∙ sym (meaning_defined name key body p free)
    ∙ ap (λ (q : Program). target_named q key) (sym is)

-- the same of a macro
pub holds_macro : (old roomed new : ByName ℕ) (name text : List ℕ) (p after : Program) (bytes : List ℕ) (value : ℕ) →
    Holds old (macro_named p) → ((key : List ℕ) → at_small roomed key ≡ at_small old key) → macro_named p name ≡ None → after ≡ with_macro name text p →
    bytes ≡ name → value ≡ length p.macros →
    ((key : List ℕ) → at_small new key ≡ (if bytes_eq bytes key then Some value else at_small roomed key)) → Holds new (macro_named after)
holds_macro old roomed new name text p after bytes value holds room free is named stands put key =
    put key
    ∙ ap (λ (b : List ℕ). cond (bytes_eq b key) (Some value) (at_small roomed key)) named
    ∙ ap (λ (v : ℕ). cond (bytes_eq name key) (Some v) (at_small roomed key)) stands
    ∙ ap (λ (o : Option ℕ). cond (bytes_eq name key) (Some (length p.macros)) o) (room key ∙ holds key)
    ∙ sym (macro_defined name text key p free)
    ∙ ap (λ (q : Program). macro_named q key) (sym is)

-- macros and names are apart
macro_named-with_name : (names : Names) (name q : List ℕ) (p : Program) → macro_named (with_name names name p) q ≡ macro_named p q
unfolding macro_named
macro_named-with_name Fields name q p = refl
macro_named-with_name EntryNumbers name q p = refl
macro_named-with_name EntryTexts name q p = refl
macro_named-with_name GlobalNumbers name q p = refl
macro_named-with_name GlobalTexts name q p = refl

pub macros_stay_declared : (m : ByName ℕ) (names : Names) (name : List ℕ) (p after : Program) → Holds m (macro_named p) → after ≡ with_name names name p → Holds m (macro_named after)
macros_stay_declared m names name p after holds is key =
    holds key ∙ sym (macro_named-with_name names name key p) ∙ ap (λ (q : Program). macro_named q key) (sym is)

pub macros_stay_defined : (m : ByName ℕ) (name : List ℕ) (body : Body) (p after : Program) → Holds m (macro_named p) → after ≡ with_function name body p → Holds m (macro_named after)
unfolding macro_named
macros_stay_defined m name body p after holds is key =
    holds key ∙ ap (λ (q : Program). macro_named q key) (sym is)

pub names_stay : (m : ByName Target) (name text : List ℕ) (p after : Program) → Holds m (target_named p) → after ≡ with_macro name text p → Holds m (target_named after)
unfolding target_named
names_stay m name text p after holds is key =
    holds key ∙ ap (λ (q : Program). target_named q key) (sym is)

-- where nothing is declared, a name stands for a built-in function or for nothing
pub meaning-bare : (q : List ℕ) → target_named bare q ≡ option_map targets.Builtin (builtin_named q)
unfolding target_named
meaning-bare q = elim (builtin_named q) as (λ o. first_some (option_map targets.Builtin o ∷ None ∷ None ∷ None ∷ None ∷ None ∷ None ∷ []) ≡ option_map targets.Builtin o) [ None ↦ refl | Some b ↦ refl ]

pub holds_builtins : (m : ByName Target) (p : Program) → Holds m (λ name. option_map targets.Builtin (builtin_named name)) → p ≡ bare → Holds m (target_named p)
holds_builtins m p holds is key = holds key ∙ sym (meaning-bare key) ∙ ap (λ (q : Program). target_named q key) (sym is)

pub holds_no_macro : (m : ByName ℕ) (p : Program) → listed m ≡ [] → p ≡ bare → Holds m (macro_named p)
unfolding macro_named
holds_no_macro m p none is key =
    ap (λ (es : List (List ℕ × ℕ)). lookup (bytes_eq key) es) none
    ∙ ap (λ (q : Program). macro_named q key) (sym is)

-- the built-in functions from one more place on
pub holds_from : (old new : ByName Target) (bs : List Builtin) (n left : ℕ) → left ≡ suc n → left ≤ length bs →
    Holds old (λ name. option_map targets.Builtin (builtin_among (drop left bs) name)) →
    ((key : List ℕ) → at_small new key ≡ (if bytes_eq (name_of (get_or bs n Greater)) key then Some (targets.Builtin (get_or bs n Greater)) else at_small old key)) →
    Holds new (λ name. option_map targets.Builtin (builtin_among (drop n bs) name))
holds_from old new bs n left e within holds put key =
    let below : n < length bs = omega arith in
    let here : at_small old key ≡ option_map targets.Builtin (builtin_among (drop (suc n) bs) key) = rw (← e) (holds key) in
    rw (drop-cons bs n Greater)
    (put key ∙ builtin_more (get_or bs n Greater) (drop (suc n) bs) key (at_small old key) here)
