-- A name is reached exactly where its number is in the list of its kind.
use Rattle.std.proofs.Common.{◌≡◌, ℕ, Bool, false, ◌||◌, List, [], ◌∷◌, Option, Some, None, refl, sym, ap, ◌∙◌}
use Rattle.std.specs.Prelude.{nat_eq, filter_map}
use Rattle.bt_style.specs.declared.style.Target.{Target}
use Rattle.bt_style.specs.declared.style.Target.TheVariants.{Builtin, Field, EntryNumber, EntryText, GlobalNumber, GlobalText, Function}
use Rattle.bt_style.specs.declared.reach.Reach.{Reach}
use Rattle.bt_style.specs.Numbers.{as_field, as_entry_number, as_entry_text, as_global_number, as_global_text}
use Rattle.bt_style.specs.Reach.{target_eq, is_among}
use Rattle.bt_actions.specs.declared.entry.Variables.{Variables}
use Rattle.bt_machine.specs.Footprint.{blend_variables, blend_globals, blend_own}
use Rattle.bt_machine.specs.inner.Footprint.{among}

-- whether a number is this one
abbrev is_this : Option ℕ → ℕ → Bool
is_this None n = false
is_this (Some m) n = nat_eq m n

one_more : (number : Target → Option ℕ) (t : Target) (ts : List Target) (o : Option ℕ) (c : Bool) (n : ℕ) → number t ≡ o → c ≡ among (filter_map number ts) n → (is_this (number t) n || c) ≡ among (filter_map number (t ∷ ts)) n
one_more number t ts None c n e h = rw e h
one_more number t ts (Some m) c n e h = rw e (ap (λ c. nat_eq m n || c) h)

named : (name : ℕ → Target) (number : Target → Option ℕ) → ((t : Target) (n : ℕ) → target_eq t (name n) ≡ is_this (number t) n) → (ts : List Target) (n : ℕ) → is_among ts (name n) ≡ among (filter_map number ts) n
named name number h [] n = refl
named name number h (t ∷ ts) n =
    ap (λ c. c || is_among ts (name n)) (h t n) ∙ one_more number t ts (number t) (is_among ts (name n)) n refl (named name number h ts n)

field_is : (t : Target) (n : ℕ) → target_eq t (Field n) ≡ is_this (as_field t) n
field_is (Builtin b) n = refl
field_is (Field m) n = refl
field_is (EntryNumber m) n = refl
field_is (EntryText m) n = refl
field_is (GlobalNumber m) n = refl
field_is (GlobalText m) n = refl
field_is (Function m) n = refl

entry_number_is : (t : Target) (n : ℕ) → target_eq t (EntryNumber n) ≡ is_this (as_entry_number t) n
entry_number_is (Builtin b) n = refl
entry_number_is (Field m) n = refl
entry_number_is (EntryNumber m) n = refl
entry_number_is (EntryText m) n = refl
entry_number_is (GlobalNumber m) n = refl
entry_number_is (GlobalText m) n = refl
entry_number_is (Function m) n = refl

entry_text_is : (t : Target) (n : ℕ) → target_eq t (EntryText n) ≡ is_this (as_entry_text t) n
entry_text_is (Builtin b) n = refl
entry_text_is (Field m) n = refl
entry_text_is (EntryNumber m) n = refl
entry_text_is (EntryText m) n = refl
entry_text_is (GlobalNumber m) n = refl
entry_text_is (GlobalText m) n = refl
entry_text_is (Function m) n = refl

global_number_is : (t : Target) (n : ℕ) → target_eq t (GlobalNumber n) ≡ is_this (as_global_number t) n
global_number_is (Builtin b) n = refl
global_number_is (Field m) n = refl
global_number_is (EntryNumber m) n = refl
global_number_is (EntryText m) n = refl
global_number_is (GlobalNumber m) n = refl
global_number_is (GlobalText m) n = refl
global_number_is (Function m) n = refl

global_text_is : (t : Target) (n : ℕ) → target_eq t (GlobalText n) ≡ is_this (as_global_text t) n
global_text_is (Builtin b) n = refl
global_text_is (Field m) n = refl
global_text_is (EntryNumber m) n = refl
global_text_is (EntryText m) n = refl
global_text_is (GlobalNumber m) n = refl
global_text_is (GlobalText m) n = refl
global_text_is (Function m) n = refl

module _ (r : Reach) (n : ℕ) where
  pub field_listed : is_among r.targets (Field n) ≡ among r.fields n
  field_listed = named Field as_field field_is r.targets n ∙ ap (λ ns. among ns n) (sym r.fields_among)

  pub entry_number_listed : is_among r.targets (EntryNumber n) ≡ among r.entry_numbers n
  entry_number_listed = named EntryNumber as_entry_number entry_number_is r.targets n ∙ ap (λ ns. among ns n) (sym r.entry_numbers_among)

  pub entry_text_listed : is_among r.targets (EntryText n) ≡ among r.entry_texts n
  entry_text_listed = named EntryText as_entry_text entry_text_is r.targets n ∙ ap (λ ns. among ns n) (sym r.entry_texts_among)

  pub global_number_listed : is_among r.targets (GlobalNumber n) ≡ among r.global_numbers n
  global_number_listed = named GlobalNumber as_global_number global_number_is r.targets n ∙ ap (λ ns. among ns n) (sym r.global_numbers_among)

  pub global_text_listed : is_among r.targets (GlobalText n) ≡ among r.global_texts n
  global_text_listed = named GlobalText as_global_text global_text_is r.targets n ∙ ap (λ ns. among ns n) (sym r.global_texts_among)

-- blends along the lists

pub globals_listed : (r : Reach) (v b : Variables) → blend_variables (among r.global_numbers) (among r.global_texts) v b ≡ blend_globals (is_among r.targets) v b
globals_listed r v b =
    λ j. blend_variables (λ n. sym (global_number_listed r n) j) (λ n. sym (global_text_listed r n) j) v b

pub owns_listed : (r : Reach) (v b : Variables) → blend_variables (among r.entry_numbers) (among r.entry_texts) v b ≡ blend_own (is_among r.targets) v b
owns_listed r v b =
    λ j. blend_variables (λ n. sym (entry_number_listed r n) j) (λ n. sym (entry_text_listed r n) j) v b
