-- A name that gets a value leaves the state that is said of it.
use Rattle.std.proofs.Common.{◌≡◌, ℕ, ◌<◌, Bool, true, false, List, [], ◌∷◌, Option, Some, None, inl, inr, refl, sym, subst, ap, ◌∙◌, true≢false}
use Rattle.std.specs.Prelude.{if◌then◌else◌, slice_index_or, slice_set, option_map}
use Rattle.std.specs.Option.{unwrap_or}
use Rattle.std.proofs.lemmas.List.{get_or-set_same, length-set}
use Rattle.bt_style.specs.declared.builtin.Builtin.TheVariants as builtin
use Rattle.bt_style.specs.declared.style.Target.{Target}
use Rattle.bt_style.specs.declared.style.Target.TheVariants.{Builtin, Field, EntryNumber, EntryText, GlobalNumber, GlobalText, Function}
use Rattle.bt_style.specs.Program.{Program}
use Rattle.bt_actions.specs.declared.entry.Variables.{Variables}
use Rattle.bt_actions.specs.Item.{Name, Block, Item, Num, Txt, Fun, Missing}
use Rattle.bt_actions.specs.World.{World, no_entry, with_stack}
use Rattle.bt_actions.specs.Assignment.{with_number, with_text, with_own, own_changed, assigned}
use Rattle.bt_actions.specs.Actions.{basic}
use Rattle.bt_sound.specs.Known.{Known, Number, Text, Run, KnownVariables, KnownEntry, State, holding}
use Rattle.bt_sound.specs.Fits.{IsIn, TextFits, Fits, VariablesFit, EntryFits, Here, At, ActAt}
use Rattle.bt_sound.specs.Reading.{number_known, text_known, of_globals, of_own, of_variables, number_put, text_put, own_put, value_put, assigning}
use Rattle.bt_sound.proofs.Options.{nothing}
use Rattle.bt_sound.proofs.Pairs.{each_set}

-- what is put where a text isn't missing
put_chosen : {A B : Type 0} (f : A → B) (t : Bool) (x : A) (out : B) → option_map f (if t then None else Some x) ≡ Some out → (t ≡ false) × (Some (f x) ≡ Some out)
put_chosen f true x out e = nothing out e
put_chosen f false x out e = (refl, e)

module _ (types : List ℕ) where
  placed : (s out : State) (w : World) → Some s ≡ Some out → Here types s w → At types (out ∷ []) w
  placed s out w e h = subst (λ x. At types (x ∷ []) w) (ap (λ o. unwrap_or o s) e) (inr (inl h))

  -- variables of the style

  put_global_number : (n : ℕ) (k : Known) (v : Item) (s out : State) (w : World) → Fits k v → Here types s w → option_map (λ g. of_globals g s) (number_put n k s.globals) ≡ Some out → At types (out ∷ []) (assigned (v, GlobalNumber n) w)
  put_global_number n (Number r) (Num z) s out w f i e =
      placed (of_globals (number_known n r s.globals) s) out (assigned (Num z, GlobalNumber n) w) e (i.0, (i.1.0, i.1.1, (each_set IsIn s.globals.numbers w.globals.numbers n r z i.1.2.0 f, i.1.2.1)), i.2)
  put_global_number n (Number r) (Txt t) s out w f i e = absurd f
  put_global_number n (Number r) (Fun c) s out w f i e = absurd f
  put_global_number n (Number r) (Missing g) s out w f i e = absurd f
  put_global_number n (Text m) v s out w f i e = nothing out e
  put_global_number n (Run c) v s out w f i e = nothing out e

  put_global_text : (n : ℕ) (k : Known) (v : Item) (s out : State) (w : World) → Fits k v → Here types s w → option_map (λ g. of_globals g s) (text_put n k s.globals) ≡ Some out → At types (out ∷ []) (assigned (v, GlobalText n) w)
  put_global_text n (Text m) (Txt t) s out w f i e =
      let g = text_known n m s.globals in
      placed (of_globals g s) out (assigned (Txt t, GlobalText n) w) (put_chosen (λ g. of_globals g s) m.missing g out e).1 (i.0, (i.1.0, i.1.1, (i.1.2.0, each_set TextFits s.globals.texts w.globals.texts n m t i.1.2.1 f)), i.2)
  put_global_text n (Text m) (Missing g) s out w f i e =
      absurd (true≢false (sym f ∙ (put_chosen (λ g. of_globals g s) m.missing (text_known n m s.globals) out e).0))
  put_global_text n (Text m) (Num z) s out w f i e = absurd f
  put_global_text n (Text m) (Fun c) s out w f i e = absurd f
  put_global_text n (Number r) v s out w f i e = nothing out e
  put_global_text n (Run c) v s out w f i e = nothing out e

  -- variables of the entry, which stands at place x

  abbrev at_place : Option ℕ → World → World
  at_place x w = record w { current = x }

  put_own : (k : KnownEntry) (known : KnownVariables) (vs : Variables) (s : State) (j : ℕ) (w : World) → Here types (of_own k s) (at_place (Some j) w) → VariablesFit known vs → Here types (of_variables k s known) (with_own j vs (at_place (Some j) w))
  put_own k known vs s j w i f =
      let d = record (slice_index_or w.entries j no_entry) { variables = vs } in
      let fit : EntryFits types (Some (record k { variables = known })) (Some d) = (i.1.1.0, i.1.1.1, f) in
      (i.0, (subst (λ l. j < l) (sym (length-set w.entries j d)) i.1.0, subst (λ e. EntryFits types (Some (record k { variables = known })) (Some e)) (sym (get_or-set_same w.entries j d no_entry i.1.0)) fit, i.1.2), i.2)

  put_own_number : (n : ℕ) (k : Known) (v : Item) (o : Option KnownEntry) (s out : State) (x : Option ℕ) (w : World) → Fits k v → Here types (record s { entry = o }) (at_place x w) → own_put (number_put n k) s o ≡ Some out → At types (out ∷ []) (own_changed (with_number n v) x (at_place x w))
  put_own_number n k v None s out x w f i e = nothing out e
  put_own_number n (Text m) v (Some o) s out x w f i e = nothing out e
  put_own_number n (Run c) v (Some o) s out x w f i e = nothing out e
  put_own_number n (Number r) (Txt t) (Some o) s out x w f i e = absurd f
  put_own_number n (Number r) (Fun c) (Some o) s out x w f i e = absurd f
  put_own_number n (Number r) (Missing g) (Some o) s out x w f i e = absurd f
  put_own_number n (Number r) (Num z) (Some o) s out None w f i e = absurd i.1.1
  put_own_number n (Number r) (Num z) (Some o) s out (Some j) w f i e =
      let d = slice_index_or w.entries j no_entry in
      let vs = record d.variables { numbers = slice_set d.variables.numbers n z } in
      placed (of_variables o s (number_known n r o.variables)) out (with_own j vs (at_place (Some j) w)) e (put_own o (number_known n r o.variables) vs s j w i (each_set IsIn o.variables.numbers d.variables.numbers n r z i.1.1.2.0 f, i.1.1.2.1))

  put_own_text : (n : ℕ) (k : Known) (v : Item) (o : Option KnownEntry) (s out : State) (x : Option ℕ) (w : World) → Fits k v → Here types (record s { entry = o }) (at_place x w) → own_put (text_put n k) s o ≡ Some out → At types (out ∷ []) (own_changed (with_text n v) x (at_place x w))
  put_own_text n k v None s out x w f i e = nothing out e
  put_own_text n (Number r) v (Some o) s out x w f i e = nothing out e
  put_own_text n (Run c) v (Some o) s out x w f i e = nothing out e
  put_own_text n (Text m) (Num z) (Some o) s out x w f i e = absurd f
  put_own_text n (Text m) (Fun c) (Some o) s out x w f i e = absurd f
  put_own_text n (Text m) (Missing g) (Some o) s out x w f i e =
      absurd (true≢false (sym f ∙ (put_chosen (of_variables o s) m.missing (text_known n m o.variables) out e).0))
  put_own_text n (Text m) (Txt t) (Some o) s out None w f i e = absurd i.1.1
  put_own_text n (Text m) (Txt t) (Some o) s out (Some j) w f i e =
      let d = slice_index_or w.entries j no_entry in
      let vs = record d.variables { texts = slice_set d.variables.texts n t } in
      placed (of_variables o s (text_known n m o.variables)) out (with_own j vs (at_place (Some j) w)) (put_chosen (of_variables o s) m.missing (text_known n m o.variables) out e).1 (put_own o (text_known n m o.variables) vs s j w i (i.1.1.2.0, each_set TextFits o.variables.texts d.variables.texts n m t i.1.1.2.1 f))

  assigned_at : (t : Target) (k : Known) (v : Item) (s out : State) (w : World) → Fits k v → Here types s w → value_put t k s ≡ Some out → At types (out ∷ []) (assigned (v, t) w)
  assigned_at (EntryNumber n) k v s out w f i e = put_own_number n k v s.entry s out w.current w f i e
  assigned_at (EntryText n) k v s out w f i e = put_own_text n k v s.entry s out w.current w f i e
  assigned_at (GlobalNumber n) k v s out w f i e = put_global_number n k v s out w f i e
  assigned_at (GlobalText n) k v s out w f i e = put_global_text n k v s out w f i e
  assigned_at (Builtin b) k v s out w f i e = nothing out e
  assigned_at (Field n) k v s out w f i e = nothing out e
  assigned_at (Function n) k v s out w f i e = nothing out e

  -- `:=`, where the stack of the world is taken apart
  assigning_over : (p : Program) (ks : List Known) (vs : List Item) (s out : State) (w : World) → Here types (holding ks s) (with_stack vs w) → assigning ks s ≡ Some out → ActAt types (out ∷ []) (basic p builtin.Assign (with_stack vs w))
  assigning_over p [] vs s out w i e = nothing out e
  assigning_over p (Number r ∷ ks) vs s out w i e = nothing out e
  assigning_over p (Text m ∷ ks) vs s out w i e = nothing out e
  assigning_over p (Run (Name t) ∷ []) vs s out w i e = nothing out e
  assigning_over p (Run (Block b) ∷ []) vs s out w i e = nothing out e
  assigning_over p (Run (Block b) ∷ k ∷ ks) vs s out w i e = nothing out e
  assigning_over p (Run (Name t) ∷ k ∷ ks) [] s out w i e = absurd i.2
  assigning_over p (Run (Name t) ∷ k ∷ ks) (v ∷ []) s out w i e = absurd i.2.1
  assigning_over p (Run (Name t) ∷ k ∷ ks) (Num n ∷ v ∷ vs) s out w i e = absurd i.2.0
  assigning_over p (Run (Name t) ∷ k ∷ ks) (Txt u ∷ v ∷ vs) s out w i e = absurd i.2.0
  assigning_over p (Run (Name t) ∷ k ∷ ks) (Missing n ∷ v ∷ vs) s out w i e = absurd i.2.0
  assigning_over p (Run (Name t) ∷ k ∷ ks) (Fun c ∷ v ∷ vs) s out w i e =
      subst (λ d. ActAt types (out ∷ []) (basic p builtin.Assign (with_stack (Fun d ∷ v ∷ vs) w))) i.2.0
      (assigned_at t k v (holding ks s) out (with_stack vs w) i.2.1.0 (i.0, i.1, i.2.1.1) e)

  pub assigning_at : (p : Program) (s out : State) (w : World) → Here types s w → assigning s.stack s ≡ Some out → ActAt types (out ∷ []) (basic p builtin.Assign w)
  assigning_at p s out w i e = assigning_over p s.stack w.stack s out w i e
