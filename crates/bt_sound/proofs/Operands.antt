-- Names that are read leave one of the states that are said of them.
use Rattle.std.proofs.Common.{◌≡◌, ℕ, ℤ, pos, ◌≤ℤ◌, ◌<ℤ◌, int_lt, Bool, true, false, not, List, [], ◌∷◌, Option, Some, None, inl, inr, refl, sym, subst, ap, arith}
use Rattle.std.specs.Prelude.{if◌then◌else◌, slice_index_or, option_map}
use Rattle.std.specs.Option.{unwrap_or}
use Rattle.std.specs.List.{list_all}
use Rattle.std.proofs.lemmas.Int.{ints, by_lt_z}
use Rattle.bt_text.specs.ByteTests.{is_white}
use Rattle.bt_actions.specs.declared.entry.Entry.{Entry}
use Rattle.bt_style.specs.declared.builtin.Builtin.TheVariants as builtin
use Rattle.bt_style.specs.Program.{Program}
use Rattle.bt_actions.specs.Item.{Item, Num, Txt, Fun, Missing}
use Rattle.bt_actions.specs.World.{World, entry_in, with_stack}
use Rattle.bt_actions.specs.State.{pushed}
use Rattle.bt_actions.specs.Actions.{basic}
use Rattle.bt_actions.specs.Given.{zero_item, empty_item}
use Rattle.bt_actions.specs.Operands.{entry_or_error, of_entry, field_item, field_at, number_at, text_at, kind_item, kind_shown, global_number, global_text}
use Rattle.bt_actions.specs.inner.Rows.{key_item}
use Rattle.bt_sound.specs.Known.{Range, May, Known, Number, Text, Run, KnownEntry, State, holding, any_field, any_text, exactly, is_under}
use Rattle.bt_sound.specs.Fits.{IsAtLeast, IsAtMost, IsIn, allows, TextFits, FieldFits, Fits, EntryFits, Here, Among, ActAt}
use Rattle.bt_sound.specs.Reading.{when, pushing, only_missing, only_blank, only_inked, text_states, field_states, capped, raised, upto_zero, above_zero, is_open, number_states, number_known, text_known, field_known, of_globals, of_own, of_variables, field_read, own_number_read, own_text_read, global_number_read, global_text_read, entry_text_read, doubled}
use Rattle.bt_sound.proofs.Options.{nothing}
use Rattle.bt_sound.proofs.Ranges.{any_in}
use Rattle.bt_sound.proofs.Worlds.{act_more, pushed_at}
use Rattle.bt_sound.proofs.Pairs.{each_at, each_refined}

-- bounds

either_most : (n : ℤ) (b : Bool) (x y : ℤ) → n ≤ℤ x → n ≤ℤ y → n ≤ℤ (if b then x else y)
either_most n true x y h i = h
either_most n false x y h i = i

either_least : (n : ℤ) (b : Bool) (x y : ℤ) → x ≤ℤ n → y ≤ℤ n → (if b then x else y) ≤ℤ n
either_least n true x y h i = h
either_least n false x y h i = i

capped_in : (o : Option ℤ) (n : ℤ) → IsAtMost o n → n ≤ℤ pos 0 → n ≤ℤ capped o
capped_in None n h i = i
capped_in (Some a) n h i = either_most n (int_lt a (pos 0)) a (pos 0) h i

raised_in : (o : Option ℤ) (n : ℤ) → IsAtLeast o n → pos 1 ≤ℤ n → raised o ≤ℤ n
raised_in None n h i = i
raised_in (Some a) n h i = either_least n (int_lt a (pos 1)) (pos 1) a i h

not_over : (a b n : ℤ) → n ≤ℤ a → b ≤ℤ n → int_lt a b ≡ false
not_over a b n h i = grind (arith, ints)

open_by : (a b : Option ℤ) (n : ℤ) → IsAtMost a n → IsAtLeast b n → not (is_under a b) ≡ true
open_by None b n h i = refl
open_by (Some a) None n h i = refl
open_by (Some a) (Some b) n h i = ap not (not_over a b n h i)

open_at : (r : Range) (n : ℤ) → IsIn r n → is_open r ≡ true
open_at r n h = open_by r.high r.low n h.1 h.0

pub above_open : (r : Range) (n : ℤ) → IsIn r n → pos 0 <ℤ n → is_open (above_zero r) ≡ true
above_open r n h i = open_at (above_zero r) n (raised_in r.low n h.0 (omega (arith, ints)), h.1)

pub upto_open : (r : Range) (n : ℤ) → IsIn r n → n ≤ℤ pos 0 → is_open (upto_zero r) ≡ true
upto_open r n h i = open_at (upto_zero r) n (h.0, capped_in r.high n h.1 i)

-- the states of a number, and of a text that isn't blank

abbrev low_state : Range → (Range → State) → State
low_state r put = pushing (Number (upto_zero r)) (put (upto_zero r))

abbrev high_state : Range → (Range → State) → State
high_state r put = pushing (Number (above_zero r)) (put (above_zero r))

abbrev high_states : Range → (Range → State) → List State
high_states r put = when (is_open (above_zero r)) (high_state r put) []

abbrev inked_states : May → (May → State) → List State
inked_states m put = when m.inked (pushing (Text only_inked) (put only_inked)) []

module _ (types : List ℕ) where
  -- the states of a list

  first_in : (b : Bool) (x : State) (ss : List State) → b ≡ true → (w : World) → Among types (x ∷ []) w → Among types (when b x ss) w
  first_in true x ss e w (inl h) = inl h
  first_in true x ss e w (inr f) = absurd f
  first_in false x ss e w h = cc

  later_in : (b : Bool) (x : State) (ss : List State) (w : World) → Among types ss w → Among types (when b x ss) w
  later_in true x ss w h = inr h
  later_in false x ss w h = h

  -- texts, fields, numbers

  text_read_at : (m : May) (put : May → State) (t : List ℕ) (w : World) → TextFits m t → ((l : May) → TextFits l t → Here types (put l) w) → ActAt types (text_states m put) (pushed (Txt t) w)
  text_read_at m put t w h here = by (list_all is_white t) refl
    where
      by : (b : Bool) → list_all is_white t ≡ b → ActAt types (text_states m put) (pushed (Txt t) w)
      by true e =
          let f : TextFits only_blank t = ap (allows only_blank) e in
          let s = pushing (Text only_blank) (put only_blank) in
          act_more types (s ∷ []) (text_states m put) (pushed (Txt t) w) (first_in m.blank s (inked_states m put) (subst (λ c. allows m c ≡ true) e h)) (pushed_at types (put only_blank) (Text only_blank) (Txt t) w f (here only_blank f))
      by false e =
          let f : TextFits only_inked t = ap (allows only_inked) e in
          let s = pushing (Text only_inked) (put only_inked) in
          act_more types (s ∷ []) (text_states m put) (pushed (Txt t) w) (λ v i. later_in m.blank (pushing (Text only_blank) (put only_blank)) (inked_states m put) v (first_in m.inked s [] (subst (λ c. allows m c ≡ true) e h) v i)) (pushed_at types (put only_inked) (Text only_inked) (Txt t) w f (here only_inked f))

  field_read_at : (m : May) (put : May → State) (n : ℕ) (o : Option (List ℕ)) (w : World) → FieldFits m o → ((l : May) → FieldFits l o → Here types (put l) w) → ActAt types (field_states m put) (pushed (field_item n o) w)
  field_read_at m put n None w h here =
      let s = pushing (Text only_missing) (put only_missing) in
      act_more types (s ∷ []) (field_states m put) (pushed (Missing n) w) (first_in m.missing s (text_states m put) h) (pushed_at types (put only_missing) (Text only_missing) (Missing n) w refl (here only_missing refl))
  field_read_at m put n (Some t) w h here =
      act_more types (text_states m put) (field_states m put) (pushed (Txt t) w) (later_in m.missing (pushing (Text only_missing) (put only_missing)) (text_states m put)) (text_read_at m put t w h here)

  number_read_at : (r : Range) (put : Range → State) (n : ℤ) (w : World) → IsIn r n → ((q : Range) → IsIn q n → Here types (put q) w) → ActAt types (number_states r put) (pushed (Num n) w)
  number_read_at r put n w h here = by_lt_z (pos 0) n above upto
    where
      upto : n ≤ℤ pos 0 → ActAt types (number_states r put) (pushed (Num n) w)
      upto i =
          let f : IsIn (upto_zero r) n = (h.0, capped_in r.high n h.1 i) in
          act_more types (low_state r put ∷ []) (number_states r put) (pushed (Num n) w) (first_in (is_open (upto_zero r)) (low_state r put) (high_states r put) (open_at (upto_zero r) n f)) (pushed_at types (put (upto_zero r)) (Number (upto_zero r)) (Num n) w f (here (upto_zero r) f))

      above : pos 0 <ℤ n → ActAt types (number_states r put) (pushed (Num n) w)
      above i =
          let f : IsIn (above_zero r) n = (raised_in r.low n h.0 (omega (arith, ints)), h.1) in
          act_more types (high_state r put ∷ []) (number_states r put) (pushed (Num n) w) (λ v j. later_in (is_open (upto_zero r)) (low_state r put) (high_states r put) v (first_in (is_open (above_zero r)) (high_state r put) [] (open_at (above_zero r) n f) v j)) (pushed_at types (put (above_zero r)) (Number (above_zero r)) (Num n) w f (here (above_zero r) f))

  -- what belongs to the entry

  read_own : (k : Option KnownEntry) (o : Option Entry) (make : KnownEntry → List State) (value : Entry → Item) (default : Item) (out : List State) (w : World) → EntryFits types k o → option_map make k ≡ Some out → ((k' : KnownEntry) (e : Entry) → k ≡ Some k' → o ≡ Some e → EntryFits types (Some k') (Some e) → ActAt types (make k') (pushed (value e) w)) → ActAt types out (entry_or_error value default o w)
  read_own None None make value default out w h e go = nothing out e
  read_own None (Some d) make value default out w h e go = absurd h
  read_own (Some k) None make value default out w h e go = absurd h
  read_own (Some k) (Some d) make value default out w h e go =
      subst (λ ss. ActAt types ss (pushed (value d) w)) (ap (λ o. unwrap_or o (make k)) e) (go k d refl refl h)

  -- with more known of the entry
  own_here : (s : State) (k : KnownEntry) (e : Entry) (w : World) → entry_in w.entries w.current ≡ Some e → Here types s w → EntryFits types (Some k) (Some e) → Here types (of_own k s) w
  own_here s k e w q i h = (i.0, (i.1.0, subst (EntryFits types (Some k)) (sym q) h, i.1.2), i.2)

  pub field_at_entry : (n : ℕ) (s : State) (out : List State) (w : World) → Here types s w → field_read n s ≡ Some out → ActAt types out (of_entry (field_at n) empty_item w)
  field_at_entry n s out w i e =
      read_own s.entry (entry_in w.entries w.current) (λ k. field_states (slice_index_or k.fields n any_field) (λ m. of_own (field_known n m k) s)) (field_at n) empty_item out w i.1.1 e (λ k d ek q h.
      field_read_at (slice_index_or k.fields n any_field) (λ m. of_own (field_known n m k) s) n (slice_index_or d.fields n None) w (each_at FieldFits k.fields d.fields n any_field None h.1 refl) (λ l f. own_here s (field_known n l k) d w q i (h.0, each_refined FieldFits k.fields d.fields n l None h.1 f, h.2)))

  pub number_at_entry : (n : ℕ) (s : State) (out : List State) (w : World) → Here types s w → own_number_read n s ≡ Some out → ActAt types out (of_entry (number_at n) zero_item w)
  number_at_entry n s out w i e =
      read_own s.entry (entry_in w.entries w.current) (λ k. number_states (slice_index_or k.variables.numbers n (exactly (pos 0))) (λ r. of_variables k s (number_known n r k.variables))) (number_at n) zero_item out w i.1.1 e (λ k d ek q h.
      number_read_at (slice_index_or k.variables.numbers n (exactly (pos 0))) (λ r. of_variables k s (number_known n r k.variables)) (slice_index_or d.variables.numbers n (pos 0)) w (each_at IsIn k.variables.numbers d.variables.numbers n (exactly (pos 0)) (pos 0) h.2.0 (omega (arith, ints), omega (arith, ints))) (λ r f. own_here s (record k { variables = number_known n r k.variables }) d w q i (h.0, h.1, (each_refined IsIn k.variables.numbers d.variables.numbers n r (pos 0) h.2.0 f, h.2.1))))

  pub text_at_entry : (n : ℕ) (s : State) (out : List State) (w : World) → Here types s w → own_text_read n s ≡ Some out → ActAt types out (of_entry (text_at n) empty_item w)
  text_at_entry n s out w i e =
      read_own s.entry (entry_in w.entries w.current) (λ k. text_states (slice_index_or k.variables.texts n only_blank) (λ m. of_variables k s (text_known n m k.variables))) (text_at n) empty_item out w i.1.1 e (λ k d ek q h.
      text_read_at (slice_index_or k.variables.texts n only_blank) (λ m. of_variables k s (text_known n m k.variables)) (slice_index_or d.variables.texts n []) w (each_at TextFits k.variables.texts d.variables.texts n only_blank [] h.2.1 refl) (λ l f. own_here s (record k { variables = text_known n l k.variables }) d w q i (h.0, h.1, (h.2.0, each_refined TextFits k.variables.texts d.variables.texts n l [] h.2.1 f))))

  -- the key and the type

  entry_text_at : (value : Entry → Item) (s : State) (out : List State) (w : World) → ((e : Entry) → Fits (Text any_text) (value e)) → Here types s w → entry_text_read s ≡ Some out → ActAt types out (of_entry value empty_item w)
  entry_text_at value s out w fit i e =
      read_own s.entry (entry_in w.entries w.current) (λ k. pushing (Text any_text) s ∷ []) value empty_item out w i.1.1 e (λ k d ek q h. pushed_at types s (Text any_text) (value d) w (fit d) i)

  pub key_at_entry : (s : State) (out : List State) (w : World) → Here types s w → entry_text_read s ≡ Some out → ActAt types out (of_entry key_item empty_item w)
  key_at_entry s out w i e = entry_text_at key_item s out w (λ d. any_in d.key) i e

  pub kind_at_entry : (s : State) (out : List State) (w : World) → Here types s w → entry_text_read s ≡ Some out → ActAt types out (of_entry kind_item empty_item w)
  kind_at_entry s out w i e = entry_text_at kind_item s out w (λ d. any_in (kind_shown d.function d.kind)) i e

  -- the variables of the style

  pub number_at_globals : (n : ℕ) (s : State) (w : World) → Here types s w → ActAt types (global_number_read n s) (global_number n w)
  number_at_globals n s w i =
      number_read_at (slice_index_or s.globals.numbers n (exactly (pos 0))) (λ r. of_globals (number_known n r s.globals) s) (slice_index_or w.globals.numbers n (pos 0)) w (each_at IsIn s.globals.numbers w.globals.numbers n (exactly (pos 0)) (pos 0) i.1.2.0 (omega (arith, ints), omega (arith, ints))) (λ r f. (i.0, (i.1.0, i.1.1, (each_refined IsIn s.globals.numbers w.globals.numbers n r (pos 0) i.1.2.0 f, i.1.2.1)), i.2))

  pub text_at_globals : (n : ℕ) (s : State) (w : World) → Here types s w → ActAt types (global_text_read n s) (global_text n w)
  text_at_globals n s w i =
      text_read_at (slice_index_or s.globals.texts n only_blank) (λ m. of_globals (text_known n m s.globals) s) (slice_index_or w.globals.texts n []) w (each_at TextFits s.globals.texts w.globals.texts n only_blank [] i.1.2.1 refl) (λ l f. (i.0, (i.1.0, i.1.1, (i.1.2.0, each_refined TextFits s.globals.texts w.globals.texts n l [] i.1.2.1 f)), i.2))

  -- the top, twice

  double_over : (ks : List Known) (vs : List Item) (s : State) (out : List State) (w : World) → Here types (holding ks s) (with_stack vs w) → doubled ks s ≡ Some out → (p : Program) → ActAt types out (basic p builtin.Duplicate (with_stack vs w))
  double_over [] vs s out w i e p = nothing out e
  double_over (Number r ∷ ks) [] s out w i e p = absurd i.2
  double_over (Text m ∷ ks) [] s out w i e p = absurd i.2
  double_over (Run c ∷ ks) [] s out w i e p = absurd i.2
  double_over (Number r ∷ ks) (v ∷ vs) s out w i e p =
      subst (λ ss. ActAt types ss (pushed v (with_stack (v ∷ vs) w))) (ap (λ o. unwrap_or o []) e) (pushed_at types (holding (Number r ∷ ks) s) (Number r) v (with_stack (v ∷ vs) w) i.2.0 i)
  double_over (Run c ∷ ks) (v ∷ vs) s out w i e p =
      subst (λ ss. ActAt types ss (pushed v (with_stack (v ∷ vs) w))) (ap (λ o. unwrap_or o []) e) (pushed_at types (holding (Run c ∷ ks) s) (Run c) v (with_stack (v ∷ vs) w) i.2.0 i)
  double_over (Text m ∷ ks) (Num n ∷ vs) s out w i e p = absurd i.2.0
  double_over (Text m ∷ ks) (Fun c ∷ vs) s out w i e p = absurd i.2.0
  double_over (Text m ∷ ks) (Txt t ∷ vs) s out w i e p =
      subst (λ ss. ActAt types ss (pushed (Txt t) (with_stack (Txt t ∷ vs) w))) (ap (λ o. unwrap_or o []) e) (field_read_at m (λ l. holding (Text l ∷ ks) s) 0 (Some t) (with_stack (Txt t ∷ vs) w) i.2.0 (λ l f. (i.0, i.1, (f, i.2.1))))
  double_over (Text m ∷ ks) (Missing n ∷ vs) s out w i e p =
      subst (λ ss. ActAt types ss (pushed (Missing n) (with_stack (Missing n ∷ vs) w))) (ap (λ o. unwrap_or o []) e) (field_read_at m (λ l. holding (Text l ∷ ks) s) n None (with_stack (Missing n ∷ vs) w) i.2.0 (λ l f. (i.0, i.1, (f, i.2.1))))

  pub doubled_at : (p : Program) (s : State) (out : List State) (w : World) → Here types s w → doubled s.stack s ≡ Some out → ActAt types out (basic p builtin.Duplicate w)
  doubled_at p s out w i e = double_over s.stack w.stack s out w i e p
