-- The built-in functions that look at the stack alone do what is said of them, by the forms of their table.
use Rattle.std.proofs.Common.{◌≡◌, ℕ, ℤ, pos, negsuc, Bool, true, false, List, [], ◌∷◌, length, map, Option, Some, None, Result, Ok, Err, inl, inr, refl, sym, subst, ap, ◌∙◌, arith, true≢false}
use Rattle.std.specs.Ordering.{int_eq}
use Rattle.std.specs.Prelude.{bytes_eq, option_and_then, not, ◌&&◌, if◌then◌else◌, nat_lt, nat_le, ◌+ℤ◌, ◌-ℤ◌, ◌+◌}
use Rattle.std.specs.Option.{unwrap_or}
use Rattle.std.proofs.lemmas.Int.{ints}
use Rattle.bt_style.specs.declared.builtin.Builtin.{Builtin as Primitive}
use Rattle.bt_style.specs.declared.builtin.Builtin.TheVariants as builtin
use Rattle.bt_style.specs.Program.{Program}
use Rattle.bt_text.specs.declared.modes.Mode.{Mode}
use Rattle.std.specs.Fmt.{signed_decimal}
use Rattle.bt_text.specs.CaseChange.{changed_case}
use Rattle.bt_text.specs.Period.{with_period}
use Rattle.bt_text.specs.Purification.{purified}
use Rattle.bt_text.specs.Substrings.{text_prefix_of, substring_of}
use Rattle.bt_text.specs.Length.{text_length_of}
use Rattle.bt_text.specs.Widths.{width_of}
use Rattle.bt_names.specs.Names.{names_of}
use Rattle.bt_names.specs.declared.faults.FormatFault.{FormatFault}
use Rattle.bt_names.specs.declared.faults.FormatFault.TheVariants as fault
use Rattle.bt_actions.specs.declared.complaint.Complaint.TheVariants.{OutOfRange, Shown, Warned, TextPassed}
use Rattle.bt_actions.specs.Item.{Item, Num, Txt, Fun, Missing}
use Rattle.bt_actions.specs.World.{World, Act, Goes, Stops, say, with_stack, told_message}
use Rattle.bt_actions.specs.State.{pushed, appended}
use Rattle.bt_actions.specs.Arguments.{as_number, as_text, as_field_text, as_any, taken, taken_two, taken_three}
use Rattle.bt_actions.specs.Given.{Given, Gives, Errs, answered, valued, fits_number, number_given, truth, zero_item, empty_item}
use Rattle.bt_actions.specs.Numbers.{byte_number, ascii_text}
use Rattle.bt_actions.specs.Comparison.{equality_of}
use Rattle.bt_actions.specs.Texts.{case_of, case_by, mode_of, quote}
use Rattle.bt_actions.specs.Names.{name_formatted, format_given}
use Rattle.bt_actions.specs.LogLines.{shown_value}
use Rattle.bt_actions.specs.inner.Rows.{greater_of, less_of, sum_of, difference_of, digits_text, emptiness_of, missing_of, join_of, period_of, purified_of, substring_given, prefix_of, length_of, width_given, names_counted}
use Rattle.bt_actions.specs.Stack.{duplicated, swapped}
use Rattle.bt_actions.specs.Actions.{basic}
use Rattle.bt_sound.specs.Excluded.{is_clean}
use Rattle.bt_sound.specs.Known.{Range, May, Known, Number, Text, Run, State, holding, any_text, joined_may, any_number, at_least, bit, sum_range, difference_range, less_range, missing_range, empty_range, names_range}
use Rattle.bt_sound.specs.Fits.{Each, IsIn, TextFits, FieldFits, Fits, RestFits, ActAt}
use Rattle.bt_sound.specs.Transfer.{After, with_number, with_text, with_field, with_any, with_equals, stack_after}
use Rattle.bt_sound.proofs.Messages.{IsOverflow, bad_case, not_one, no_such, too_many, pattern_fault, plus_over, minus_over, names_over, length_over, width_over, clean_append, logged_clean}
use Rattle.bt_sound.proofs.Digits.{not_ascii}
use Rattle.bt_sound.proofs.Options.{nothing}
use Rattle.bt_sound.proofs.Ranges.{sum_in, difference_in, less_in, bit_in, empty_in, missing_in, any_in, join_in, names_in}
use Rattle.bt_sound.proofs.Worlds.{GivenFits, given_if, if_at, told_clean, told_here, pushed_at, answered_at}

-- what is pushed

number_fits : (b : Primitive) (r : Range) (n : ℤ) → IsOverflow (OutOfRange b) → IsIn r n → GivenFits (Number r) (number_given b n)
number_fits b r n o h = given_if (Number r) (fits_number n) (Gives (Num n)) (Errs (OutOfRange b) zero_item) h (inr o)

case_fits : (o : Option Mode) (t name : List ℕ) → GivenFits (Text any_text) (case_by o t name)
case_fits None t name = inl (bad_case name, any_in t)
case_fits (Some mode) t name = any_in (changed_case mode t)

byte_fits : (t : List ℕ) → GivenFits (Number (at_least (pos 0))) (byte_number t)
byte_fits [] = inl (not_one [], (omega (arith, ints), tt))
byte_fits (c ∷ []) = (omega (arith, ints), tt)
byte_fits (c ∷ d ∷ t) = inl (not_one (c ∷ d ∷ t), (omega (arith, ints), tt))

format_fits : (names : List ℕ) (n : ℤ) (pattern' : List ℕ) (r : Result (List ℕ) FormatFault) → GivenFits (Text any_text) (format_given names n pattern' r)
format_fits names n pattern' (Ok t) = any_in t
format_fits names n pattern' (Err fault.NoSuchName) = inl (no_such n names, any_in [])
format_fits names n pattern' (Err fault.TooManyCommas) = inl (too_many n names, any_in [])
format_fits names n pattern' (Err (fault.PatternFault place)) = inl (pattern_fault pattern' place, any_in [])
format_fits names n pattern' (Err fault.OutOfMemory) = any_in []

ascii_fits : (n : ℤ) → GivenFits (Text any_text) (ascii_text n)
ascii_fits (pos n) =
    given_if (Text any_text) (nat_lt n 128) (Gives (Txt (n ∷ []))) (Errs _ empty_item) (any_in (n ∷ [])) (inl (not_ascii (pos n), any_in []))
ascii_fits (negsuc n) = inl (not_ascii (negsuc n), any_in [])

-- what is on the top

alike : (m n : Bool) (o : After) (out : List Known) → (if not m && not n then o else None) ≡ Some out → (m ≡ false) × (n ≡ false) × (o ≡ Some out)
alike true n o out e = nothing out e
alike false true o out e = nothing out e
alike false false o out e = (refl, refl, e)

chosen_top : {A : Type 0} (t : Bool) (x : A) (f : A → After) (out : List Known) → option_and_then f (if t then None else Some x) ≡ Some out → (t ≡ false) × (f x ≡ Some out)
chosen_top true x f out e = nothing out e
chosen_top false x f out e = (refl, e)

module _ (P : List Item → Type 0) (out : List Known) where
  from_number : (f : Range → List Known → After) (ks : List Known) (vs : List Item) → Each Fits ks vs → with_number ks f ≡ Some out → ((r : Range) (ks' : List Known) (n : ℤ) (vs' : List Item) → IsIn r n → Each Fits ks' vs' → f r ks' ≡ Some out → P (Num n ∷ vs')) → P vs
  from_number f [] vs h e go = nothing out e
  from_number f (Text m ∷ ks) vs h e go = nothing out e
  from_number f (Run c ∷ ks) vs h e go = nothing out e
  from_number f (Number r ∷ ks) [] h e go = absurd h
  from_number f (Number r ∷ ks) (Num n ∷ vs) h e go = go r ks n vs h.0 h.1 e
  from_number f (Number r ∷ ks) (Txt t ∷ vs) h e go = absurd h.0
  from_number f (Number r ∷ ks) (Fun c ∷ vs) h e go = absurd h.0
  from_number f (Number r ∷ ks) (Missing n ∷ vs) h e go = absurd h.0

  from_text : (f : May → List Known → After) (ks : List Known) (vs : List Item) → Each Fits ks vs → with_text ks f ≡ Some out → ((m : May) (ks' : List Known) (t : List ℕ) (vs' : List Item) → TextFits m t → Each Fits ks' vs' → f m ks' ≡ Some out → P (Txt t ∷ vs')) → P vs
  from_text f [] vs h e go = nothing out e
  from_text f (Number r ∷ ks) vs h e go = nothing out e
  from_text f (Run c ∷ ks) vs h e go = nothing out e
  from_text f (Text m ∷ ks) [] h e go = absurd h
  from_text f (Text m ∷ ks) (Num n ∷ vs) h e go = absurd h.0
  from_text f (Text m ∷ ks) (Txt t ∷ vs) h e go = go m ks t vs h.0 h.1 (chosen_top m.missing (m, ks) (λ (top : May × List Known). f top.0 top.1) out e).1
  from_text f (Text m ∷ ks) (Fun c ∷ vs) h e go = absurd h.0
  from_text f (Text m ∷ ks) (Missing n ∷ vs) h e go =
      absurd (true≢false (sym h.0 ∙ (chosen_top m.missing (m, ks) (λ (top : May × List Known). f top.0 top.1) out e).0))

  from_field : (f : May → List Known → After) (ks : List Known) (vs : List Item) → Each Fits ks vs → with_field ks f ≡ Some out → ((m : May) (ks' : List Known) (t : List ℕ) (vs' : List Item) → FieldFits m (Some t) → Each Fits ks' vs' → f m ks' ≡ Some out → P (Txt t ∷ vs')) → ((m : May) (ks' : List Known) (n : ℕ) (vs' : List Item) → FieldFits m None → Each Fits ks' vs' → f m ks' ≡ Some out → P (Missing n ∷ vs')) → P vs
  from_field f [] vs h e go gap = nothing out e
  from_field f (Number r ∷ ks) vs h e go gap = nothing out e
  from_field f (Run c ∷ ks) vs h e go gap = nothing out e
  from_field f (Text m ∷ ks) [] h e go gap = absurd h
  from_field f (Text m ∷ ks) (Num n ∷ vs) h e go gap = absurd h.0
  from_field f (Text m ∷ ks) (Txt t ∷ vs) h e go gap = go m ks t vs h.0 h.1 e
  from_field f (Text m ∷ ks) (Fun c ∷ vs) h e go gap = absurd h.0
  from_field f (Text m ∷ ks) (Missing n ∷ vs) h e go gap = gap m ks n vs h.0 h.1 e

  from_any : (f : Known → List Known → After) (ks : List Known) (vs : List Item) → Each Fits ks vs → with_any ks f ≡ Some out → ((k : Known) (ks' : List Known) (v : Item) (vs' : List Item) → Fits k v → Each Fits ks' vs' → f k ks' ≡ Some out → P (v ∷ vs')) → P vs
  from_any f [] vs h e go = nothing out e
  from_any f (k ∷ ks) [] h e go = absurd h
  from_any f (k ∷ ks) (v ∷ vs) h e go = go k ks v vs h.0 h.1 e

-- the list under Some
listed : (P : List Known → Type 0) (ks out : List Known) → Some ks ≡ Some out → P ks → P out
listed P ks out e h = subst P (ap (λ o. unwrap_or o ks) e) h

module _ (types : List ℕ) (s : State) (w : World) (clean : is_clean w.messages ≡ true) (rest : RestFits types s w.current w.entries w.globals) where
  -- an action leaves what is known of the stack
  abbrev pub Leaves : List Known → Act → Type 0
  Leaves out a = ActAt types (holding out s ∷ []) a

  abbrev over : List Item → World
  over vs = with_stack vs w

  gives : (k : Known) (ks out : List Known) (vs : List Item) (g : Given) → GivenFits k g → Each Fits ks vs → Some (k ∷ ks) ≡ Some out → Leaves out (answered g (over vs))
  gives k ks out vs g f h e =
      listed (λ out. Leaves out (answered g (over vs))) (k ∷ ks) out e (answered_at types (holding ks s) k g (over vs) f (clean, rest, h))

  goes : (ks out : List Known) (vs : List Item) → Each Fits ks vs → Some ks ≡ Some out → Leaves out (Goes (over vs))
  goes ks out vs h e =
      listed (λ out. Leaves out (Goes (over vs))) ks out e (inr (inl (clean, rest, h)))

  -- the forms of the table

  one_text : (c : Primitive) (k : May → Known) (g : List ℕ → Given) (default : Item) (ks out : List Known) (vs : List Item) → ((m : May) (t : List ℕ) → TextFits m t → GivenFits (k m) (g t)) → Each Fits ks vs → with_text ks (λ m ks. Some (k m ∷ ks)) ≡ Some out → Leaves out (valued g default (taken c as_text (over vs)))
  one_text c k g default ks out vs fit h e =
      from_text (λ vs. Leaves out (valued g default (taken c as_text (over vs)))) out _ ks vs h e (λ m ks' t vs' i h' e'. gives (k m) ks' out vs' (g t) (fit m t i) h' e')

  one_number : (c : Primitive) (k : Range → Known) (g : ℤ → Given) (default : Item) (ks out : List Known) (vs : List Item) → ((r : Range) (n : ℤ) → IsIn r n → GivenFits (k r) (g n)) → Each Fits ks vs → with_number ks (λ r ks. Some (k r ∷ ks)) ≡ Some out → Leaves out (valued g default (taken c as_number (over vs)))
  one_number c k g default ks out vs fit h e =
      from_number (λ vs. Leaves out (valued g default (taken c as_number (over vs)))) out _ ks vs h e (λ r ks' n vs' i h' e'. gives (k r) ks' out vs' (g n) (fit r n i) h' e')

  one_field : (c : Primitive) (k : May → Known) (g : Option (List ℕ) → Given) (default : Item) (ks out : List Known) (vs : List Item) → ((m : May) (o : Option (List ℕ)) → FieldFits m o → GivenFits (k m) (g o)) → Each Fits ks vs → with_field ks (λ m ks. Some (k m ∷ ks)) ≡ Some out → Leaves out (valued g default (taken c as_field_text (over vs)))
  one_field c k g default ks out vs fit h e =
      from_field (λ vs. Leaves out (valued g default (taken c as_field_text (over vs)))) out _ ks vs h e (λ m ks' t vs' i h' e'. gives (k m) ks' out vs' (g (Some t)) (fit m (Some t) i) h' e') (λ m ks' n vs' i h' e'. gives (k m) ks' out vs' (g None) (fit m None i) h' e')

  two_numbers : (c : Primitive) (f : Range → Range → Range) (g : ℤ × ℤ → Given) (default : Item) (ks out : List Known) (vs : List Item) → ((r q : Range) (n m : ℤ) → IsIn r n → IsIn q m → GivenFits (Number (f r q)) (g (n, m))) → Each Fits ks vs → with_number ks (λ q ks. with_number ks (λ r ks. Some (Number (f r q) ∷ ks))) ≡ Some out → Leaves out (valued g default (taken_two c as_number as_number (over vs)))
  two_numbers c f g default ks out vs fit h e =
      from_number (λ vs. Leaves out (valued g default (taken_two c as_number as_number (over vs)))) out _ ks vs h e (λ q ks1 m vs1 i h1 e1.
      from_number (λ vs. Leaves out (valued g default (taken_two c as_number as_number (over (Num m ∷ vs))))) out _ ks1 vs1 h1 e1 (λ r ks2 n vs2 j h2 e2.
      gives (Number (f r q)) ks2 out vs2 (g (n, m)) (fit r q n m j i) h2 e2))

  two_texts : (c : Primitive) (k : May → May → Known) (g : List ℕ × List ℕ → Given) (default : Item) (ks out : List Known) (vs : List Item) → ((m l : May) (t u : List ℕ) → TextFits m t → TextFits l u → GivenFits (k m l) (g (t, u))) → Each Fits ks vs → with_text ks (λ l ks. with_text ks (λ m ks. Some (k m l ∷ ks))) ≡ Some out → Leaves out (valued g default (taken_two c as_text as_text (over vs)))
  two_texts c k g default ks out vs fit h e =
      from_text (λ vs. Leaves out (valued g default (taken_two c as_text as_text (over vs)))) out _ ks vs h e (λ l ks1 u vs1 i h1 e1.
      from_text (λ vs. Leaves out (valued g default (taken_two c as_text as_text (over (Txt u ∷ vs))))) out _ ks1 vs1 h1 e1 (λ m ks2 t vs2 j h2 e2.
      gives (k m l) ks2 out vs2 (g (t, u)) (fit m l t u j i) h2 e2))

  number_text : (c : Primitive) (g : List ℕ × ℤ → Given) (default : Item) (ks out : List Known) (vs : List Item) → ((t : List ℕ) (n : ℤ) → GivenFits (Text any_text) (g (t, n))) → Each Fits ks vs → with_number ks (λ r ks. with_text ks (λ m ks. Some (Text any_text ∷ ks))) ≡ Some out → Leaves out (valued g default (taken_two c as_text as_number (over vs)))
  number_text c g default ks out vs fit h e =
      from_number (λ vs. Leaves out (valued g default (taken_two c as_text as_number (over vs)))) out _ ks vs h e (λ r ks1 n vs1 i h1 e1.
      from_text (λ vs. Leaves out (valued g default (taken_two c as_text as_number (over (Num n ∷ vs))))) out _ ks1 vs1 h1 e1 (λ m ks2 t vs2 j h2 e2.
      gives (Text any_text) ks2 out vs2 (g (t, n)) (fit t n) h2 e2))

  numbers_text : (c : Primitive) (g : List ℕ × ℤ × ℤ → Given) (default : Item) (ks out : List Known) (vs : List Item) → ((t : List ℕ) (n m : ℤ) → GivenFits (Text any_text) (g (t, n, m))) → Each Fits ks vs → with_number ks (λ q ks. with_number ks (λ r ks. with_text ks (λ m ks. Some (Text any_text ∷ ks)))) ≡ Some out → Leaves out (valued g default (taken_three c as_text as_number as_number (over vs)))
  numbers_text c g default ks out vs fit h e =
      from_number (λ vs. Leaves out (valued g default (taken_three c as_text as_number as_number (over vs)))) out _ ks vs h e (λ q ks1 m vs1 i h1 e1.
      from_number (λ vs. Leaves out (valued g default (taken_three c as_text as_number as_number (over (Num m ∷ vs))))) out _ ks1 vs1 h1 e1 (λ r ks2 n vs2 j h2 e2.
      from_text (λ vs. Leaves out (valued g default (taken_three c as_text as_number as_number (over (Num m ∷ Num n ∷ vs))))) out _ ks2 vs2 h2 e2 (λ l ks3 t vs3 k h3 e3.
      gives (Text any_text) ks3 out vs3 (g (t, n, m)) (fit t n m) h3 e3)))

  names_text : (c : Primitive) (g : List ℕ × ℤ × List ℕ → Given) (default : Item) (ks out : List Known) (vs : List Item) → ((t : List ℕ) (n : ℤ) (u : List ℕ) → GivenFits (Text any_text) (g (t, n, u))) → Each Fits ks vs → with_text ks (λ l ks. with_number ks (λ r ks. with_text ks (λ m ks. Some (Text any_text ∷ ks)))) ≡ Some out → Leaves out (valued g default (taken_three c as_text as_number as_text (over vs)))
  names_text c g default ks out vs fit h e =
      from_text (λ vs. Leaves out (valued g default (taken_three c as_text as_number as_text (over vs)))) out _ ks vs h e (λ l ks1 u vs1 i h1 e1.
      from_number (λ vs. Leaves out (valued g default (taken_three c as_text as_number as_text (over (Txt u ∷ vs))))) out _ ks1 vs1 h1 e1 (λ r ks2 n vs2 j h2 e2.
      from_text (λ vs. Leaves out (valued g default (taken_three c as_text as_number as_text (over (Txt u ∷ Num n ∷ vs))))) out _ ks2 vs2 h2 e2 (λ m ks3 t vs3 k h3 e3.
      gives (Text any_text) ks3 out vs3 (g (t, n, u)) (fit t n u) h3 e3)))

  -- two values are compared
  equals_at : (ks out : List Known) (vs : List Item) → Each Fits ks vs → with_equals ks (λ ks. Some (Number bit ∷ ks)) ≡ Some out → Leaves out (valued equality_of zero_item (taken_two builtin.Equals as_any as_any (over vs)))
  equals_at [] out vs h e = nothing out e
  equals_at (Number q ∷ []) out vs h e = nothing out e
  equals_at (Text m ∷ []) out vs h e = nothing out e
  equals_at (Run c ∷ []) out vs h e = nothing out e
  equals_at (Number q ∷ Text m ∷ ks) out vs h e = nothing out e
  equals_at (Number q ∷ Run c ∷ ks) out vs h e = nothing out e
  equals_at (Text m ∷ Number r ∷ ks) out vs h e = nothing out e
  equals_at (Text m ∷ Run c ∷ ks) out vs h e = nothing out e
  equals_at (Run c ∷ Number r ∷ ks) out vs h e = nothing out e
  equals_at (Run c ∷ Text m ∷ ks) out vs h e = nothing out e
  equals_at (Run c ∷ Run d ∷ ks) out vs h e = nothing out e
  equals_at (Number q ∷ Number r ∷ ks) out [] h e = absurd h
  equals_at (Number q ∷ Number r ∷ ks) out (v ∷ []) h e = absurd h.1
  equals_at (Number q ∷ Number r ∷ ks) out (Txt u ∷ v ∷ vs) h e = absurd h.0
  equals_at (Number q ∷ Number r ∷ ks) out (Fun c ∷ v ∷ vs) h e = absurd h.0
  equals_at (Number q ∷ Number r ∷ ks) out (Missing f ∷ v ∷ vs) h e = absurd h.0
  equals_at (Number q ∷ Number r ∷ ks) out (Num m ∷ Txt u ∷ vs) h e = absurd h.1.0
  equals_at (Number q ∷ Number r ∷ ks) out (Num m ∷ Fun c ∷ vs) h e = absurd h.1.0
  equals_at (Number q ∷ Number r ∷ ks) out (Num m ∷ Missing f ∷ vs) h e = absurd h.1.0
  equals_at (Number q ∷ Number r ∷ ks) out (Num m ∷ Num n ∷ vs) h e = gives (Number bit) ks out vs (Gives (truth (int_eq n m))) (bit_in (int_eq n m)) h.1.1 e
  equals_at (Text l ∷ Text m ∷ ks) out [] h e = absurd h
  equals_at (Text l ∷ Text m ∷ ks) out (v ∷ []) h e = absurd h.1
  equals_at (Text l ∷ Text m ∷ ks) out (Num n ∷ v ∷ vs) h e = absurd h.0
  equals_at (Text l ∷ Text m ∷ ks) out (Fun c ∷ v ∷ vs) h e = absurd h.0
  equals_at (Text l ∷ Text m ∷ ks) out (Missing f ∷ v ∷ vs) h e =
      absurd (true≢false (sym h.0 ∙ (alike l.missing m.missing (Some (Number bit ∷ ks)) out e).0))
  equals_at (Text l ∷ Text m ∷ ks) out (Txt u ∷ Num n ∷ vs) h e = absurd h.1.0
  equals_at (Text l ∷ Text m ∷ ks) out (Txt u ∷ Fun c ∷ vs) h e = absurd h.1.0
  equals_at (Text l ∷ Text m ∷ ks) out (Txt u ∷ Missing f ∷ vs) h e =
      absurd (true≢false (sym h.1.0 ∙ (alike l.missing m.missing (Some (Number bit ∷ ks)) out e).1))
  equals_at (Text l ∷ Text m ∷ ks) out (Txt u ∷ Txt t ∷ vs) h e =
      gives (Number bit) ks out vs (Gives (truth (bytes_eq t u))) (bit_in (bytes_eq t u)) h.1.1 (alike l.missing m.missing (Some (Number bit ∷ ks)) out e).2

  -- the functions of the stack alone

  duplicate_at : (ks out : List Known) (vs : List Item) → Each Fits ks vs → with_any ks (λ k ks. Some (k ∷ k ∷ ks)) ≡ Some out → Leaves out (duplicated vs (over vs))
  duplicate_at ks out vs h e =
      from_any (λ vs. Leaves out (duplicated vs (over vs))) out _ ks vs h e (λ k ks' v vs' i h' e'.
      listed (λ out. Leaves out (pushed v (over (v ∷ vs')))) (k ∷ k ∷ ks') out e' (pushed_at types (holding (k ∷ ks') s) k v (over (v ∷ vs')) i (clean, rest, (i, h'))))

  swap_at : (ks out : List Known) (vs : List Item) → Each Fits ks vs → with_any ks (λ k ks. with_any ks (λ l ks. Some (l ∷ k ∷ ks))) ≡ Some out → Leaves out (Goes (swapped vs (over vs)))
  swap_at ks out vs h e =
      from_any (λ vs. Leaves out (Goes (swapped vs (over vs)))) out _ ks vs h e (λ k ks1 v vs1 i h1 e1.
      from_any (λ vs. Leaves out (Goes (swapped (v ∷ vs) (over (v ∷ vs))))) out _ ks1 vs1 h1 e1 (λ l ks2 u vs2 j h2 e2.
      goes (l ∷ k ∷ ks2) out (u ∷ v ∷ vs2) (j, (i, h2)) e2))

  -- a built-in function that looks at the stack alone
  pub basic_at : (p : Program) (b : Primitive) (ks out : List Known) (vs : List Item) → Each Fits ks vs → stack_after b ks ≡ Some out → Leaves out (basic p b (over vs))
  basic_at p builtin.Greater ks out vs h e =
      two_numbers builtin.Greater (λ r q. less_range q r) greater_of zero_item ks out vs (λ r q n m i j. less_in q r m n j i) h e
  basic_at p builtin.Less ks out vs h e = two_numbers builtin.Less less_range less_of zero_item ks out vs less_in h e
  basic_at p builtin.Equals ks out vs h e = equals_at ks out vs h e
  basic_at p builtin.Plus ks out vs h e =
      two_numbers builtin.Plus sum_range sum_of zero_item ks out vs (λ r q n m i j. number_fits builtin.Plus (sum_range r q) (n +ℤ m) plus_over (sum_in r q n m i j)) h e
  basic_at p builtin.Minus ks out vs h e =
      two_numbers builtin.Minus difference_range difference_of zero_item ks out vs (λ r q n m i j. number_fits builtin.Minus (difference_range r q) (n -ℤ m) minus_over (difference_in r q n m i j)) h e
  basic_at p builtin.Join ks out vs h e =
      two_texts builtin.Join (λ m l. Text (joined_may m l)) join_of empty_item ks out vs (λ m l t u i j. join_in m l t u i j) h e
  basic_at p builtin.Assign ks out vs h e = nothing out e
  basic_at p builtin.AddPeriod ks out vs h e = one_text builtin.AddPeriod (λ m. Text any_text) period_of empty_item ks out vs (λ m t i. any_in (with_period t)) h e
  basic_at p builtin.CallType ks out vs h e = nothing out e
  basic_at p builtin.ChangeCase ks out vs h e =
      two_texts builtin.ChangeCase (λ m l. Text any_text) case_of empty_item ks out vs (λ m l t u i j. case_fits (mode_of u) t u) h e
  basic_at p builtin.ChrToInt ks out vs h e = one_text builtin.ChrToInt (λ m. Number (at_least (pos 0))) byte_number zero_item ks out vs (λ m t i. byte_fits t) h e
  basic_at p builtin.Cite ks out vs h e = nothing out e
  basic_at p builtin.Duplicate ks out vs h e = duplicate_at ks out vs h e
  basic_at p builtin.Empty ks out vs h e = one_field builtin.Empty (λ m. Number (empty_range m)) emptiness_of zero_item ks out vs empty_in h e
  basic_at p builtin.FormatName ks out vs h e =
      names_text builtin.FormatName name_formatted empty_item ks out vs (λ t n u. format_fits t n u _) h e
  basic_at p builtin.If ks out vs h e = nothing out e
  basic_at p builtin.IntToChr ks out vs h e = one_number builtin.IntToChr (λ r. Text any_text) ascii_text empty_item ks out vs (λ r n i. ascii_fits n) h e
  basic_at p builtin.IntToStr ks out vs h e = one_number builtin.IntToStr (λ r. Text any_text) digits_text empty_item ks out vs (λ r n i. any_in (signed_decimal n)) h e
  basic_at p builtin.Missing ks out vs h e = one_field builtin.Missing (λ m. Number (missing_range m)) missing_of zero_item ks out vs missing_in h e
  basic_at p builtin.Newline ks out vs h e = listed (λ out. Leaves out (basic p builtin.Newline (over vs))) ks out e (inr (inl (clean, rest, h)))
  basic_at p builtin.NumNames ks out vs h e =
      one_text builtin.NumNames (λ m. Number (names_range m)) names_counted zero_item ks out vs (λ m t i. number_fits builtin.NumNames (names_range m) (pos (length (names_of t))) names_over (names_in m t i)) h e
  basic_at p builtin.Pop ks out vs h e =
      from_any (λ vs. Leaves out (basic p builtin.Pop (over vs))) out _ ks vs h e (λ k ks' v vs' i h' e'. goes ks' out vs' h' e')
  basic_at p builtin.Preamble ks out vs h e = gives (Text any_text) ks out vs (Gives (Txt w.preamble)) (any_in w.preamble) h e
  basic_at p builtin.Purify ks out vs h e = one_text builtin.Purify (λ m. Text any_text) purified_of empty_item ks out vs (λ m t i. any_in (purified t)) h e
  basic_at p builtin.Quote ks out vs h e = gives (Text any_text) ks out vs (Gives (Txt quote)) (any_in quote) h e
  basic_at p builtin.Skip ks out vs h e = goes ks out vs h e
  basic_at p builtin.Stack ks out vs h e =
      listed (λ out. Leaves out (basic p builtin.Stack (over vs))) [] out e (inr (inl (clean_append w.messages (map (λ v. told_message (over vs) (Shown (shown_value p v))) vs) clean (logged_clean p (over vs) vs), rest, tt)))
  basic_at p builtin.Substring ks out vs h e = numbers_text builtin.Substring substring_given empty_item ks out vs (λ t n m. any_in (substring_of t n m)) h e
  basic_at p builtin.Swap ks out vs h e = swap_at ks out vs h e
  basic_at p builtin.TextLength ks out vs h e =
      one_text builtin.TextLength (λ m. Number (at_least (pos 0))) length_of zero_item ks out vs (λ m t i. number_fits builtin.TextLength (at_least (pos 0)) (pos (text_length_of t)) length_over (omega (arith, ints), tt)) h e
  basic_at p builtin.TextPrefix ks out vs h e = number_text builtin.TextPrefix prefix_of empty_item ks out vs (λ t n. any_in (text_prefix_of t n)) h e
  basic_at p builtin.Top ks out vs h e =
      from_any (λ vs. Leaves out (basic p builtin.Top (over vs))) out _ ks vs h e (λ k ks' v vs' i h' e'.
      listed (λ out. Leaves out (basic p builtin.Top (over (v ∷ vs')))) ks' out e' (inr (inl (told_here types (holding ks' s) (Shown (shown_value p v)) (over vs') (λ key. refl) (clean, rest, h')))))
  basic_at p builtin.Type ks out vs h e = nothing out e
  basic_at p builtin.Warning ks out vs h e =
      from_text (λ vs. Leaves out (basic p builtin.Warning (over vs))) out _ ks vs h e (λ m ks' t vs' i h' e'.
      listed (λ out. Leaves out (basic p builtin.Warning (over (Txt t ∷ vs')))) ks' out e' (inr (inl (told_here types (holding ks' s) (Warned t) (over vs') (λ key. refl) (clean, rest, h')))))
  basic_at p builtin.While ks out vs h e = nothing out e
  basic_at p builtin.Width ks out vs h e =
      one_text builtin.Width (λ m. Number any_number) width_given zero_item ks out vs (λ m t i. number_fits builtin.Width any_number (pos (width_of t)) width_over (tt, tt)) h e
  basic_at p builtin.Write ks out vs h e =
      from_text (λ vs. Leaves out (basic p builtin.Write (over vs))) out _ ks vs h e (λ m ks' t vs' i h' e'.
      listed (λ out. Leaves out (appended t (over vs'))) ks' out e' (if_at types (holding ks' s ∷ []) (nat_le (length w.held + length t) 65536) (Goes _) (Stops (say TextPassed (over vs'))) (inr (inl (clean, rest, h'))) (told_clean types TextPassed (over vs') (λ key. refl) clean)))
