-- What holds in every world of a step: each action keeps it, where what is pushed and what is assigned does.
use Rattle.std.proofs.Common.{◌≡◌, ◌≤◌, ℕ, Bool, true, false, List, [], ◌∷◌, length, Option, Some, None, refl, sym, subst}
use Rattle.std.specs.Prelude.{ℤ, pos, if◌then◌else◌, nat_lt, nat_le, option_and_then, slice_index_or}
use Rattle.std.proofs.lemmas.Bool.{leb-true}
use Rattle.std.specs.Option.{option_zip}
use Rattle.bt_style.specs.declared.builtin.Builtin.{Builtin as Primitive}
use Rattle.bt_style.specs.declared.builtin.Builtin.TheVariants as builtin
use Rattle.bt_style.specs.declared.style.Target.{Target}
use Rattle.bt_style.specs.Program.{Program}
use Rattle.bt_actions.specs.declared.entry.Variables.{Variables}
use Rattle.bt_actions.specs.declared.entry.Entry.{Entry}
use Rattle.bt_actions.specs.declared.complaint.Complaint.{Complaint}
use Rattle.bt_actions.specs.declared.complaint.Complaint.TheVariants.{NoEntry, StackPassed, TextPassed}
use Rattle.bt_actions.specs.Item.{Item, Num, Txt, Missing}
use Rattle.bt_actions.specs.World.{World, Act, Goes, Stops, entry_of, say, with_stack}
use Rattle.bt_actions.specs.State.{text_len, pushed, pushed_in_error, popped_from, popped, appended}
use Rattle.bt_actions.specs.Arguments.{as_number, as_text, as_field_text, as_target, as_any, judged, taken, taken_two, taken_three}
use Rattle.bt_actions.specs.Given.{Given, Gives, Errs, answered, valued, zero_item, empty_item}
use Rattle.bt_actions.specs.Numbers.{byte_number, ascii_text}
use Rattle.bt_actions.specs.inner.Rows.{greater_of, less_of, sum_of, difference_of, digits_text, emptiness_of, missing_of, join_of, period_of, purified_of, substring_given, prefix_of, length_of, width_given, names_counted, key_item, log_value, log_warning}
use Rattle.bt_actions.specs.Comparison.{equality_of}
use Rattle.bt_actions.specs.Texts.{case_of, quote}
use Rattle.bt_actions.specs.Names.{name_formatted}
use Rattle.bt_actions.specs.Operands.{entry_or_error, of_entry, kind_item, field_at, field_item}
use Rattle.bt_actions.specs.Assignment.{assigned}
use Rattle.bt_actions.specs.Stack.{duplicated, swapped}
use Rattle.bt_actions.specs.Actions.{act_with, change_with, basic}
use Rattle.bt_actions.proofs.GivenLemmas.{GivenHas, ascii_has, byte_has, case_has, difference_has, digits_has, emptiness_has, equality_has, greater_has, join_has, length_has, less_has, missing_has, name_has, names_has, period_has, prefix_has, purified_has, substring_has, sum_has, width_has}
use Rattle.bt_machine.proofs.Bounds.{assigned_stack}

-- each value of a stack has it
abbrev pub Each : (Item → Type 0) → List Item → Type 0
Each P [] = Unit {0}
Each P (v ∷ vs) = P v × Each P vs

-- a value, if there is one, has it
abbrev pub Within : {A : Type 0} → (A → Type 0) → Option A → Type 0
Within P None = Unit {0}
Within P (Some a) = P a

-- what holds of the place of the step's entry, of the entries and of the globals; of each value on the stack; and of
-- each value that is pushed, which gets there where its text is short enough
pub record Kept : Type 1 where
  pub Rest : Option ℕ → List Entry → Variables → Type 0
  pub OnStack : Item → Type 0
  pub Pushed : Item → Type 0
  pub numbers : (n : ℤ) → Pushed (Num n)
  pub texts : (t : List ℕ) → Pushed (Txt t)
  pub gaps : (n : ℕ) → Pushed (Missing n)
  pub again : (v : Item) → OnStack v → Pushed v
  pub short : (v : Item) → Pushed v → text_len v ≤ 65536 → OnStack v
  pub assigns : (v : Item) (t : Target) (w : World) → OnStack v → Rest w.current w.entries w.globals → Rest (assigned (v, t) w).current (assigned (v, t) w).entries (assigned (v, t) w).globals

module _ (kept : Kept) where
  -- what every world of a step has
  abbrev pub IsKept : World → Type 0
  IsKept w = kept.Rest w.current w.entries w.globals × Each kept.OnStack w.stack

  abbrev pub ActKept : Act → Type 0
  ActKept (Goes w) = IsKept w
  ActKept (Stops w) = IsKept w

  if_kept : (c : Bool) (a a' : Act) → (c ≡ true → ActKept a) → ActKept a' → ActKept (if c then a else a')
  if_kept true a a' h i = h refl
  if_kept false a a' h i = i

  pub pushed_kept : (v : Item) (w : World) → kept.Pushed v → IsKept w → ActKept (pushed v w)
  pushed_kept v w i h =
      let long = Stops (say TextPassed w) in
      let short = nat_le (text_len v) 65536 in
      if_kept (nat_lt (length w.stack) 1000) (if short then Goes (with_stack (v ∷ w.stack) w) else long) (Stops (say StackPassed w))
      (λ r. if_kept short (Goes (with_stack (v ∷ w.stack) w)) long (λ s. (h.0, (kept.short v i (leb-true (text_len v) 65536 s), h.1))) h) h

  in_error_kept : (m : Complaint) (v : Item) (w : World) → kept.Pushed v → IsKept w → ActKept (pushed_in_error m v w)
  in_error_kept m v w i h =
      if_kept (nat_lt (length w.stack) 1000) (pushed v (say m w)) (Stops (say StackPassed w)) (λ r. pushed_kept v (say m w) i h) h

  -- arguments are taken

  pop_kept : (vs : List Item) (w : World) → IsKept w → Each kept.OnStack vs → IsKept (popped_from vs w).1
  pop_kept [] w h s = h
  pop_kept (v ∷ vs) w h s = (h.0, s.1)

  pub popped_kept : (w : World) → IsKept w → IsKept (popped w).1
  popped_kept w h = pop_kept w.stack w h h.1

  pop_in : (vs : List Item) (w : World) → Each kept.OnStack vs → Within kept.OnStack (popped_from vs w).0
  pop_in [] w s = tt
  pop_in (v ∷ vs) w s = s.0

  pub popped_in : (w : World) → IsKept w → Within kept.OnStack (popped w).0
  popped_in w h = pop_in w.stack w h.1

  judged_kept : (c : Primitive) (wrong : Bool) (w : World) → IsKept w → IsKept (judged c wrong w)
  judged_kept c true w h = h
  judged_kept c false w h = h

  pub taken_kept : {A : Type 0} (c : Primitive) (kind : Item → Option A) (w : World) → IsKept w → IsKept (taken c kind w).1
  taken_kept c kind w h = judged_kept c _ (popped w).1 (popped_kept w h)

  pub taken_two_kept : {A B : Type 0} (c : Primitive) (lower : Item → Option A) (upper : Item → Option B) (w : World) → IsKept w → IsKept (taken_two c lower upper w).1
  taken_two_kept c lower upper w h =
      let top = popped w in
      judged_kept c _ (popped top.1).1 (popped_kept top.1 (popped_kept w h))

  pub taken_three_kept : {A B C : Type 0} (c : Primitive) (lower : Item → Option A) (middle : Item → Option B) (upper : Item → Option C) (w : World) → IsKept w → IsKept (taken_three c lower middle upper w).1
  taken_three_kept c lower middle upper w h =
      let top = popped w in
      let next = popped top.1 in
      judged_kept c _ (popped next.1).1 (popped_kept next.1 (popped_kept top.1 (popped_kept w h)))

  -- functions of their arguments

  zero : kept.Pushed zero_item
  zero = kept.numbers (pos 0)

  empty : kept.Pushed empty_item
  empty = kept.texts []

  abbrev GivenIn : Given → Type 0
  GivenIn = GivenHas kept.Pushed kept.numbers kept.texts

  answered_kept : (g : Given) (w : World) → GivenIn g → IsKept w → ActKept (answered g w)
  answered_kept (Gives v) w i h = pushed_kept v w i h
  answered_kept (Errs m v) w i h = in_error_kept m v w i h

  valued_kept : {A : Type 0} (g : A → Given) (default : Item) (q : Option A × World) → ((a : A) → GivenIn (g a)) → kept.Pushed default → IsKept q.1 → ActKept (valued g default q)
  valued_kept g default (None, w) i d h = pushed_kept default w d h
  valued_kept g default (Some a, w) i d h = answered_kept (g a) w (i a) h

  one_kept : {A : Type 0} (c : Primitive) (kind : Item → Option A) (g : A → Given) (default : Item) (w : World) → ((a : A) → GivenIn (g a)) → kept.Pushed default → IsKept w → ActKept (valued g default (taken c kind w))
  one_kept c kind g default w i d h = valued_kept g default (taken c kind w) i d (taken_kept c kind w h)

  two_kept : {A B : Type 0} (c : Primitive) (lower : Item → Option A) (upper : Item → Option B) (g : A × B → Given) (default : Item) (w : World) → ((a : A × B) → GivenIn (g a)) → kept.Pushed default → IsKept w → ActKept (valued g default (taken_two c lower upper w))
  two_kept c lower upper g default w i d h =
      valued_kept g default (taken_two c lower upper w) i d (taken_two_kept c lower upper w h)

  three_kept : {A B C : Type 0} (c : Primitive) (lower : Item → Option A) (middle : Item → Option B) (upper : Item → Option C) (g : A × B × C → Given) (default : Item) (w : World) → ((a : A × B × C) → GivenIn (g a)) → kept.Pushed default → IsKept w → ActKept (valued g default (taken_three c lower middle upper w))
  three_kept c lower middle upper g default w i d h =
      valued_kept g default (taken_three c lower middle upper w) i d (taken_three_kept c lower middle upper w h)

  given_kept : (value : Entry → Item) (default : Item) (o : Option Entry) (w : World) → ((e : Entry) → kept.Pushed (value e)) → kept.Pushed default → IsKept w → ActKept (entry_or_error value default o w)
  given_kept value default None w i d h = in_error_kept NoEntry default w d h
  given_kept value default (Some e) w i d h = pushed_kept (value e) w (i e) h

  pub of_entry_kept : (value : Entry → Item) (default : Item) (w : World) → ((e : Entry) → kept.Pushed (value e)) → kept.Pushed default → IsKept w → ActKept (of_entry value default w)
  of_entry_kept value default w i d h = given_kept value default (entry_of w) w i d h

  field_in : (n : ℕ) (o : Option (List ℕ)) → kept.Pushed (field_item n o)
  field_in n None = kept.gaps n
  field_in n (Some t) = kept.texts t

  pub field_kept : (n : ℕ) (e : Entry) → kept.Pushed (field_at n e)
  field_kept n e = field_in n (slice_index_or e.fields n None)

  -- the run goes on
  goes_kept : {A : Type 0} (g : A → World → World) → ((a : A) (w : World) → IsKept w → IsKept (g a w)) → (q : Option A × World) → IsKept q.1 → ActKept (change_with g q)
  goes_kept g f (None, w) h = h
  goes_kept g f (Some a, w) h = f a w h

  appended_kept : (q : Option (List ℕ) × World) → IsKept q.1 → ActKept (act_with appended q)
  appended_kept (None, w) h = h
  appended_kept (Some t, w) h = if_kept _ (Goes _) (Stops (say TextPassed w)) (λ r. h) h

  -- a variable gets a value, which was on the stack

  assigned_kept : (v : Item) (t : Target) (w : World) → kept.OnStack v → IsKept w → IsKept (assigned (v, t) w)
  assigned_kept v t w s h =
      (kept.assigns v t w s h.0, subst (Each kept.OnStack) (sym (assigned_stack (v, t) w)) h.1)

  both_assigned : (o : Option Item) (t : Option Target) (w : World) → Within kept.OnStack o → IsKept w → ActKept (change_with assigned (option_zip (option_and_then as_any o) t, w))
  both_assigned None t w s h = h
  both_assigned (Some v) None w s h = h
  both_assigned (Some v) (Some t) w s h = assigned_kept v t w s h

  assign_kept : (w : World) → IsKept w → ActKept (change_with assigned (taken_two builtin.Assign as_any as_target w))
  assign_kept w h =
      let top = popped w in
      both_assigned (popped top.1).0 (option_and_then as_target top.0) (taken_two builtin.Assign as_any as_target w).1 (popped_in top.1 (popped_kept w h)) (taken_two_kept builtin.Assign as_any as_target w h)

  -- the functions of the stack alone

  duplicated_kept : (vs : List Item) (w : World) → IsKept w → Each kept.OnStack vs → ActKept (duplicated vs w)
  duplicated_kept [] w h s = h
  duplicated_kept (v ∷ vs) w h s = pushed_kept v w (kept.again v s.0) h

  swapped_kept : (vs : List Item) (w : World) → IsKept w → Each kept.OnStack vs → IsKept (swapped vs w)
  swapped_kept [] w h s = h
  swapped_kept (v ∷ []) w h s = h
  swapped_kept (v ∷ u ∷ vs) w h s = (h.0, (s.1.0, (s.0, s.1.1)))

  -- a built-in function that runs no other
  pub basic_kept : (p : Program) (c : Primitive) (w : World) → IsKept w → ActKept (basic p c w)
  basic_kept p builtin.Greater w h = two_kept builtin.Greater as_number as_number greater_of zero_item w (greater_has kept.Pushed kept.numbers kept.texts) zero h
  basic_kept p builtin.Less w h = two_kept builtin.Less as_number as_number less_of zero_item w (less_has kept.Pushed kept.numbers kept.texts) zero h
  basic_kept p builtin.Equals w h = two_kept builtin.Equals as_any as_any equality_of zero_item w (equality_has kept.Pushed kept.numbers kept.texts) zero h
  basic_kept p builtin.Plus w h = two_kept builtin.Plus as_number as_number sum_of zero_item w (sum_has kept.Pushed kept.numbers kept.texts) zero h
  basic_kept p builtin.Minus w h = two_kept builtin.Minus as_number as_number difference_of zero_item w (difference_has kept.Pushed kept.numbers kept.texts) zero h
  basic_kept p builtin.Join w h = two_kept builtin.Join as_text as_text join_of empty_item w (join_has kept.Pushed kept.numbers kept.texts) empty h
  basic_kept p builtin.Assign w h = assign_kept w h
  basic_kept p builtin.AddPeriod w h = one_kept builtin.AddPeriod as_text period_of empty_item w (period_has kept.Pushed kept.numbers kept.texts) empty h
  basic_kept p builtin.CallType w h = h
  basic_kept p builtin.ChangeCase w h = two_kept builtin.ChangeCase as_text as_text case_of empty_item w (case_has kept.Pushed kept.numbers kept.texts) empty h
  basic_kept p builtin.ChrToInt w h = one_kept builtin.ChrToInt as_text byte_number zero_item w (byte_has kept.Pushed kept.numbers kept.texts) zero h
  basic_kept p builtin.Cite w h = of_entry_kept key_item empty_item w (λ e. kept.texts _) empty h
  basic_kept p builtin.Duplicate w h = duplicated_kept w.stack w h h.1
  basic_kept p builtin.Empty w h = one_kept builtin.Empty as_field_text emptiness_of zero_item w (emptiness_has kept.Pushed kept.numbers kept.texts) zero h
  basic_kept p builtin.FormatName w h =
      three_kept builtin.FormatName as_text as_number as_text name_formatted empty_item w (name_has kept.Pushed kept.numbers kept.texts) empty h
  basic_kept p builtin.If w h = h
  basic_kept p builtin.IntToChr w h = one_kept builtin.IntToChr as_number ascii_text empty_item w (ascii_has kept.Pushed kept.numbers kept.texts) empty h
  basic_kept p builtin.IntToStr w h = one_kept builtin.IntToStr as_number digits_text empty_item w (digits_has kept.Pushed kept.numbers kept.texts) empty h
  basic_kept p builtin.Missing w h = one_kept builtin.Missing as_field_text missing_of zero_item w (missing_has kept.Pushed kept.numbers kept.texts) zero h
  basic_kept p builtin.Newline w h = h
  basic_kept p builtin.NumNames w h = one_kept builtin.NumNames as_text names_counted zero_item w (names_has kept.Pushed kept.numbers kept.texts) zero h
  basic_kept p builtin.Pop w h = popped_kept w h
  basic_kept p builtin.Preamble w h = pushed_kept (Txt w.preamble) w (kept.texts w.preamble) h
  basic_kept p builtin.Purify w h = one_kept builtin.Purify as_text purified_of empty_item w (purified_has kept.Pushed kept.numbers kept.texts) empty h
  basic_kept p builtin.Quote w h = pushed_kept (Txt quote) w (kept.texts quote) h
  basic_kept p builtin.Skip w h = h
  basic_kept p builtin.Stack w h = (h.0, tt)
  basic_kept p builtin.Substring w h =
      three_kept builtin.Substring as_text as_number as_number substring_given empty_item w (substring_has kept.Pushed kept.numbers kept.texts) empty h
  basic_kept p builtin.Swap w h = swapped_kept w.stack w h h.1
  basic_kept p builtin.TextLength w h = one_kept builtin.TextLength as_text length_of zero_item w (length_has kept.Pushed kept.numbers kept.texts) zero h
  basic_kept p builtin.TextPrefix w h = two_kept builtin.TextPrefix as_text as_number prefix_of empty_item w (prefix_has kept.Pushed kept.numbers kept.texts) empty h
  basic_kept p builtin.Top w h =
      goes_kept (log_value p) (λ v w h. h) (taken builtin.Top as_any w) (taken_kept builtin.Top as_any w h)
  basic_kept p builtin.Type w h = of_entry_kept kind_item empty_item w (λ e. kept.texts _) empty h
  basic_kept p builtin.Warning w h =
      goes_kept log_warning (λ t w h. h) (taken builtin.Warning as_text w) (taken_kept builtin.Warning as_text w h)
  basic_kept p builtin.While w h = h
  basic_kept p builtin.Width w h = one_kept builtin.Width as_text width_given zero_item w (width_has kept.Pushed kept.numbers kept.texts) zero h
  basic_kept p builtin.Write w h = appended_kept (taken builtin.Write as_text w) (taken_kept builtin.Write as_text w h)
