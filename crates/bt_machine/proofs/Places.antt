-- An action does the same at two places of an entry.
use Rattle.std.proofs.Common.{◌≡◌, ℕ, ◌+◌, Bool, true, false, ◌||◌, List, [], ◌∷◌, ◌++◌, length, Option, Some, None, refl, sym, ap, subst, ◌∙◌, append_assoc}
use Rattle.std.specs.Prelude.{option_and_then, option_map, if◌then◌else◌, map, nat_lt, nat_le}
use Rattle.std.specs.Option.{option_zip}
use Rattle.bt_text.specs.declared.output.Output.{Output}
use Rattle.bt_text.specs.Held.{written, line_ended}
use Rattle.bt_style.specs.declared.builtin.Builtin.{Builtin as Primitive}
use Rattle.bt_style.specs.declared.builtin.Builtin.TheVariants as builtin
use Rattle.bt_style.specs.declared.style.Target.{Target}
use Rattle.bt_style.specs.declared.style.Target.TheVariants.{Builtin, Field, EntryNumber, EntryText, GlobalNumber, GlobalText, Function}
use Rattle.bt_style.specs.Program.{Program}
use Rattle.bt_actions.specs.declared.entry.Variables.{Variables}
use Rattle.bt_actions.specs.declared.entry.Entry.{Entry}
use Rattle.bt_log.specs.declared.message.Message.{Message}
use Rattle.bt_actions.specs.declared.complaint.Complaint.{Complaint}
use Rattle.bt_actions.specs.declared.complaint.Complaint.TheVariants.{EmptyStack, WrongKind, NoEntry, NotVariable, Warned, Shown, StackPassed, TextPassed}
use Rattle.bt_actions.specs.Item.{Item, Txt}
use Rattle.bt_actions.specs.Words.{message_of}
use Rattle.bt_actions.specs.World.{World, Act, Goes, Stops, entry_in, entry_of, key_in, say, with_stack, with_output}
use Rattle.bt_actions.specs.State.{text_len, pushed, pushed_in_error, popped_from, popped, appended}
use Rattle.bt_actions.specs.Arguments.{as_number, as_text, as_field_text, as_target, as_any, is_wrong, judged, all_three, taken, taken_two, taken_three}
use Rattle.bt_actions.specs.Given.{Given, Gives, Errs, answered, valued, zero_item, empty_item}
use Rattle.bt_actions.specs.Numbers.{byte_number, ascii_text}
use Rattle.bt_actions.specs.inner.Rows.{greater_of, less_of, sum_of, difference_of, digits_text, emptiness_of, missing_of, join_of, period_of, purified_of, substring_given, prefix_of, length_of, width_given, names_counted, key_item, log_value, log_warning}
use Rattle.bt_actions.specs.Comparison.{equality_of}
use Rattle.bt_actions.specs.Texts.{case_of, quote}
use Rattle.bt_actions.specs.Names.{name_formatted}
use Rattle.bt_actions.specs.Operands.{entry_or_error, of_entry, kind_item}
use Rattle.bt_actions.specs.Assignment.{with_number, with_text, with_globals, put_if_right, own_changed, assigned}
use Rattle.bt_actions.specs.LogLines.{shown_value, log_stack}
use Rattle.bt_actions.specs.Stack.{duplicated, swapped}
use Rattle.bt_actions.specs.Actions.{act_with, change_with, basic}
use Rattle.bt_machine.specs.OwnEntry.{with_variables}

-- what a step may change
pub record Part : Type 0 where
  pub variables : Variables
  pub globals : Variables
  pub held : List ℕ
  pub out : List (List ℕ)
  pub said : List Message
  pub stack : List Item

-- an entry with other variables
abbrev pub varied : Variables → Option Entry → Option Entry
varied v e = option_map (λ (d : Entry). record d { variables = v }) e

-- where the entry e stands, by its variables, if there is one, and what was written and told before
pub record Place (e : Option Entry) : Type 0 where
  pub entries : Variables → List Entry
  pub index : Option ℕ
  pub before : List (List ℕ)
  pub heard : List Message
  pub reads : (v : Variables) → entry_in (entries v) index ≡ varied v e
  pub writes : (v u : Variables) → with_variables index (entries v) u ≡ entries u

-- the world of a part at a place
abbrev pub embed : (e : Option Entry) → List ℕ → Place e → Part → World
embed e pre P s =
    record {
      entries = P.entries s.variables;
      current = P.index;
      globals = s.globals;
      preamble = pre;
      held = s.held;
      lines = P.before ++ s.out;
      messages = P.heard ++ s.said;
      stack = s.stack;
    }

-- an entry's key
abbrev key_of : Option Entry → Option (List ℕ)
key_of e = option_map (λ (d : Entry). d.key) e

-- other variables leave it
key_varied : (v : Variables) (e : Option Entry) → key_of (varied v e) ≡ key_of e
key_varied v None = refl
key_varied v (Some d) = refl

-- a world in which the entry at a place has other variables
abbrev with_place : Option ℕ → Variables → World → World
with_place x vs w = record w { entries = with_variables x w.entries vs }

-- a change of the variables v of an entry, which stands at this place
abbrev own_by : (Variables → Option Variables) → Option ℕ → Option Entry → Variables → World → World
own_by change x None v w = say NoEntry w
own_by change x (Some d) v w = put_if_right (with_place x) (change v) w

-- the variables of an entry that was read
variables_of : (a d : Entry) (v : Variables) → Some a ≡ Some (record d { variables = v }) → a.variables ≡ v
variables_of a d v h = ap (own_variables d) h
  where
    own_variables : Entry → Option Entry → Variables
    own_variables d None = d.variables
    own_variables d (Some b) = b.variables

own_read : (change : Variables → Option Variables) (x : Option ℕ) (e : Option Entry) (w : World) (v : Variables) → entry_in w.entries x ≡ varied v e → own_changed change x w ≡ own_by change x e v w
own_read change None None w v h = refl
own_read change None (Some d) w v h = cc
own_read change (Some n) None w v h = cc
own_read change (Some n) (Some d) w v h = ap (λ vs. put_if_right (with_place (Some n)) (change vs) w) (variables_of _ d v h)

module _ (e : Option Entry) (pre : List ℕ) (P P' : Place e) where
  -- worlds of one part at the two places
  abbrev pub WorldsAlike : World → World → Type 0
  WorldsAlike w w' = (s : Part) × (w ≡ embed e pre P s) × (w' ≡ embed e pre P' s)

  -- actions that leave such worlds
  abbrev pub ActsAlike : Act → Act → Type 0
  ActsAlike (Goes w) (Goes w') = WorldsAlike w w'
  ActsAlike (Goes w) (Stops w') = ⊥
  ActsAlike (Stops w) (Goes w') = ⊥
  ActsAlike (Stops w) (Stops w') = WorldsAlike w w'

  -- equal values and such worlds
  abbrev pub PairsAlike : {A : Type 0} → A × World → A × World → Type 0
  PairsAlike q q' = (q.0 ≡ q'.0) × WorldsAlike q.1 q'.1

  -- one part
  pub same_part : (s : Part) → WorldsAlike (embed e pre P s) (embed e pre P' s)
  same_part s = (s, refl, refl)

  -- what holds of each part holds of worlds alike
  pub on_alike : (Q : World → World → Type 0) (w w' : World) → WorldsAlike w w' → ((s : Part) → Q (embed e pre P s) (embed e pre P' s)) → Q w w'
  on_alike Q w w' h f = subst (λ v. Q v w') (sym h.1) (subst (λ v. Q (embed e pre P h.0) v) (sym h.2) (f h.0))

  -- and of equal values with such worlds
  pub on_pairs : {A B : Type 0} (Q : B → B → Type 0) (F : A × World → B) (q q' : A × World) → PairsAlike q q' → ((a : A) (s : Part) → Q (F (a, embed e pre P s)) (F (a, embed e pre P' s))) → Q (F q) (F q')
  on_pairs Q F q q' h f =
      subst (λ a. Q (F q) (F (a, q'.1))) h.0 (on_alike (λ w w'. Q (F (q.0, w)) (F (q.0, w'))) q.1 q'.1 h.1 (f q.0))

  -- the key of the step's entry
  key_at : (R : Place e) (s : Part) → key_in (R.entries s.variables) R.index ≡ key_of e
  key_at R s = ap key_of (R.reads s.variables) ∙ key_varied s.variables e

  -- messages are reported, and then the stack is another one
  told_alike : (ms : Option (List ℕ) → List Message) (vs : List Item) (s : Part) → WorldsAlike (record (embed e pre P s) { messages = (P.heard ++ s.said) ++ ms (key_in (P.entries s.variables) P.index); stack = vs }) (record (embed e pre P' s) { messages = (P'.heard ++ s.said) ++ ms (key_in (P'.entries s.variables) P'.index); stack = vs })
  told_alike ms vs s =
      (record s { said = s.said ++ ms (key_of e); stack = vs }, at P, at P')
    where
      at : (R : Place e) → record (embed e pre R s) { messages = (R.heard ++ s.said) ++ ms (key_in (R.entries s.variables) R.index); stack = vs } ≡ embed e pre R (record s { said = s.said ++ ms (key_of e); stack = vs })
      at R =
          ap (λ key. record (embed e pre R s) { messages = (R.heard ++ s.said) ++ ms key; stack = vs }) (key_at R s)
          ∙ ap (λ ms. record (embed e pre R s) { messages = ms; stack = vs }) (append_assoc R.heard s.said (ms (key_of e)))

  -- a complaint is reported
  pub say_alike : (m : Complaint) (s : Part) → WorldsAlike (say m (embed e pre P s)) (say m (embed e pre P' s))
  say_alike m s = told_alike (λ key. message_of key m ∷ []) s.stack s

  -- a test
  if_alike : (b : Bool) (a a' c c' : Act) → ActsAlike a a' → ActsAlike c c' → ActsAlike (if b then a else c) (if b then a' else c')
  if_alike true a a' c c' h i = h
  if_alike false a a' c c' h i = i

  -- a value is pushed
  pub pushed_alike : (v : Item) (s : Part) → ActsAlike (pushed v (embed e pre P s)) (pushed v (embed e pre P' s))
  pushed_alike v s =
      let on = λ (R : Place e). Goes (with_stack (v ∷ s.stack) (embed e pre R s)) in
      let long = λ (R : Place e). Stops (say TextPassed (embed e pre R s)) in
      let full = λ (R : Place e). Stops (say StackPassed (embed e pre R s)) in
      let short = nat_le (text_len v) 65536 in
      if_alike (nat_lt (length s.stack) 1000) (if short then on P else long P) (if short then on P' else long P') (full P) (full P')
      (if_alike short (on P) (on P') (long P) (long P') (same_part (record s { stack = v ∷ s.stack })) (say_alike TextPassed s)) (say_alike StackPassed s)

  -- the same at worlds alike
  pushed_by : (v : Item) (w w' : World) → WorldsAlike w w' → ActsAlike (pushed v w) (pushed v w')
  pushed_by v w w' h = on_alike (λ w w'. ActsAlike (pushed v w) (pushed v w')) w w' h (pushed_alike v)

  -- an error, and a value
  in_error_alike : (m : Complaint) (v : Item) (s : Part) → ActsAlike (pushed_in_error m v (embed e pre P s)) (pushed_in_error m v (embed e pre P' s))
  in_error_alike m v s =
      if_alike (nat_lt (length s.stack) 1000) (pushed v (say m (embed e pre P s))) (pushed v (say m (embed e pre P' s))) (Stops (say StackPassed (embed e pre P s))) (Stops (say StackPassed (embed e pre P' s))) (pushed_by v _ _ (say_alike m s)) (say_alike StackPassed s)

  -- arguments are taken

  popped_by : (vs : List Item) (s : Part) → PairsAlike (popped_from vs (embed e pre P s)) (popped_from vs (embed e pre P' s))
  popped_by [] s = (refl, say_alike EmptyStack s)
  popped_by (v ∷ vs) s = (refl, same_part (record s { stack = vs }))

  popped_alike : (w w' : World) → WorldsAlike w w' → PairsAlike (popped w) (popped w')
  popped_alike w w' h = on_alike (λ w w'. PairsAlike (popped w) (popped w')) w w' h (λ s. popped_by s.stack s)

  judged_at : (b : Primitive) (wrong : Bool) (s : Part) → WorldsAlike (judged b wrong (embed e pre P s)) (judged b wrong (embed e pre P' s))
  judged_at b true s = say_alike (WrongKind b) s
  judged_at b false s = same_part s

  judged_alike : (b : Primitive) (wrong wrong' : Bool) (w w' : World) → wrong ≡ wrong' → WorldsAlike w w' → WorldsAlike (judged b wrong w) (judged b wrong' w')
  judged_alike b wrong wrong' w w' q h =
      subst (λ c. WorldsAlike (judged b wrong w) (judged b c w')) q (on_alike (λ w w'. WorldsAlike (judged b wrong w) (judged b wrong w')) w w' h (judged_at b wrong))

  pub taken_alike : {A : Type 0} (b : Primitive) (kind : Item → Option A) (s : Part) → PairsAlike (taken b kind (embed e pre P s)) (taken b kind (embed e pre P' s))
  taken_alike b kind s =
      let h = popped_alike _ _ (same_part s) in
      (ap (option_and_then kind) h.0, judged_alike b _ _ _ _ (ap (is_wrong kind) h.0) h.1)

  pub taken_two_alike : {A B : Type 0} (b : Primitive) (lower : Item → Option A) (upper : Item → Option B) (s : Part) → PairsAlike (taken_two b lower upper (embed e pre P s)) (taken_two b lower upper (embed e pre P' s))
  taken_two_alike b lower upper s =
      let h = popped_alike _ _ (same_part s) in
      let i = popped_alike _ _ h.1 in
      (λ d. option_zip (option_and_then lower (i.0 d)) (option_and_then upper (h.0 d)), judged_alike b _ _ _ _ (λ d. is_wrong upper (h.0 d) || is_wrong lower (i.0 d)) i.1)

  pub taken_three_alike : {A B C : Type 0} (b : Primitive) (lower : Item → Option A) (middle : Item → Option B) (upper : Item → Option C) (s : Part) → PairsAlike (taken_three b lower middle upper (embed e pre P s)) (taken_three b lower middle upper (embed e pre P' s))
  taken_three_alike b lower middle upper s =
      let h = popped_alike _ _ (same_part s) in
      let i = popped_alike _ _ h.1 in
      let j = popped_alike _ _ i.1 in
      (λ d. all_three (option_and_then lower (j.0 d)) (option_and_then middle (i.0 d)) (option_and_then upper (h.0 d)), judged_alike b _ _ _ _ (λ d. is_wrong upper (h.0 d) || is_wrong middle (i.0 d) || is_wrong lower (j.0 d)) j.1)

  -- functions of their arguments

  answered_alike : (g : Given) (s : Part) → ActsAlike (answered g (embed e pre P s)) (answered g (embed e pre P' s))
  answered_alike (Gives v) s = pushed_alike v s
  answered_alike (Errs m v) s = in_error_alike m v s

  valued_alike : {A : Type 0} (f : A → Given) (default : Item) (o : Option A) (s : Part) → ActsAlike (valued f default (o, embed e pre P s)) (valued f default (o, embed e pre P' s))
  valued_alike f default None s = pushed_alike default s
  valued_alike f default (Some a) s = answered_alike (f a) s

  one_alike : {A : Type 0} (b : Primitive) (kind : Item → Option A) (f : A → Given) (default : Item) (s : Part) → ActsAlike (valued f default (taken b kind (embed e pre P s))) (valued f default (taken b kind (embed e pre P' s)))
  one_alike b kind f default s = on_pairs ActsAlike (valued f default) _ _ (taken_alike b kind s) (valued_alike f default)

  two_alike : {A B : Type 0} (b : Primitive) (lower : Item → Option A) (upper : Item → Option B) (f : A × B → Given) (default : Item) (s : Part) → ActsAlike (valued f default (taken_two b lower upper (embed e pre P s))) (valued f default (taken_two b lower upper (embed e pre P' s)))
  two_alike b lower upper f default s =
      on_pairs ActsAlike (valued f default) _ _ (taken_two_alike b lower upper s) (valued_alike f default)

  three_alike : {A B C : Type 0} (b : Primitive) (lower : Item → Option A) (middle : Item → Option B) (upper : Item → Option C) (f : A × B × C → Given) (default : Item) (s : Part) → ActsAlike (valued f default (taken_three b lower middle upper (embed e pre P s))) (valued f default (taken_three b lower middle upper (embed e pre P' s)))
  three_alike b lower middle upper f default s =
      on_pairs ActsAlike (valued f default) _ _ (taken_three_alike b lower middle upper s) (valued_alike f default)

  -- what the step's entry gives

  given_alike : (value : Entry → Item) (default : Item) (o : Option Entry) (s : Part) → ActsAlike (entry_or_error value default o (embed e pre P s)) (entry_or_error value default o (embed e pre P' s))
  given_alike value default None s = in_error_alike NoEntry default s
  given_alike value default (Some d) s = pushed_alike (value d) s

  -- the entry is the same at both places
  pub by_entry : {B : Type 0} (Q : B → B → Type 0) (F : Option Entry → World → B) (s : Part) → ((o : Option Entry) → Q (F o (embed e pre P s)) (F o (embed e pre P' s))) → Q (F (entry_of (embed e pre P s)) (embed e pre P s)) (F (entry_of (embed e pre P' s)) (embed e pre P' s))
  by_entry Q F s f =
      subst (λ o. Q (F o (embed e pre P s)) (F (entry_of (embed e pre P' s)) (embed e pre P' s))) (sym (P.reads s.variables)) (subst (λ o. Q (F (varied s.variables e) (embed e pre P s)) (F o (embed e pre P' s))) (sym (P'.reads s.variables)) (f (varied s.variables e)))

  pub of_entry_alike : (value : Entry → Item) (default : Item) (s : Part) → ActsAlike (of_entry value default (embed e pre P s)) (of_entry value default (embed e pre P' s))
  of_entry_alike value default s =
      by_entry ActsAlike (entry_or_error value default) s (λ o. given_alike value default o s)

  -- variables get values

  stored_alike : (o : Option Variables) (s : Part) → WorldsAlike (put_if_right (with_place P.index) o (embed e pre P s)) (put_if_right (with_place P'.index) o (embed e pre P' s))
  stored_alike None s = say_alike (WrongKind builtin.Assign) s
  stored_alike (Some vs) s =
      (record s { variables = vs }, at P, at P')
    where
      at : (R : Place e) → with_place R.index vs (embed e pre R s) ≡ embed e pre R (record s { variables = vs })
      at R = ap (λ es. record (embed e pre R s) { entries = es }) (R.writes s.variables vs)

  own_by_alike : (change : Variables → Option Variables) (o : Option Entry) (s : Part) → WorldsAlike (own_by change P.index o s.variables (embed e pre P s)) (own_by change P'.index o s.variables (embed e pre P' s))
  own_by_alike change None s = say_alike NoEntry s
  own_by_alike change (Some d) s = stored_alike (change s.variables) s

  own_changed_alike : (change : Variables → Option Variables) (s : Part) → WorldsAlike (own_changed change P.index (embed e pre P s)) (own_changed change P'.index (embed e pre P' s))
  own_changed_alike change s =
      let read = λ (R : Place e). own_read change R.index e (embed e pre R s) s.variables (R.reads s.variables) in
      subst (λ w. WorldsAlike w (own_changed change P'.index (embed e pre P' s))) (sym (read P)) (subst (λ w. WorldsAlike (own_by change P.index e s.variables (embed e pre P s)) w) (sym (read P')) (own_by_alike change e s))

  globals_alike : (o : Option Variables) (s : Part) → WorldsAlike (put_if_right with_globals o (embed e pre P s)) (put_if_right with_globals o (embed e pre P' s))
  globals_alike None s = say_alike (WrongKind builtin.Assign) s
  globals_alike (Some vs) s = same_part (record s { globals = vs })

  assigned_alike : (a : Item × Target) (s : Part) → WorldsAlike (assigned a (embed e pre P s)) (assigned a (embed e pre P' s))
  assigned_alike (v, Builtin b) s = say_alike NotVariable s
  assigned_alike (v, Field n) s = say_alike NotVariable s
  assigned_alike (v, EntryNumber n) s = own_changed_alike (with_number n v) s
  assigned_alike (v, EntryText n) s = own_changed_alike (with_text n v) s
  assigned_alike (v, GlobalNumber n) s = globals_alike (with_number n v s.globals) s
  assigned_alike (v, GlobalText n) s = globals_alike (with_text n v s.globals) s
  assigned_alike (v, Function n) s = say_alike NotVariable s

  -- actions where the run goes on
  goes_alike : {A : Type 0} (f : A → World → World) → ((a : A) (s : Part) → WorldsAlike (f a (embed e pre P s)) (f a (embed e pre P' s))) → (o : Option A) (s : Part) → ActsAlike (change_with f (o, embed e pre P s)) (change_with f (o, embed e pre P' s))
  goes_alike f h None s = same_part s
  goes_alike f h (Some a) s = h a s

  -- lines are written

  output_alike : (o : Output) (s : Part) → WorldsAlike (with_output o (embed e pre P s)) (with_output o (embed e pre P' s))
  output_alike o s =
      (record s { out = s.out ++ o.lines; held = o.held }, put P, put P')
    where
      put : (R : Place e) → with_output o (embed e pre R s) ≡ embed e pre R (record s { out = s.out ++ o.lines; held = o.held })
      put R = ap (λ ls. record (embed e pre R s) { lines = ls; held = o.held }) (append_assoc R.before s.out o.lines)

  appended_alike : (o : Option (List ℕ)) (s : Part) → ActsAlike (act_with appended (o, embed e pre P s)) (act_with appended (o, embed e pre P' s))
  appended_alike None s = same_part s
  appended_alike (Some t) s =
      if_alike (nat_le (length s.held + length t) 65536) (Goes (with_output (written s.held t) (embed e pre P s))) (Goes (with_output (written s.held t) (embed e pre P' s))) (Stops (say TextPassed (embed e pre P s))) (Stops (say TextPassed (embed e pre P' s))) (output_alike (written s.held t) s) (say_alike TextPassed s)

  -- the functions of the stack alone

  duplicated_alike : (vs : List Item) (s : Part) → ActsAlike (duplicated vs (embed e pre P s)) (duplicated vs (embed e pre P' s))
  duplicated_alike [] s = say_alike EmptyStack s
  duplicated_alike (v ∷ vs) s = pushed_alike v s

  swapped_alike : (vs : List Item) (s : Part) → WorldsAlike (swapped vs (embed e pre P s)) (swapped vs (embed e pre P' s))
  swapped_alike [] s = say_alike EmptyStack s
  swapped_alike (v ∷ []) s = say_alike EmptyStack s
  swapped_alike (v ∷ u ∷ vs) s = same_part (record s { stack = u ∷ v ∷ vs })

  log_stack_alike : (p : Program) (s : Part) → WorldsAlike (log_stack p (embed e pre P s)) (log_stack p (embed e pre P' s))
  log_stack_alike p s = told_alike (λ key. map (λ v. message_of key (Shown (shown_value p v))) s.stack) [] s

  -- a built-in function that runs no other
  pub basic_alike : (p : Program) (b : Primitive) (s : Part) → ActsAlike (basic p b (embed e pre P s)) (basic p b (embed e pre P' s))
  basic_alike p builtin.Greater s = two_alike builtin.Greater as_number as_number greater_of zero_item s
  basic_alike p builtin.Less s = two_alike builtin.Less as_number as_number less_of zero_item s
  basic_alike p builtin.Equals s = two_alike builtin.Equals as_any as_any equality_of zero_item s
  basic_alike p builtin.Plus s = two_alike builtin.Plus as_number as_number sum_of zero_item s
  basic_alike p builtin.Minus s = two_alike builtin.Minus as_number as_number difference_of zero_item s
  basic_alike p builtin.Join s = two_alike builtin.Join as_text as_text join_of empty_item s
  basic_alike p builtin.Assign s =
      on_pairs ActsAlike (change_with assigned) _ _ (taken_two_alike builtin.Assign as_any as_target s) (goes_alike assigned assigned_alike)
  basic_alike p builtin.AddPeriod s = one_alike builtin.AddPeriod as_text period_of empty_item s
  basic_alike p builtin.CallType s = same_part s
  basic_alike p builtin.ChangeCase s = two_alike builtin.ChangeCase as_text as_text case_of empty_item s
  basic_alike p builtin.ChrToInt s = one_alike builtin.ChrToInt as_text byte_number zero_item s
  basic_alike p builtin.Cite s = of_entry_alike key_item empty_item s
  basic_alike p builtin.Duplicate s = duplicated_alike s.stack s
  basic_alike p builtin.Empty s = one_alike builtin.Empty as_field_text emptiness_of zero_item s
  basic_alike p builtin.FormatName s = three_alike builtin.FormatName as_text as_number as_text name_formatted empty_item s
  basic_alike p builtin.If s = same_part s
  basic_alike p builtin.IntToChr s = one_alike builtin.IntToChr as_number ascii_text empty_item s
  basic_alike p builtin.IntToStr s = one_alike builtin.IntToStr as_number digits_text empty_item s
  basic_alike p builtin.Missing s = one_alike builtin.Missing as_field_text missing_of zero_item s
  basic_alike p builtin.Newline s = output_alike (line_ended s.held) s
  basic_alike p builtin.NumNames s = one_alike builtin.NumNames as_text names_counted zero_item s
  basic_alike p builtin.Pop s = (popped_by s.stack s).1
  basic_alike p builtin.Preamble s = pushed_alike (Txt pre) s
  basic_alike p builtin.Purify s = one_alike builtin.Purify as_text purified_of empty_item s
  basic_alike p builtin.Quote s = pushed_alike (Txt quote) s
  basic_alike p builtin.Skip s = same_part s
  basic_alike p builtin.Stack s = log_stack_alike p s
  basic_alike p builtin.Substring s =
      three_alike builtin.Substring as_text as_number as_number substring_given empty_item s
  basic_alike p builtin.Swap s = swapped_alike s.stack s
  basic_alike p builtin.TextLength s = one_alike builtin.TextLength as_text length_of zero_item s
  basic_alike p builtin.TextPrefix s = two_alike builtin.TextPrefix as_text as_number prefix_of empty_item s
  basic_alike p builtin.Top s =
      on_pairs ActsAlike (change_with (log_value p)) _ _ (taken_alike builtin.Top as_any s) (goes_alike (log_value p) (λ v s. say_alike (Shown (shown_value p v)) s))
  basic_alike p builtin.Type s = of_entry_alike kind_item empty_item s
  basic_alike p builtin.Warning s =
      on_pairs ActsAlike (change_with log_warning) _ _ (taken_alike builtin.Warning as_text s) (goes_alike log_warning (λ t s. say_alike (Warned t) s))
  basic_alike p builtin.While s = same_part s
  basic_alike p builtin.Width s = one_alike builtin.Width as_text width_given zero_item s
  basic_alike p builtin.Write s = on_pairs ActsAlike (act_with appended) _ _ (taken_alike builtin.Write as_text s) appended_alike
