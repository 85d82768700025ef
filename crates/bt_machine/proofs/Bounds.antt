-- An evaluation never gains ticks, and ticks and values on the stack together grow by no action beyond its own tick.
use Rattle.std.proofs.Common.{◌≡◌, ℕ, zero, suc, ◌+◌, ◌≤◌, ◌<◌, Bool, true, false, List, [], ◌∷◌, length, Option, Some, None, refl, ap, arith}
use Rattle.std.specs.Prelude.{ℤ, pos, negsuc, if◌then◌else◌, nat_lt, nat_le, option_and_then, slice_index_or}
use Rattle.std.specs.Option.{option_or}
use Rattle.bt_style.specs.declared.builtin.Builtin.{Builtin as Primitive}
use Rattle.bt_style.specs.declared.builtin.Builtin.TheVariants as builtin
use Rattle.bt_style.specs.declared.style.Target.{Target}
use Rattle.bt_style.specs.declared.style.Target.TheVariants.{Builtin, Field, EntryNumber, EntryText, GlobalNumber, GlobalText, Function}
use Rattle.bt_style.specs.Tree.{Element, Amount, Words, Quoted, Braced, Called, Body, End, Then}
use Rattle.bt_style.specs.Program.{Program}
use Rattle.bt_actions.specs.declared.entry.Entry.{Entry}
use Rattle.bt_actions.specs.declared.entry.Variables.{Variables}
use Rattle.bt_actions.specs.declared.complaint.Complaint.{Complaint}
use Rattle.bt_actions.specs.declared.complaint.Complaint.TheVariants.{NoEntry, StackPassed, TextPassed}
use Rattle.bt_actions.specs.Item.{Name, Block, Item, Num, Txt, Fun}
use Rattle.bt_actions.specs.World.{World, Act, Goes, Stops, entry_of, say, with_stack}
use Rattle.bt_actions.specs.State.{text_len, pushed, pushed_in_error, popped_from, popped, appended}
use Rattle.bt_actions.specs.Arguments.{as_number, as_text, as_field_text, as_code, as_target, as_any, judged, taken, taken_two, taken_three}
use Rattle.bt_actions.specs.Given.{Given, Gives, Errs, answered, valued, zero_item, empty_item}
use Rattle.bt_actions.specs.Numbers.{byte_number, ascii_text}
use Rattle.bt_actions.specs.inner.Rows.{greater_of, less_of, sum_of, difference_of, digits_text, emptiness_of, missing_of, join_of, period_of, purified_of, substring_given, prefix_of, length_of, width_given, names_counted, key_item, log_value, log_warning}
use Rattle.bt_actions.specs.Comparison.{equality_of}
use Rattle.bt_actions.specs.Texts.{case_of, quote}
use Rattle.bt_actions.specs.Names.{name_formatted}
use Rattle.bt_actions.specs.Operands.{entry_or_error, of_entry, kind_item, field_at, number_at, text_at}
use Rattle.bt_actions.specs.Assignment.{with_number, with_text, with_globals, with_own, put_if_right, own_changed, assigned}
use Rattle.bt_actions.specs.Stack.{duplicated, swapped}
use Rattle.bt_actions.specs.Actions.{act_with, change_with, basic}
use Rattle.bt_machine.specs.Eval.{Counts, Ending, Done, Stopped, Runner, then_go, acted, code_body, default_type, function_body, run_type, by_sign, turn, turns, run_with, built_in, act, calls_after, eval_within}

-- an action leaves at most so many values on the stack, where it doesn't stop
abbrev pub Grows : ℕ → Act → Type 0
Grows s (Goes w) = length w.stack ≤ s
Grows s (Stops w) = Unit {0}

-- a test
if_grows : (b : Bool) (a a' : Act) (s : ℕ) → Grows s a → Grows s a' → Grows s (if b then a else a')
if_grows true a a' s h h' = h
if_grows false a a' s h h' = h'

-- what is left after arguments were taken

pop_len : (vs : List Item) (w : World) → length vs ≤ length w.stack → length (popped_from vs w).1.stack ≤ length w.stack
pop_len [] w h = omega arith
pop_len (v ∷ vs) w h = omega arith

pub popped_len : (w : World) → length (popped w).1.stack ≤ length w.stack
popped_len w = pop_len w.stack w (omega arith)

judged_stack : (b : Primitive) (wrong : Bool) (w : World) → (judged b wrong w).stack ≡ w.stack
judged_stack b true w = refl
judged_stack b false w = refl

pub taken_len : {A : Type 0} (b : Primitive) (kind : Item → Option A) (w : World) → length (taken b kind w).1.stack ≤ length w.stack
taken_len b kind w = rw judged_stack (popped_len w)

pub taken_two_len : {A B : Type 0} (b : Primitive) (lower : Item → Option A) (upper : Item → Option B) (w : World) → length (taken_two b lower upper w).1.stack ≤ length w.stack
taken_two_len b lower upper w =
    let h = popped_len w in
    let i = popped_len (popped w).1 in
    rw judged_stack (omega arith)

pub taken_three_len : {A B C : Type 0} (b : Primitive) (lower : Item → Option A) (middle : Item → Option B) (upper : Item → Option C) (w : World) → length (taken_three b lower middle upper w).1.stack ≤ length w.stack
taken_three_len b lower middle upper w =
    let h = popped_len w in
    let i = popped_len (popped w).1 in
    let j = popped_len (popped (popped w).1).1 in
    rw judged_stack (omega arith)

-- where an argument was there, a value was taken
some_len : {A : Type 0} (kind : Item → Option A) (vs : List Item) (w : World) (a : A) → length vs ≤ length w.stack → option_and_then kind (popped_from vs w).0 ≡ Some a → length (popped_from vs w).1.stack < length w.stack
some_len kind [] w a h e = cc
some_len kind (v ∷ vs) w a h e = omega arith

pub taken_some_len : {A : Type 0} (b : Primitive) (kind : Item → Option A) (w : World) (a : A) → (taken b kind w).0 ≡ Some a → length (taken b kind w).1.stack < length w.stack
taken_some_len b kind w a e = rw judged_stack (some_len kind w.stack w a (omega arith) e)

-- what goes on the stack

pub pushed_grows : (v : Item) (w : World) (s : ℕ) → length w.stack ≤ s → Grows (suc s) (pushed v w)
pushed_grows v w s h =
    let long = Stops (say TextPassed w) in
    let short = nat_le (text_len v) 65536 in
    if_grows (nat_lt (length w.stack) 1000) (if short then Goes (with_stack (v ∷ w.stack) w) else long) (Stops (say StackPassed w)) (suc s)
    (if_grows short (Goes (with_stack (v ∷ w.stack) w)) long (suc s) (omega arith) tt) tt

in_error_grows : (m : Complaint) (v : Item) (w : World) (s : ℕ) → length w.stack ≤ s → Grows (suc s) (pushed_in_error m v w)
in_error_grows m v w s h =
    if_grows (nat_lt (length w.stack) 1000) (pushed v (say m w)) (Stops (say StackPassed w)) (suc s) (pushed_grows v (say m w) s h) tt

answered_grows : (g : Given) (w : World) (s : ℕ) → length w.stack ≤ s → Grows (suc s) (answered g w)
answered_grows (Gives v) w s h = pushed_grows v w s h
answered_grows (Errs m v) w s h = in_error_grows m v w s h

valued_grows : {A : Type 0} (f : A → Given) (default : Item) (q : Option A × World) (s : ℕ) → length q.1.stack ≤ s → Grows (suc s) (valued f default q)
valued_grows f default (None, w) s h = pushed_grows default w s h
valued_grows f default (Some a, w) s h = answered_grows (f a) w s h

given_grows : (value : Entry → Item) (default : Item) (o : Option Entry) (w : World) (s : ℕ) → length w.stack ≤ s → Grows (suc s) (entry_or_error value default o w)
given_grows value default None w s h = in_error_grows NoEntry default w s h
given_grows value default (Some e) w s h = pushed_grows (value e) w s h

of_entry_grows : (value : Entry → Item) (default : Item) (w : World) → Grows (suc (length w.stack)) (of_entry value default w)
of_entry_grows value default w = given_grows value default (entry_of w) w (length w.stack) (omega arith)

-- functions of one, two and three arguments

one_grows : {A : Type 0} (b : Primitive) (kind : Item → Option A) (f : A → Given) (default : Item) (w : World) → Grows (suc (length w.stack)) (valued f default (taken b kind w))
one_grows b kind f default w = valued_grows f default (taken b kind w) (length w.stack) (taken_len b kind w)

two_grows : {A B : Type 0} (b : Primitive) (lower : Item → Option A) (upper : Item → Option B) (f : A × B → Given) (default : Item) (w : World) → Grows (suc (length w.stack)) (valued f default (taken_two b lower upper w))
two_grows b lower upper f default w =
    valued_grows f default (taken_two b lower upper w) (length w.stack) (taken_two_len b lower upper w)

three_grows : {A B C : Type 0} (b : Primitive) (lower : Item → Option A) (middle : Item → Option B) (upper : Item → Option C) (f : A × B × C → Given) (default : Item) (w : World) → Grows (suc (length w.stack)) (valued f default (taken_three b lower middle upper w))
three_grows b lower middle upper f default w =
    valued_grows f default (taken_three b lower middle upper w) (length w.stack) (taken_three_len b lower middle upper w)

-- what leaves the stack as it is

goes_grows : {A : Type 0} (f : A → World → World) → ((a : A) (w : World) → (f a w).stack ≡ w.stack) → (q : Option A × World) (s : ℕ) → length q.1.stack ≤ s → Grows (suc s) (change_with f q)
goes_grows f same (None, w) s h = omega arith
goes_grows f same (Some a, w) s h = let e = ap length (same a w) in omega arith

stored_stack : (put : Variables → World → World) → ((vs : Variables) (w : World) → (put vs w).stack ≡ w.stack) → (o : Option Variables) (w : World) → (put_if_right put o w).stack ≡ w.stack
stored_stack put same None w = refl
stored_stack put same (Some vs) w = same vs w

own_changed_stack : (change : Variables → Option Variables) (x : Option ℕ) (w : World) → (own_changed change x w).stack ≡ w.stack
own_changed_stack change None w = refl
own_changed_stack change (Some x) w = stored_stack (with_own x) (λ vs w. refl) _ w

pub assigned_stack : (a : Item × Target) (w : World) → (assigned a w).stack ≡ w.stack
assigned_stack (v, Builtin b) w = refl
assigned_stack (v, Field n) w = refl
assigned_stack (v, EntryNumber n) w = own_changed_stack (with_number n v) w.current w
assigned_stack (v, EntryText n) w = own_changed_stack (with_text n v) w.current w
assigned_stack (v, GlobalNumber n) w = stored_stack with_globals (λ vs w. refl) (with_number n v w.globals) w
assigned_stack (v, GlobalText n) w = stored_stack with_globals (λ vs w. refl) (with_text n v w.globals) w
assigned_stack (v, Function n) w = refl

appended_grows : (q : Option (List ℕ) × World) (s : ℕ) → length q.1.stack ≤ s → Grows (suc s) (act_with appended q)
appended_grows (None, w) s h = omega arith
appended_grows (Some t, w) s h =
    if_grows (nat_le (length w.held + length t) 65536) (Goes _) (Stops (say TextPassed w)) (suc s) (omega arith) tt

-- the functions of the stack alone

duplicated_grows : (vs : List Item) (w : World) → Grows (suc (length w.stack)) (duplicated vs w)
duplicated_grows [] w = omega arith
duplicated_grows (v ∷ vs) w = pushed_grows v w (length w.stack) (omega arith)

swapped_len : (vs : List Item) (w : World) → length vs ≤ length w.stack → length (swapped vs w).stack ≤ length w.stack
swapped_len [] w h = omega arith
swapped_len (v ∷ []) w h = omega arith
swapped_len (v ∷ u ∷ vs) w h = omega arith

-- a built-in function that runs no other leaves at most one value more
pub basic_grows : (p : Program) (b : Primitive) (w : World) → Grows (suc (length w.stack)) (basic p b w)
basic_grows p builtin.Greater w = two_grows builtin.Greater as_number as_number greater_of zero_item w
basic_grows p builtin.Less w = two_grows builtin.Less as_number as_number less_of zero_item w
basic_grows p builtin.Equals w = two_grows builtin.Equals as_any as_any equality_of zero_item w
basic_grows p builtin.Plus w = two_grows builtin.Plus as_number as_number sum_of zero_item w
basic_grows p builtin.Minus w = two_grows builtin.Minus as_number as_number difference_of zero_item w
basic_grows p builtin.Join w = two_grows builtin.Join as_text as_text join_of empty_item w
basic_grows p builtin.Assign w =
    goes_grows assigned assigned_stack (taken_two builtin.Assign as_any as_target w) _ (taken_two_len builtin.Assign as_any as_target w)
basic_grows p builtin.AddPeriod w = one_grows builtin.AddPeriod as_text period_of empty_item w
basic_grows p builtin.CallType w = omega arith
basic_grows p builtin.ChangeCase w = two_grows builtin.ChangeCase as_text as_text case_of empty_item w
basic_grows p builtin.ChrToInt w = one_grows builtin.ChrToInt as_text byte_number zero_item w
basic_grows p builtin.Cite w = of_entry_grows key_item empty_item w
basic_grows p builtin.Duplicate w = duplicated_grows w.stack w
basic_grows p builtin.Empty w = one_grows builtin.Empty as_field_text emptiness_of zero_item w
basic_grows p builtin.FormatName w = three_grows builtin.FormatName as_text as_number as_text name_formatted empty_item w
basic_grows p builtin.If w = omega arith
basic_grows p builtin.IntToChr w = one_grows builtin.IntToChr as_number ascii_text empty_item w
basic_grows p builtin.IntToStr w = one_grows builtin.IntToStr as_number digits_text empty_item w
basic_grows p builtin.Missing w = one_grows builtin.Missing as_field_text missing_of zero_item w
basic_grows p builtin.Newline w = omega arith
basic_grows p builtin.NumNames w = one_grows builtin.NumNames as_text names_counted zero_item w
basic_grows p builtin.Pop w = let h = popped_len w in omega arith
basic_grows p builtin.Preamble w = pushed_grows (Txt w.preamble) w _ (omega arith)
basic_grows p builtin.Purify w = one_grows builtin.Purify as_text purified_of empty_item w
basic_grows p builtin.Quote w = pushed_grows (Txt quote) w _ (omega arith)
basic_grows p builtin.Skip w = omega arith
basic_grows p builtin.Stack w = omega arith
basic_grows p builtin.Substring w = three_grows builtin.Substring as_text as_number as_number substring_given empty_item w
basic_grows p builtin.Swap w = let h = swapped_len w.stack w (omega arith) in omega arith
basic_grows p builtin.TextLength w = one_grows builtin.TextLength as_text length_of zero_item w
basic_grows p builtin.TextPrefix w = two_grows builtin.TextPrefix as_text as_number prefix_of empty_item w
basic_grows p builtin.Top w =
    goes_grows (log_value p) (λ v w. refl) (taken builtin.Top as_any w) _ (taken_len builtin.Top as_any w)
basic_grows p builtin.Type w = of_entry_grows kind_item empty_item w
basic_grows p builtin.Warning w =
    goes_grows log_warning (λ t w. refl) (taken builtin.Warning as_text w) _ (taken_len builtin.Warning as_text w)
basic_grows p builtin.While w = omega arith
basic_grows p builtin.Width w = one_grows builtin.Width as_text width_given zero_item w
basic_grows p builtin.Write w = appended_grows (taken builtin.Write as_text w) _ (taken_len builtin.Write as_text w)

-- an evaluation leaves at most k ticks and, where it isn't stopped, at most s ticks and values together
abbrev pub Shrinks : ℕ → ℕ → Ending → Type 0
Shrinks k s (Done w j) = (j.0 ≤ k) × (j.0 + length w.stack ≤ s)
Shrinks k s (Stopped w j) = j.0 ≤ k

-- from everywhere it leaves no more ticks than it was given, and no more ticks and values together
abbrev pub AllShrink : (World → Counts → Ending) → Type 0
AllShrink go = (w : World) (k : Counts) → Shrinks k.0 (k.0 + length w.stack) (go w k)

Shrinks_weaker : (o : Ending) (k s k' s' : ℕ) → k ≤ k' → s ≤ s' → Shrinks k s o → Shrinks k' s' o
Shrinks_weaker (Done w j) k s k' s' hk hs h = (omega arith, omega arith)
Shrinks_weaker (Stopped w j) k s k' s' hk hs h = omega arith

then_shrinks : (o : Ending) (go : World → Counts → Ending) (k s k' s' : ℕ) → k ≤ k' → Shrinks k s o → ((w : World) (j : Counts) → j.0 ≤ k → j.0 + length w.stack ≤ s → Shrinks k' s' (go w j)) → Shrinks k' s' (then_go o go)
then_shrinks (Done w j) go k s k' s' hk h f = f w j h.0 h.1
then_shrinks (Stopped w j) go k s k' s' hk h f = omega arith

acted_shrinks : (a : Act) (k : Counts) (n : ℕ) → Grows (suc n) a → Shrinks k.0 (suc (k.0 + n)) (acted a k)
acted_shrinks (Goes w) k n h = (omega arith, omega arith)
acted_shrinks (Stops w) k n h = omega arith

-- loops

turn_shrinks : (o : Option ℤ) (w : World) (j : Counts) (k s : ℕ) (body again : World → Counts → Ending) → j.0 ≤ k → j.0 + length w.stack ≤ s → AllShrink body → AllShrink again → Shrinks k s (turn (o, w) j body again)
turn_shrinks None w j k s body again hk hs b a = (hk, hs)
turn_shrinks (Some (pos zero)) w j k s body again hk hs b a = (hk, hs)
turn_shrinks (Some (pos (suc n))) w j k s body again hk hs b a =
    then_shrinks (body w j) again j.0 (j.0 + length w.stack) k s hk (b w j) (λ w' i hi hs'. Shrinks_weaker (again w' i) i.0 (i.0 + length w'.stack) k s (omega arith) (omega arith) (a w' i))
turn_shrinks (Some (negsuc n)) w j k s body again hk hs b a = (hk, hs)

turns_shrinks : (m : ℕ) (test body : World → Counts → Ending) → AllShrink test → AllShrink body → AllShrink (turns m test body)
turns_shrinks zero test body t b w k = omega arith
turns_shrinks (suc m) test body t b w k =
    then_shrinks (test w k) _ k.0 (k.0 + length w.stack) k.0 (k.0 + length w.stack) (omega arith) (t w k)
    (λ w' j hj hs. let l = taken_len builtin.While as_number w' in turn_shrinks _ _ j k.0 (k.0 + length w.stack) body (turns m test body) hj (omega arith) b (turns_shrinks m test body t b))

module _ (p : Program) (run : Runner) (h : (b : Body) → AllShrink (run b)) where
  -- a body, where fewer values stand on the stack
  run_shrinks : (b : Body) (w : World) (k : Counts) (s : ℕ) → k.0 + length w.stack ≤ s → Shrinks k.0 s (run b w k)
  run_shrinks b w k s i = Shrinks_weaker _ k.0 (k.0 + length w.stack) k.0 s (omega arith) i (h b w k)

  with_shrinks : {A : Type 0} (f : A → World → Counts → Ending) (o : Option A) (w : World) (k : Counts) (s : ℕ) → k.0 + length w.stack ≤ s → ((a : A) → Shrinks k.0 s (f a w k)) → Shrinks k.0 s (run_with f (o, w) k)
  with_shrinks f None w k s i g = (omega arith, i)
  with_shrinks f (Some a) w k s i g = g a

  type_shrinks : (o : Option Entry) (w : World) (k : Counts) (s : ℕ) → k.0 + length w.stack ≤ s → Shrinks k.0 s (run_type p.functions run o w k)
  type_shrinks None w k s i = (omega arith, i)
  type_shrinks (Some e) w k s i =
      with_shrinks _ (option_or e.function (default_type p.functions)) w k s i (λ n. run_shrinks (function_body p.functions n) w k s i)

  built_in_shrinks : (b : Primitive) (w : World) (k : Counts) → Shrinks k.0 (suc (k.0 + length w.stack)) (built_in p run b w k)
  built_in_shrinks builtin.If w k =
      let t = taken_three builtin.If as_number as_code as_code w in
      let l = taken_three_len builtin.If as_number as_code as_code w in
      let i : k.0 + length t.1.stack ≤ suc (k.0 + length w.stack) = omega arith in
      with_shrinks _ t.0 t.1 k _ i (λ q. run_shrinks (code_body (by_sign q.0 q.1 q.2)) t.1 k _ i)
  built_in_shrinks builtin.While w k =
      let t = taken_two builtin.While as_code as_code w in
      let l = taken_two_len builtin.While as_code as_code w in
      let i : k.0 + length t.1.stack ≤ suc (k.0 + length w.stack) = omega arith in
      with_shrinks _ t.0 t.1 k _ i (λ q. Shrinks_weaker _ k.0 (k.0 + length t.1.stack) k.0 _ (omega arith) i (turns_shrinks (suc (k.0 + length t.1.stack)) _ _ (h (code_body q.0)) (h (code_body q.1)) t.1 k))
  built_in_shrinks builtin.CallType w k = type_shrinks (entry_of w) w k _ (omega arith)
  built_in_shrinks b w k = acted_shrinks (basic p b w) k _ (basic_grows p b w)

  pub act_shrinks : (e : Element) (w : World) (k : Counts) → Shrinks k.0 (suc (k.0 + length w.stack)) (act p run e w k)
  act_shrinks (Amount n) w k = acted_shrinks (pushed (Num n) w) k _ (pushed_grows (Num n) w _ (omega arith))
  act_shrinks (Words t) w k = acted_shrinks (pushed (Txt t) w) k _ (pushed_grows (Txt t) w _ (omega arith))
  act_shrinks (Quoted t) w k = acted_shrinks (pushed (Fun (Name t)) w) k _ (pushed_grows (Fun (Name t)) w _ (omega arith))
  act_shrinks (Braced b) w k = acted_shrinks (pushed (Fun (Block b)) w) k _ (pushed_grows (Fun (Block b)) w _ (omega arith))
  act_shrinks (Called (Builtin b)) w k = built_in_shrinks b w k
  act_shrinks (Called (Field n)) w k = acted_shrinks (of_entry (field_at n) empty_item w) k _ (of_entry_grows (field_at n) empty_item w)
  act_shrinks (Called (EntryNumber n)) w k = acted_shrinks (of_entry (number_at n) zero_item w) k _ (of_entry_grows (number_at n) zero_item w)
  act_shrinks (Called (EntryText n)) w k = acted_shrinks (of_entry (text_at n) empty_item w) k _ (of_entry_grows (text_at n) empty_item w)
  act_shrinks (Called (GlobalNumber n)) w k =
      acted_shrinks (pushed (Num (slice_index_or w.globals.numbers n (pos 0))) w) k _ (pushed_grows (Num (slice_index_or w.globals.numbers n (pos 0))) w _ (omega arith))
  act_shrinks (Called (GlobalText n)) w k =
      acted_shrinks (pushed (Txt (slice_index_or w.globals.texts n [])) w) k _ (pushed_grows (Txt (slice_index_or w.globals.texts n [])) w _ (omega arith))
  act_shrinks (Called (Function n)) w k = run_shrinks (function_body p.functions n) w k _ (omega arith)

-- a body
pub eval_shrinks : (p : Program) (deep : ℕ) (b : Body) → AllShrink (eval_within p deep b)
unfolding eval_within
eval_shrinks p deep End w k = (omega arith, omega arith)
eval_shrinks p deep (Then e rest) w (zero, calls) = omega arith
eval_shrinks p zero (Then e rest) w (suc k, calls) = omega arith
eval_shrinks p (suc deep) (Then e rest) w (suc k, calls) =
    then_shrinks _ _ k (suc (k + length w.stack)) (suc k) (suc k + length w.stack) (omega arith) (act_shrinks p (eval_within p deep) (eval_shrinks p deep) e w (k, calls_after e calls)) (λ w' j hj hs. Shrinks_weaker _ j.0 (j.0 + length w'.stack) (suc k) (suc k + length w.stack) (omega arith) (omega arith) (eval_shrinks p deep rest w' j))
