-- The rules by which bodies are checked.
use Rattle.std.proofs.Common.{◌≡◌, ℕ, zero, suc, ◌+◌, ℤ, pos, negsuc, ◌≤ℤ◌, ◌<ℤ◌, Bool, true, false, ◌||◌, List, [], ◌∷◌, length, Option, Some, None, inl, inr, refl, sym, subst, arith, eqb-true, true≢false}
use Rattle.std.specs.Prelude.{if◌then◌else◌, nat_eq}
use Rattle.std.specs.Option.{option_or}
use Rattle.std.specs.List.{list_any, list_all}
use Rattle.std.proofs.lemmas.Int.{ints}
use Rattle.bt_text.specs.ByteTests.{is_white}
use Rattle.bt_style.specs.declared.builtin.Builtin.{Builtin as Primitive}
use Rattle.bt_style.specs.declared.builtin.Builtin.TheVariants as builtin
use Rattle.bt_style.specs.declared.style.Target.{Target}
use Rattle.bt_style.specs.declared.style.Target.TheVariants.{Builtin, Field, EntryNumber, EntryText, GlobalNumber, GlobalText, Function}
use Rattle.bt_style.specs.Tree.{Element, Amount, Words, Quoted, Braced, Called, Body, End, Then}
use Rattle.bt_style.specs.Program.{Program}
use Rattle.bt_actions.specs.declared.entry.Entry.{Entry}
use Rattle.bt_actions.specs.declared.complaint.Complaint.{Complaint}
use Rattle.bt_actions.specs.declared.complaint.Complaint.TheVariants.{EmptyStack, WrongKind, TicksPassed}
use Rattle.bt_actions.specs.Item.{Code, Item, Num, Txt, Fun, Missing, Name, Block}
use Rattle.bt_actions.specs.World.{World, Act, Goes, Stops, entry_in, entry_of, say, with_stack, told_message}
use Rattle.bt_actions.specs.State.{pushed, popped_from, popped}
use Rattle.bt_actions.specs.Given.{zero_item, empty_item}
use Rattle.bt_actions.specs.Operands.{of_entry, field_at, number_at, text_at, global_number, global_text}
use Rattle.bt_actions.specs.Arguments.{as_number, is_wrong, judged, taken}
use Rattle.bt_actions.specs.Actions.{basic}
use Rattle.bt_machine.specs.Eval.{Counts, Ending, Done, Stopped, then_go, acted, code_body, default_type, function_body, run_type, by_sign, turn, turns, looped, run_with, built_in, act, calls_after, eval_within}
use Rattle.bt_sound.specs.Excluded.{is_clean}
use Rattle.bt_sound.specs.Known.{Range, Known, Number, Text, Run, KnownEntry, State, holding, exactly}
use Rattle.bt_sound.specs.Fits.{Each, IsIn, allows, TextFits, Fits, is_named, EntryFits, Here, Past, Among, At, ActAt}
use Rattle.bt_sound.specs.Transfer.{stack_after}
use Rattle.bt_sound.specs.Reading.{pushing, only_blank, only_inked, upto_zero, above_zero, is_open, field_read, own_number_read, own_text_read, global_number_read, global_text_read, entry_text_read, doubled, assigning}
use Rattle.bt_sound.specs.Holds.{EndAt, Leads, Does, ForEach, Covers, literal, Turns, DefaultLeads}
use Rattle.bt_sound.proofs.Messages.{past_append, past_longer}
use Rattle.bt_sound.proofs.Options.{nothing}
use Rattle.bt_sound.proofs.Worlds.{at_more, told_clean, pushed_at}
use Rattle.bt_sound.proofs.Basics.{basic_at}
use Rattle.bt_sound.proofs.Operands.{above_open, upto_open, field_at_entry, number_at_entry, text_at_entry, key_at_entry, kind_at_entry, number_at_globals, text_at_globals, doubled_at}
use Rattle.bt_sound.proofs.Assignments.{assigning_at}
use Rattle.bt_sound.proofs.Beyond.{PastEnd, past_eval}

module _ (p : Program) (types : List ℕ) where
  -- what was said of a world

  pub among_clean : (ss : List State) (w : World) → Among types ss w → is_clean w.messages ≡ true
  among_clean [] w h = absurd h
  among_clean (s ∷ ss) w (inl h) = h.0
  among_clean (s ∷ ss) w (inr h) = among_clean ss w h

  at_clean : (ss : List State) (w : World) → At types ss w → is_clean w.messages ≡ true
  at_clean ss w (inl h) = h.0
  at_clean ss w (inr h) = among_clean ss w h

  pub end_more : (ss ts : List State) (o : Ending) → Covers types ss ts → EndAt types ss o → EndAt types ts o
  end_more ss ts (Done w k) c h = at_more types ss ts c w h
  end_more ss ts (Stopped w k) c h = h

  end_past : (ts : List State) (o : Ending) → PastEnd o → EndAt types ts o
  end_past ts (Done w k) h = inl h
  end_past ts (Stopped w k) h = h

  acted_end : (ss : List State) (a : Act) (k : Counts) → ActAt types ss a → EndAt types ss (acted a k)
  acted_end ss (Goes w) k h = h
  acted_end ss (Stops w) k h = h

  then_end : (ss ts : List State) (o : Ending) (go : World → Counts → Ending) → EndAt types ss o → ((w : World) (k : Counts) → At types ss w → EndAt types ts (go w k)) → EndAt types ts (then_go o go)
  then_end ss ts (Done w k) go h f = f w k h
  then_end ss ts (Stopped w k) go h f = h

  pub run_at : (b : Body) (ss ts : List State) → Leads p types b ss ts → (deep : ℕ) (w : World) (k : Counts) → At types ss w → EndAt types ts (eval_within p deep b w k)
  run_at b ss ts l deep w k (inl h) = end_past ts (eval_within p deep b w k) (past_eval p deep b w k h)
  run_at b ss ts l deep w k (inr h) = l deep w k h

  -- bodies

  pub lead_more : (b : Body) (ss ss' ts ts' : List State) → Covers types ss' ss → Leads p types b ss ts → Covers types ts ts' → Leads p types b ss' ts'
  lead_more b ss ss' ts ts' c l d deep w k h = end_more ts ts' (eval_within p deep b w k) d (l deep w k (c w h))

  pub lead_end : (ss : List State) → Leads p types End ss ss
  unfolding eval_within
  lead_end ss deep w k h = inr h

  each_does : (e : Element) (ss ts : List State) → ForEach (λ s. Does p types e s ts) ss → (deep : ℕ) (w : World) (k : Counts) → Among types ss w → EndAt types ts (act p (eval_within p deep) e w k)
  each_does e [] ts d deep w k h = absurd h
  each_does e (s ∷ ss) ts d deep w k (inl h) = d.0 deep w k h
  each_does e (s ∷ ss) ts d deep w k (inr h) = each_does e ss ts d.1 deep w k h

  pub lead_then : (e : Element) (rest : Body) (ss ts us : List State) → ForEach (λ s. Does p types e s ts) ss → Leads p types rest ts us → Leads p types (Then e rest) ss us
  unfolding eval_within
  lead_then e rest ss ts us d l deep w (zero, calls) h = told_clean types TicksPassed w (λ key. refl) (among_clean ss w h)
  lead_then e rest ss ts us d l zero w (suc k, calls) h = among_clean ss w h
  lead_then e rest ss ts us d l (suc deep) w (suc k, calls) h =
      then_end ts us (act p (eval_within p deep) e w (k, calls_after e calls)) (eval_within p deep rest) (each_does e ss ts d deep w (k, calls_after e calls) h) (run_at rest ts us l deep)

  -- elements that put a value on the stack

  literal_fits : (t : List ℕ) → TextFits (literal t) t
  literal_fits t = by (list_all is_white t)
    where
      by : (b : Bool) → allows (if b then only_blank else only_inked) b ≡ true
      by true = refl
      by false = refl

  pub does_number : (n : ℤ) (s : State) → Does p types (Amount n) s (pushing (Number (exactly n)) s ∷ [])
  does_number n s deep w k h =
      acted_end (pushing (Number (exactly n)) s ∷ []) (pushed (Num n) w) k (pushed_at types s (Number (exactly n)) (Num n) w (omega (arith, ints), omega (arith, ints)) h)

  pub does_words : (t : List ℕ) (s : State) → Does p types (Words t) s (pushing (Text (literal t)) s ∷ [])
  does_words t s deep w k h = acted_end (pushing (Text (literal t)) s ∷ []) (pushed (Txt t) w) k (pushed_at types s (Text (literal t)) (Txt t) w (literal_fits t) h)

  pub does_quote : (t : Target) (s : State) → Does p types (Quoted t) s (pushing (Run (Name t)) s ∷ [])
  does_quote t s deep w k h = acted_end (pushing (Run (Name t)) s ∷ []) (pushed (Fun (Name t)) w) k (pushed_at types s (Run (Name t)) (Fun (Name t)) w refl h)

  pub does_braces : (b : Body) (s : State) → Does p types (Braced b) s (pushing (Run (Block b)) s ∷ [])
  does_braces b s deep w k h = acted_end (pushing (Run (Block b)) s ∷ []) (pushed (Fun (Block b)) w) k (pushed_at types s (Run (Block b)) (Fun (Block b)) w refl h)

  -- names that are read

  pub does_field : (n : ℕ) (s : State) (out : List State) → field_read n s ≡ Some out → Does p types (Called (Field n)) s out
  does_field n s out e deep w k h = acted_end out (of_entry (field_at n) empty_item w) k (field_at_entry types n s out w h e)

  pub does_own_number : (n : ℕ) (s : State) (out : List State) → own_number_read n s ≡ Some out → Does p types (Called (EntryNumber n)) s out
  does_own_number n s out e deep w k h = acted_end out (of_entry (number_at n) zero_item w) k (number_at_entry types n s out w h e)

  pub does_own_text : (n : ℕ) (s : State) (out : List State) → own_text_read n s ≡ Some out → Does p types (Called (EntryText n)) s out
  does_own_text n s out e deep w k h = acted_end out (of_entry (text_at n) empty_item w) k (text_at_entry types n s out w h e)

  pub does_global_number : (n : ℕ) (s : State) → Does p types (Called (GlobalNumber n)) s (global_number_read n s)
  does_global_number n s deep w k h = acted_end (global_number_read n s) (global_number n w) k (number_at_globals types n s w h)

  pub does_global_text : (n : ℕ) (s : State) → Does p types (Called (GlobalText n)) s (global_text_read n s)
  does_global_text n s deep w k h = acted_end (global_text_read n s) (global_text n w) k (text_at_globals types n s w h)

  -- a call
  pub does_call : (n : ℕ) (s : State) (ts : List State) → Leads p types (function_body p.functions n) (s ∷ []) ts → Does p types (Called (Function n)) s ts
  does_call n s ts l deep w k h = l deep w k (inl h)

  -- built-in functions that run no other

  pub does_basic : (b : Primitive) (s : State) (out : List Known) → stack_after b s.stack ≡ Some out → Does p types (Called (Builtin b)) s (holding out s ∷ [])
  does_basic builtin.CallType s out e deep w k h = nothing out e
  does_basic builtin.If s out e deep w k h = nothing out e
  does_basic builtin.While s out e deep w k h = nothing out e
  does_basic b s out e deep w k h =
      acted_end (holding out s ∷ []) (basic p b w) k (basic_at types s w h.0 h.1 p b s.stack out w.stack h.2 e)

  pub does_assign : (s out : State) → assigning s.stack s ≡ Some out → Does p types (Called (Builtin builtin.Assign)) s (out ∷ [])
  does_assign s out e deep w k h = acted_end (out ∷ []) (basic p builtin.Assign w) k (assigning_at types p s out w h e)

  pub does_double : (s : State) (out : List State) → doubled s.stack s ≡ Some out → Does p types (Called (Builtin builtin.Duplicate)) s out
  does_double s out e deep w k h = acted_end out (basic p builtin.Duplicate w) k (doubled_at types p s out w h e)

  pub does_cite : (s : State) (out : List State) → entry_text_read s ≡ Some out → Does p types (Called (Builtin builtin.Cite)) s out
  does_cite s out e deep w k h = acted_end out (basic p builtin.Cite w) k (key_at_entry types s out w h e)

  pub does_type : (s : State) (out : List State) → entry_text_read s ≡ Some out → Does p types (Called (Builtin builtin.Type)) s out
  does_type s out e deep w k h = acted_end out (basic p builtin.Type w) k (kind_at_entry types s out w h e)

  -- `if$`

  module _ (c d : Code) (r : Range) (ks : List Known) (s : State) (ts : List State) (above : is_open (above_zero r) ≡ true → Leads p types (code_body c) (holding ks s ∷ []) ts) (upto : is_open (upto_zero r) ≡ true → Leads p types (code_body d) (holding ks s ∷ []) ts) where
    branch_at : (n : ℤ) → IsIn r n → (deep : ℕ) (w : World) (k : Counts) → Here types (holding ks s) w → EndAt types ts (eval_within p deep (code_body (by_sign n c d)) w k)
    branch_at (pos zero) i deep w k h = upto (upto_open r (pos zero) i (omega (arith, ints))) deep w k (inl h)
    branch_at (pos (suc n)) i deep w k h = above (above_open r (pos (suc n)) i (omega (arith, ints))) deep w k (inl h)
    branch_at (negsuc n) i deep w k h = upto (upto_open r (negsuc n) i (omega (arith, ints))) deep w k (inl h)

    abbrev before_if : State
    before_if = holding (Run d ∷ Run c ∷ Number r ∷ ks) s

    if_over : (vs : List Item) (deep : ℕ) (w : World) (k : Counts) → Here types before_if (with_stack vs w) → EndAt types ts (built_in p (eval_within p deep) builtin.If (with_stack vs w) k)
    if_over [] deep w k h = absurd h.2
    if_over (Num n ∷ vs) deep w k h = absurd h.2.0
    if_over (Txt t ∷ vs) deep w k h = absurd h.2.0
    if_over (Missing n ∷ vs) deep w k h = absurd h.2.0
    if_over (Fun d' ∷ []) deep w k h = absurd h.2.1
    if_over (Fun d' ∷ Num n ∷ vs) deep w k h = absurd h.2.1.0
    if_over (Fun d' ∷ Txt t ∷ vs) deep w k h = absurd h.2.1.0
    if_over (Fun d' ∷ Missing n ∷ vs) deep w k h = absurd h.2.1.0
    if_over (Fun d' ∷ Fun c' ∷ []) deep w k h = absurd h.2.1.1
    if_over (Fun d' ∷ Fun c' ∷ Txt t ∷ vs) deep w k h = absurd h.2.1.1.0
    if_over (Fun d' ∷ Fun c' ∷ Fun b ∷ vs) deep w k h = absurd h.2.1.1.0
    if_over (Fun d' ∷ Fun c' ∷ Missing n ∷ vs) deep w k h = absurd h.2.1.1.0
    if_over (Fun d' ∷ Fun c' ∷ Num n ∷ vs) deep w k h =
        subst (λ b. EndAt types ts (eval_within p deep (code_body (by_sign n c' b)) (with_stack vs w) k)) h.2.0
        (subst (λ b. EndAt types ts (eval_within p deep (code_body (by_sign n b d)) (with_stack vs w) k)) h.2.1.0
        (branch_at n h.2.1.1.0 deep (with_stack vs w) k (h.0, h.1, h.2.1.1.1)))

    pub does_if : Does p types (Called (Builtin builtin.If)) before_if ts
    does_if deep w k h = if_over w.stack deep w k h

  -- `while$`

  past_told : (c : Complaint) (w : World) → Past w → Past (say c w)
  past_told c w h =
      (past_append w.messages (told_message w c ∷ []) h.0 h.1, past_longer w.messages (told_message w c ∷ []) h.1, h.2)

  past_popped : (vs : List Item) (w : World) → Past w → Past (popped_from vs w).1
  past_popped [] w h = past_told EmptyStack w h
  past_popped (v ∷ vs) w h = h

  past_judged : (b : Primitive) (wrong : Bool) (w : World) → Past w → Past (judged b wrong w)
  past_judged b true w h = past_told (WrongKind b) w h
  past_judged b false w h = h

  past_taken : (w : World) → Past w → Past (taken builtin.While as_number w).1
  past_taken w h =
      past_judged builtin.While (is_wrong as_number (popped w).0) (popped w).1 (past_popped w.stack w h)

  module _ (test body : Code) (ks : List Known) (s : State) (heads mids goes ends : List State) (first : Covers types (holding ks s ∷ []) heads) (tests : Leads p types (code_body test) heads mids) (after : ForEach (Turns types goes ends) mids) (again : Leads p types (code_body body) goes heads) where
    -- the number that the test left decides
    number_over : (n : ℤ) (deep : ℕ) (w : World) (k : Counts) (next : World → Counts → Ending) → (pos 0 <ℤ n → Among types goes w) → (n ≤ℤ pos 0 → Among types ends w) → ((v : World) (j : Counts) → At types heads v → EndAt types ends (next v j)) → EndAt types ends (turn (Some n, w) k (eval_within p deep (code_body body)) next)
    number_over (pos zero) deep w k next a u f = inr (u (omega (arith, ints)))
    number_over (pos (suc n)) deep w k next a u f =
        then_end heads ends (eval_within p deep (code_body body) w k) next (again deep w k (a (omega (arith, ints)))) f
    number_over (negsuc n) deep w k next a u f = inr (u (omega (arith, ints)))

    past_over : (o : Option ℤ) (deep : ℕ) (w : World) (k : Counts) (next : World → Counts → Ending) → Past w → ((v : World) (j : Counts) → At types heads v → EndAt types ends (next v j)) → EndAt types ends (turn (o, w) k (eval_within p deep (code_body body)) next)
    past_over None deep w k next h f = inl h
    past_over (Some (pos zero)) deep w k next h f = inl h
    past_over (Some (pos (suc n))) deep w k next h f =
        then_end heads ends (eval_within p deep (code_body body) w k) next (end_past heads (eval_within p deep (code_body body) w k) (past_eval p deep (code_body body) w k h)) f
    past_over (Some (negsuc n)) deep w k next h f = inl h

    -- the stack after the test
    stack_over : (t : State) (u : Turns types goes ends t) (vs : List Item) (deep : ℕ) (w : World) (k : Counts) (next : World → Counts → Ending) → Here types (holding (Number u.range ∷ u.below) t) (with_stack vs w) → ((v : World) (j : Counts) → At types heads v → EndAt types ends (next v j)) → EndAt types ends (turn (taken builtin.While as_number (with_stack vs w)) k (eval_within p deep (code_body body)) next)
    stack_over t u [] deep w k next h f = absurd h.2
    stack_over t u (Txt x ∷ vs) deep w k next h f = absurd h.2.0
    stack_over t u (Fun x ∷ vs) deep w k next h f = absurd h.2.0
    stack_over t u (Missing x ∷ vs) deep w k next h f = absurd h.2.0
    stack_over t u (Num n ∷ vs) deep w k next h f =
        number_over n deep (with_stack vs w) k next (λ i. u.above (above_open u.range n h.2.0 i) (with_stack vs w) (inl (h.0, h.1, h.2.1))) (λ i. u.upto (upto_open u.range n h.2.0 i) (with_stack vs w) (inl (h.0, h.1, h.2.1))) f

    mid_over : (ms : List State) → ForEach (Turns types goes ends) ms → (deep : ℕ) (w : World) (k : Counts) (next : World → Counts → Ending) → Among types ms w → ((v : World) (j : Counts) → At types heads v → EndAt types ends (next v j)) → EndAt types ends (turn (taken builtin.While as_number w) k (eval_within p deep (code_body body)) next)
    mid_over [] u deep w k next h f = absurd h
    mid_over (t ∷ ms) u deep w k next (inl h) f =
        stack_over t u.0 w.stack deep w k next (h.0, h.1, subst (λ ls. Each Fits ls w.stack) u.0.stack h.2) f
    mid_over (t ∷ ms) u deep w k next (inr h) f = mid_over ms u.1 deep w k next h f

    test_over : (deep : ℕ) (w : World) (k : Counts) (next : World → Counts → Ending) → At types mids w → ((v : World) (j : Counts) → At types heads v → EndAt types ends (next v j)) → EndAt types ends (turn (taken builtin.While as_number w) k (eval_within p deep (code_body body)) next)
    test_over deep w k next (inl h) f =
        past_over (taken builtin.While as_number w).0 deep (taken builtin.While as_number w).1 k next (past_taken w h) f
    test_over deep w k next (inr h) f = mid_over mids after deep w k next h f

    turns_over : (m deep : ℕ) (w : World) (k : Counts) → At types heads w → EndAt types ends (turns m (eval_within p deep (code_body test)) (eval_within p deep (code_body body)) w k)
    turns_over zero deep w k h = at_clean heads w h
    turns_over (suc m) deep w k h =
        let next = turns m (eval_within p deep (code_body test)) (eval_within p deep (code_body body)) in
        then_end mids ends (eval_within p deep (code_body test) w k) (λ w k. turn (taken builtin.While as_number w) k (eval_within p deep (code_body body)) next) (run_at (code_body test) heads mids tests deep w k h) (λ v j i. test_over deep v j next i (λ v j i. turns_over m deep v j i))

    abbrev before_while : State
    before_while = holding (Run body ∷ Run test ∷ ks) s

    while_over : (vs : List Item) (deep : ℕ) (w : World) (k : Counts) → Here types before_while (with_stack vs w) → EndAt types ends (built_in p (eval_within p deep) builtin.While (with_stack vs w) k)
    while_over [] deep w k h = absurd h.2
    while_over (Num n ∷ vs) deep w k h = absurd h.2.0
    while_over (Txt t ∷ vs) deep w k h = absurd h.2.0
    while_over (Missing n ∷ vs) deep w k h = absurd h.2.0
    while_over (Fun b ∷ []) deep w k h = absurd h.2.1
    while_over (Fun b ∷ Num n ∷ vs) deep w k h = absurd h.2.1.0
    while_over (Fun b ∷ Txt t ∷ vs) deep w k h = absurd h.2.1.0
    while_over (Fun b ∷ Missing n ∷ vs) deep w k h = absurd h.2.1.0
    while_over (Fun b ∷ Fun t ∷ vs) deep w k h =
        subst (λ x. EndAt types ends (looped (eval_within p deep) t x (with_stack vs w) k)) h.2.0
        (subst (λ x. EndAt types ends (looped (eval_within p deep) x body (with_stack vs w) k)) h.2.1.0
        (turns_over (suc (k.0 + length vs)) deep (with_stack vs w) k (inr (first (with_stack vs w) (inl (h.0, h.1, h.2.1.1))))))

    pub does_while : Does p types (Called (Builtin builtin.While)) before_while ends
    does_while deep w k h = while_over w.stack deep w k h

  -- `call.type$`

  type_by : (b : Bool) (n f : ℕ) (s : State) (ts : List State) (rest : Bool) → nat_eq n f ≡ b → (b || rest) ≡ true → Leads p types (function_body p.functions n) (s ∷ []) ts → (rest ≡ true → Leads p types (function_body p.functions f) (s ∷ []) ts) → Leads p types (function_body p.functions f) (s ∷ []) ts
  type_by true n f s ts rest i e l go = subst (λ m. Leads p types (function_body p.functions m) (s ∷ []) ts) (eqb-true n f i) l
  type_by false n f s ts rest i e l go = go e

  one_type : (ns : List ℕ) (f : ℕ) (s : State) (ts : List State) → list_any (λ t. nat_eq t f) ns ≡ true → ForEach (λ n. Leads p types (function_body p.functions n) (s ∷ []) ts) ns → Leads p types (function_body p.functions f) (s ∷ []) ts
  one_type [] f s ts e l = absurd (true≢false (sym e))
  one_type (n ∷ ns) f s ts e l =
      type_by (nat_eq n f) n f s ts (list_any (λ t. nat_eq t f) ns) refl e l.0 (λ i. one_type ns f s ts i l.1)

  module _ (s : State) (k : KnownEntry) (own : s.entry ≡ Some k) (ts : List State) (each : ForEach (λ n. Leads p types (function_body p.functions n) (s ∷ []) ts) types) (default : DefaultLeads p types (default_type p.functions) s ts) where
    default_over : (o : Option ℕ) → DefaultLeads p types o s ts → (deep : ℕ) (w : World) (c : Counts) → Here types s w → EndAt types ts (run_with (λ n. eval_within p deep (function_body p.functions n)) (o, w) c)
    default_over None d deep w c h = inr (d w (inl h))
    default_over (Some n) d deep w c h = d deep w c (inl h)

    function_over : (o : Option ℕ) → is_named types o ≡ true → (deep : ℕ) (w : World) (c : Counts) → Here types s w → EndAt types ts (run_with (λ n. eval_within p deep (function_body p.functions n)) (option_or o (default_type p.functions), w) c)
    function_over None e deep w c h = default_over (default_type p.functions) default deep w c h
    function_over (Some f) e deep w c h = one_type types f s ts e each deep w c (inl h)

    entry_over : (o : Option Entry) → EntryFits types (Some k) o → (deep : ℕ) (w : World) (c : Counts) → Here types s w → EndAt types ts (run_type p.functions (eval_within p deep) o w c)
    entry_over None f deep w c h = absurd f
    entry_over (Some e) f deep w c h = function_over e.function f.0 deep w c h

    pub does_call_type : Does p types (Called (Builtin builtin.CallType)) s ts
    does_call_type deep w c h =
        entry_over (entry_of w) (subst (λ o. EntryFits types o (entry_in w.entries w.current)) own h.1.1) deep w c h
