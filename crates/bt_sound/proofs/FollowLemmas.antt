-- What the code finds follows by the rules.
use Rattle.std.proofs.Common.{◌≡◌, ℕ, ℤ, ◌+◌, ◌<◌, ◌≤◌, Bool, true, false, List, [], ◌∷◌, ◌++◌, map, drop, length, get_or, Option, Some, None, inl, inr, refl, sym, subst, ap, ◌∙◌, true≢false, Vec, Global}
use Rattle.std.specs.Prelude.{is_none}
use Rattle.std.proofs.lemmas.List.{drop_more, drop_all}
use Rattle.bt_style.specs.declared.builtin.Builtin.{Builtin as Primitive}
use Rattle.bt_style.specs.declared.builtin.Builtin.TheVariants as builtin
use Rattle.bt_style.specs.declared.style.Command.{Command}
use Rattle.bt_style.specs.declared.style.Target.{Target}
use Rattle.bt_style.specs.declared.style.Target.TheVariants.{Builtin, Field, EntryNumber, EntryText, GlobalNumber, GlobalText, Function}
use Rattle.bt_style.specs.Tree.{Element, Amount, Words, Quoted, Braced, Called, Body, End, Then, element_of, element_step, ops_body}
use Rattle.bt_style.specs.declared.style.Op.{Op}
use Rattle.bt_style.specs.declared.style.Op.TheFolds.{fold-roll-Op}
use Rattle.bt_style.specs.declared.style.Op.TheOpen as shape
use Rattle.bt_style.specs.declared.style.Op.TheVariants as ops
use Rattle.bt_style.specs.Program.{Program}
use Rattle.bt_actions.specs.declared.code.Code.{Code as HeldCode}
use Rattle.bt_actions.specs.Item.{Code, Name, Block}
use Rattle.bt_actions.specs.View.{code_seen}
use Rattle.bt_actions.specs.World.{World}
use Rattle.bt_machine.proofs.LoopLemmas.{call_seen}
use Rattle.bt_machine.specs.Eval.{act, code_body, default_type, eval_within, function_body}
use Rattle.bt_sound.specs.Known.{Range, May, Known, Number, Text, Run, KnownVariables, KnownEntry, State, holding, exactly}
use Rattle.bt_sound.specs.Fits.{Among}
use Rattle.bt_sound.specs.Transfer.{stack_after}
use Rattle.bt_sound.specs.Reading.{pushing, upto_zero, above_zero, is_open, field_read, own_number_read, own_text_read, global_number_read, global_text_read, entry_text_read, doubled, assigning}
use Rattle.bt_sound.specs.Holds.{Leads, Does, ForEach, Covers, literal, Turns, DefaultLeads}
use Rattle.bt_sound.specs.Below.{variables_within}
use Rattle.bt_sound.specs.Sound.{Promises}
use Rattle.bt_sound.specs.Checked.{first_known, before_step, IsChecked, AreChecked}
use Rattle.bt_sound.specs.Follows.{some_if, Follows, Acts, Makes, Pushes, Covered, Chooses, Loops, Splits, SplitsOff, Turned, FollowsTypes, Continues, StepLeads, GlobalsWithin, CommandsContinue, CommandsLead, CommandLeads}
use Rattle.bt_sound.proofs.Rules.{end_more, lead_more, lead_end, lead_then, does_number, does_words, does_quote, does_braces, does_field, does_own_number, does_own_text, does_global_number, does_global_text, does_call, does_basic, does_assign, does_double, does_cite, does_type, does_if, does_while, does_call_type}
use Rattle.bt_sound.proofs.Runs.{checked_promises}

-- what holds of each

pub each_mapped : {A : Type 0} (P Q : A → Type 0) (xs : List A) → ((x : A) → P x → Q x) → ForEach P xs → ForEach Q xs
each_mapped P Q [] f h = tt
each_mapped P Q (x ∷ xs) f h = (f x h.0, each_mapped P Q xs f h.1)

pub each_more : {A : Type 0} (P : A → Type 0) (xs : List A) (x : A) → ForEach P xs → P x → ForEach P (xs ++ x ∷ [])
each_more P [] x h i = (i, tt)
each_more P (y ∷ xs) x h i = (h.0, each_more P xs x h.1 i)

-- states beside others

left_of : (types : List ℕ) (ss ts : List State) → Covers types ss (ss ++ ts)
left_of types [] ts w h = absurd h
left_of types (s ∷ ss) ts w (inl h) = inl h
left_of types (s ∷ ss) ts w (inr h) = inr (left_of types ss ts w h)

right_of : (types : List ℕ) (ss ts : List State) → Covers types ts (ss ++ ts)
right_of types [] ts w h = h
right_of types (s ∷ ss) ts w h = inr (right_of types ss ts w h)

same_in : (types : List ℕ) (ss : List State) → Covers types ss ss
same_in types ss w h = h

-- elements that run no function

pub makes_field : (t : Target) (n : ℕ) (s : State) (out : List State) → t ≡ Field n → field_read n s ≡ Some out → Makes (Called t) s out
makes_field t n s out q e =
    subst (λ t. Makes (Called t) s out) (sym q) (record { does = λ p types. does_field p types n s out e })

pub makes_own_number : (t : Target) (n : ℕ) (s : State) (out : List State) → t ≡ EntryNumber n → own_number_read n s ≡ Some out → Makes (Called t) s out
makes_own_number t n s out q e =
    subst (λ t. Makes (Called t) s out) (sym q) (record { does = λ p types. does_own_number p types n s out e })

pub makes_own_text : (t : Target) (n : ℕ) (s : State) (out : List State) → t ≡ EntryText n → own_text_read n s ≡ Some out → Makes (Called t) s out
makes_own_text t n s out q e =
    subst (λ t. Makes (Called t) s out) (sym q) (record { does = λ p types. does_own_text p types n s out e })

pub makes_global_number : (t : Target) (n : ℕ) (s : State) (out : List State) → t ≡ GlobalNumber n → global_number_read n s ≡ out → Makes (Called t) s out
makes_global_number t n s out q e =
    subst (λ t. Makes (Called t) s out) (sym q)
    (record { does = λ p types. subst (Does p types (Called (GlobalNumber n)) s) e (does_global_number p types n s) })

pub makes_global_text : (t : Target) (n : ℕ) (s : State) (out : List State) → t ≡ GlobalText n → global_text_read n s ≡ out → Makes (Called t) s out
makes_global_text t n s out q e =
    subst (λ t. Makes (Called t) s out) (sym q)
    (record { does = λ p types. subst (Does p types (Called (GlobalText n)) s) e (does_global_text p types n s) })

pub makes_cite : (b : Primitive) (s : State) (out : List State) → b ≡ builtin.Cite → entry_text_read s ≡ Some out → Makes (Called (Builtin b)) s out
makes_cite b s out q e =
    subst (λ b. Makes (Called (Builtin b)) s out) (sym q) (record { does = λ p types. does_cite p types s out e })

pub makes_type : (b : Primitive) (s : State) (out : List State) → b ≡ builtin.Type → entry_text_read s ≡ Some out → Makes (Called (Builtin b)) s out
makes_type b s out q e =
    subst (λ b. Makes (Called (Builtin b)) s out) (sym q) (record { does = λ p types. does_type p types s out e })

pub makes_assign : (s t : State) (out : List State) → assigning s.stack s ≡ Some t → out ≡ t ∷ [] → Makes (Called (Builtin builtin.Assign)) s out
makes_assign s t out e q =
    record { does = λ p types. subst (Does p types (Called (Builtin builtin.Assign)) s) (sym q) (does_assign p types s t e) }

pub makes_double : (b : Primitive) (s : State) (out : List State) → b ≡ builtin.Duplicate → doubled s.stack s ≡ Some out → Makes (Called (Builtin b)) s out
makes_double b s out q e =
    subst (λ b. Makes (Called (Builtin b)) s out) (sym q) (record { does = λ p types. does_double p types s out e })

pub makes_same : (b d : Primitive) (s : State) (out : List State) → b ≡ d → Makes (Called (Builtin d)) s out → Makes (Called (Builtin b)) s out
makes_same b d s out q m = subst (λ b. Makes (Called (Builtin b)) s out) (sym q) m

pub makes_basic : (b : Primitive) (s t : State) (ks : List Known) (out : List State) → stack_after b s.stack ≡ Some ks → t ≡ holding ks s → out ≡ t ∷ [] → Makes (Called (Builtin b)) s out
makes_basic b s t ks out e i q =
    record { does = λ p types. subst (Does p types (Called (Builtin b)) s) (sym (q ∙ ap (λ t. t ∷ []) i)) (does_basic p types b s ks e) }

number_seen : (n : ℤ) → element_of (ops.Number n) ≡ Amount n
number_seen n = ap element_of (sym (ops.rolls-Number n)) ∙ fold-roll-Op Element element_step (shape.Number n)

words_seen : (t : List ℕ) → element_of (ops.Text t) ≡ Words t
words_seen t = ap element_of (sym (ops.rolls-Text t)) ∙ fold-roll-Op Element element_step (shape.Text t)

quote_seen : (t : Target) → element_of (ops.Quote t) ≡ Quoted t
quote_seen t = ap element_of (sym (ops.rolls-Quote t)) ∙ fold-roll-Op Element element_step (shape.Quote t)

braces_seen : (inner : Vec Op Global) → element_of (ops.Block inner) ≡ Braced (ops_body inner.items)
braces_seen inner = ap element_of (sym (ops.rolls-Block inner)) ∙ fold-roll-Op Element element_step (shape.Block inner)

pushed_seen : (o : Op) (e : Element) (k : Known) → element_of o ≡ e → Pushes e k → Pushes (element_of o) k
pushed_seen o e k q h = subst (λ e. Pushes e k) (sym q) h

pub pushes_number : (o : Op) (n m : ℤ) (r : Range) → o ≡ ops.Number n → m ≡ n → r ≡ exactly m → Pushes (element_of o) (Number r)
pushes_number o n m r q i j =
    pushed_seen o (Amount n) (Number r) (ap element_of q ∙ number_seen n)
    (subst (λ r. Pushes (Amount n) (Number r)) (sym (j ∙ ap exactly i)) (record { does = λ p types. does_number p types n }))

pub pushes_words : (o : Op) (t : List ℕ) (m : May) → o ≡ ops.Text t → m ≡ literal t → Pushes (element_of o) (Text m)
pushes_words o t m q i =
    pushed_seen o (Words t) (Text m) (ap element_of q ∙ words_seen t)
    (subst (λ m. Pushes (Words t) (Text m)) (sym i) (record { does = λ p types. does_words p types t }))

pub pushes_quote : (o : Op) (t : Target) → o ≡ ops.Quote t → Pushes (element_of o) (Run (Name t))
pushes_quote o t q =
    pushed_seen o (Quoted t) (Run (Name t)) (ap element_of q ∙ quote_seen t) (record { does = λ p types. does_quote p types t })

pub pushes_braces : (o : Op) (inner : Vec Op Global) (l : List Op) → o ≡ ops.Block inner → l ≡ inner.items → Pushes (element_of o) (Run (Block (ops_body l)))
pushes_braces o inner l q i =
    pushed_seen o (Braced (ops_body inner.items)) (Run (Block (ops_body l))) (ap element_of q ∙ braces_seen inner)
    (subst (λ l. Pushes (Braced (ops_body inner.items)) (Run (Block (ops_body l)))) (sym i) (record { does = λ p types. does_braces p types (ops_body inner.items) }))

-- after a loop's test

some_if_in : (types : List ℕ) (b : Bool) (s : State) (us : List State) → Covers types (some_if b s) us → b ≡ true → Covers types (s ∷ []) us
some_if_in types true s us c q = c
some_if_in types false s us c q = absurd (true≢false (sym q))

pub some_if_is : (f : Range → Range) (b : Bool) (q r : Range) (x y : State) (l : List State) → l ≡ some_if b x → b ≡ is_open q → q ≡ f r → x ≡ y → l ≡ some_if (is_open (f r)) y
some_if_is f b q r x y l e h i j =
    e ∙ ap (λ b. some_if b x) (h ∙ ap is_open i) ∙ ap (some_if (is_open (f r))) j

turns_on : (types : List ℕ) (goes ends goes' ends' : List State) → Covers types goes goes' → Covers types ends ends' → (s : State) → Turns types goes ends s → Turns types goes' ends' s
turns_on types goes ends goes' ends' c d s u =
    record {
      range = u.range;
      below = u.below;
      stack = u.stack;
      above = λ e w h. c w (u.above e w h);
      upto = λ e w h. d w (u.upto e w h);
    }

pub no_splits : (goes ends : List State) → Splits [] goes ends
no_splits goes ends = record { turns = λ types. tt }

pub one_more_split : (mids : List State) (s : State) (goes ends goes' ends' : List State) → Splits mids goes ends → SplitsOff s goes ends goes' ends' → Splits (mids ++ s ∷ []) goes' ends'
one_more_split mids s goes ends goes' ends' h o =
    let above = some_if (is_open (above_zero o.range)) (holding o.below s) in
    let upto = some_if (is_open (upto_zero o.range)) (holding o.below s) in
    record {
      turns = λ types.
          let go : Covers types goes goes' = subst (Covers types goes) (sym o.goes_is) (left_of types goes above) in
          let end : Covers types ends ends' = subst (Covers types ends) (sym o.ends_is) (left_of types ends upto) in
          let goes_new : Covers types above goes' = subst (Covers types above) (sym o.goes_is) (right_of types goes above) in
          let ends_new : Covers types upto ends' = subst (Covers types upto) (sym o.ends_is) (right_of types ends upto) in
          each_more (Turns types goes' ends') mids s
          (each_mapped (Turns types goes ends) (Turns types goes' ends') mids (turns_on types goes ends goes' ends' go end) (h.turns types))
          (record {
            range = o.range;
            below = o.below;
            stack = o.stack;
            above = some_if_in types (is_open (above_zero o.range)) (holding o.below s) goes' goes_new;
            upto = some_if_in types (is_open (upto_zero o.range)) (holding o.below s) ends' ends_new;
          });
    }

module _ (p : Program) (types : List ℕ) where
  does_on : (e : Element) (ts us : List State) → Covers types ts us → (s : State) → Does p types e s ts → Does p types e s us
  does_on e ts us c s d deep w k h = end_more p types ts us (act p (eval_within p deep) e w k) c (d deep w k h)

  leads_on : (b : Body) (ss ts us : List State) → Leads p types b ss ts → Covers types ts us → Leads p types b ss us
  leads_on b ss ts us l c = lead_more p types b ss ss ts us (same_in types ss) l c

  -- bodies

  pub follows_then : (e : Element) (rest : Body) (ss ts us vs : List State) → Acts p types e ss ts → Covered ts us → Follows p types rest us vs → Follows p types (Then e rest) ss vs
  follows_then e rest ss ts us vs a c f =
      record { leads = lead_then p types e rest ss ts vs a.each (lead_more p types rest us ts vs vs (c.covers types) f.leads (same_in types vs)) }

  pub continues_start : (b : Body) (ss : List State) → Continues p types b b ss ss
  continues_start b ss = record { continues = λ ts l. l }

  pub continues_more : (ops : List Op) (k : ℕ) (op : Op) (whole : Body) (start now after next : List State) → k < length ops → op ≡ get_or ops k op → Acts p types (element_of op) now after → Covered after next → Continues p types (ops_body (drop k ops)) whole now start → Continues p types (ops_body (drop (k + 1) ops)) whole next start
  continues_more ops k op whole start now after next h q a c g =
      let cut : drop k ops ≡ op ∷ drop (k + 1) ops = drop_more ops k op h ∙ ap (λ x. x ∷ drop (k + 1) ops) (sym q) in
      record {
        continues = λ ts l. g.continues ts (subst (λ l. Leads p types (ops_body l) now ts) (sym cut) (follows_then (element_of op) (ops_body (drop (k + 1) ops)) now after next ts a c (record { leads = l })).leads);
      }

  pub continues_end : (ops : List Op) (k : ℕ) (whole : Body) (start now : List State) → length ops ≤ k → Continues p types (ops_body (drop k ops)) whole now start → Follows p types whole start now
  continues_end ops k whole start now h g =
      record { leads = g.continues now (subst (λ l. Leads p types (ops_body l) now now) (sym (drop_all k ops h)) (lead_end p types now)) }

  pub follows_name : (t : Target) (ss ts : List State) → Acts p types (Called t) ss ts → Follows p types (code_body (Name t)) ss ts
  follows_name t ss ts a = record { leads = lead_then p types (Called t) End ss ts ts a.each (lead_end p types ts) }

  -- elements, from each of some states

  calls_each : (n : ℕ) (ss all ts : List State) → Covers types ss all → Leads p types (function_body p.functions n) all ts → ForEach (λ s. Does p types (Called (Function n)) s ts) ss
  calls_each n [] all ts c l = tt
  calls_each n (s ∷ ss) all ts c l =
      (does_call p types n s ts (λ deep w k h. l deep w k (c w (first s ss w h))), calls_each n ss all ts (λ w h. c w (inr h)) l)
    where
      first : (s : State) (ss : List State) (w : World) → Among types (s ∷ []) w → Among types (s ∷ ss) w
      first s ss w (inl h) = inl h
      first s ss w (inr h) = absurd h

  pub acts_function : (n : ℕ) (ss ts : List State) → Follows p types (function_body p.functions n) ss ts → Acts p types (Called (Function n)) ss ts
  acts_function n ss ts f = record { each = calls_each n ss ss ts (same_in types ss) f.leads }

  pub acts_none : (e : Element) (ts : List State) → Acts p types e [] ts
  acts_none e ts = record { each = tt }

  pub acts_more : (e : Element) (ss : List State) (s : State) (ts us : List State) → Acts p types e ss ts → Acts p types e (s ∷ []) us → Acts p types e (ss ++ s ∷ []) (ts ++ us)
  acts_more e ss s ts us a b =
      record {
        each = each_more (λ s. Does p types e s (ts ++ us)) ss s
            (each_mapped (λ s. Does p types e s ts) (λ s. Does p types e s (ts ++ us)) ss (does_on e ts (ts ++ us) (left_of types ts us)) a.each)
            (does_on e us (ts ++ us) (right_of types ts us) s b.each.0);
      }

  pub acts_makes : (e : Element) (s : State) (ts : List State) → Makes e s ts → Acts p types e (s ∷ []) ts
  acts_makes e s ts m = record { each = (m.does p types, tt) }

  pushes_each : (e : Element) (k : Known) (ss : List State) → Pushes e k → ForEach (λ s. Does p types e s (map (pushing k) ss)) ss
  pushes_each e k [] m = tt
  pushes_each e k (s ∷ ss) m = (
    does_on e (pushing k s ∷ []) (pushing k s ∷ map (pushing k) ss) (left_of types (pushing k s ∷ []) (map (pushing k) ss)) s (m.does p types s),
    each_mapped (λ s. Does p types e s (map (pushing k) ss)) (λ t. Does p types e t (pushing k s ∷ map (pushing k) ss)) ss (does_on e (map (pushing k) ss) (pushing k s ∷ map (pushing k) ss) (λ w h. inr h)) (pushes_each e k ss m),
  )

  pub acts_pushes : (e : Element) (k : Known) (ss ts : List State) → Pushes e k → ts ≡ map (pushing k) ss → Acts p types e ss ts
  acts_pushes e k ss ts m q = subst (Acts p types e ss) (sym q) (record { each = pushes_each e k ss m })

  pub acts_called : (o : Op) (t : Target) (ss ts : List State) → o ≡ ops.Call t → Acts p types (Called t) ss ts → Acts p types (element_of o) ss ts
  acts_called o t ss ts q a = subst (λ e. Acts p types e ss ts) (sym (ap element_of q ∙ call_seen t)) a

  pub acts_body : (t : Target) (n : ℕ) (b : Body) (ss ts : List State) → t ≡ Function n → b ≡ function_body p.functions n → Follows p types b ss ts → Acts p types (Called t) ss ts
  acts_body t n b ss ts q e f =
      subst (λ t. Acts p types (Called t) ss ts) (sym q) (acts_function n ss ts (subst (λ b. Follows p types b ss ts) e f))

  pub acts_name : (t u : Target) (ss ts : List State) → t ≡ u → Acts p types (Called u) ss ts → Acts p types (Called t) ss ts
  acts_name t u ss ts q a = subst (λ t. Acts p types (Called t) ss ts) (sym q) a

  pub acts_builtin : (b d : Primitive) (ss ts : List State) → b ≡ d → Acts p types (Called (Builtin d)) ss ts → Acts p types (Called (Builtin b)) ss ts
  acts_builtin b d ss ts q a = subst (λ b. Acts p types (Called (Builtin b)) ss ts) (sym q) a

  pub follows_code : (c d : HeldCode) (ss ts : List State) → c ≡ d → Follows p types (code_body (code_seen d)) ss ts → Follows p types (code_body (code_seen c)) ss ts
  follows_code c d ss ts q f = subst (λ c. Follows p types (code_body (code_seen c)) ss ts) (sym q) f

  -- `if$`

  chosen_from : (b : Bool) (c : Code) (s : State) (ss ts us : List State) → ss ≡ some_if b s → Leads p types (code_body c) ss ts → Covers types ts us → b ≡ true → Leads p types (code_body c) (s ∷ []) us
  chosen_from true c s ss ts us q l i e = leads_on (code_body c) (s ∷ []) ts us (subst (λ ss. Leads p types (code_body c) ss ts) q l) i
  chosen_from false c s ss ts us q l i e = absurd (true≢false (sym e))

  pub acts_if : (s : State) (c d : Code) (above upto ts us : List State) → Chooses s c d above upto → Follows p types (code_body c) above ts → Follows p types (code_body d) upto us → Acts p types (Called (Builtin builtin.If)) (s ∷ []) (ts ++ us)
  acts_if s c d above upto ts us h f g =
      let go = does_if p types c d h.range h.below s (ts ++ us)
      (chosen_from (is_open (above_zero h.range)) c (holding h.below s) above ts (ts ++ us) h.above_is f.leads (left_of types ts us))
      (chosen_from (is_open (upto_zero h.range)) d (holding h.below s) upto us (ts ++ us) h.upto_is g.leads (right_of types ts us)) in
      record { each = (subst (λ ks. Does p types (Called (Builtin builtin.If)) (holding ks s) (ts ++ us)) (sym h.stack) go, tt) }

  -- `while$`

  pub turned : (test body : Code) (heads mids goes joined back ends : List State) → Follows p types (code_body test) heads mids → Splits mids goes ends → Covered goes joined → Follows p types (code_body body) joined back → Turned p types test body heads back ends
  turned test body heads mids goes joined back ends f s c g =
      record {
        mids = mids;
        goes = goes;
        tests = f.leads;
        splits = s.turns types;
        again = lead_more p types (code_body body) joined goes back back (c.covers types) g.leads (same_in types back);
      }

  pub acts_while : (s : State) (test body : Code) (first heads back ends : List State) → Loops s test body first → Turned p types test body heads back ends → Covered first heads → Covered back heads → Acts p types (Called (Builtin builtin.While)) (s ∷ []) ends
  acts_while s test body first heads back ends l t c d =
      let begins : Covers types (holding l.below s ∷ []) heads = subst (λ ss. Covers types ss heads) l.first_is (c.covers types) in
      let go = does_while p types test body l.below s heads t.mids t.goes ends begins t.tests t.splits (leads_on (code_body body) t.goes back heads t.again (d.covers types)) in
      record { each = (subst (λ ks. Does p types (Called (Builtin builtin.While)) (holding ks s) ends) (sym l.stack) go, tt) }

  -- `call.type$`

  default_on : (o : Option ℕ) (s : State) (ts us : List State) → Covers types ts us → DefaultLeads p types o s ts → DefaultLeads p types o s us
  default_on None s ts us c d = λ w h. c w (d w h)
  default_on (Some n) s ts us c d = leads_on (function_body p.functions n) (s ∷ []) ts us d c

  pub no_default : (s : State) (ts : List State) → default_type p.functions ≡ None → ts ≡ s ∷ [] → FollowsTypes p types [] s ts
  no_default s ts e q =
      record { default = subst (λ o. DefaultLeads p types o s ts) (sym e) (subst (Covers types (s ∷ [])) (sym q) (same_in types (s ∷ []))); each = tt }

  pub some_default : (n : ℕ) (s : State) (ss ts : List State) → default_type p.functions ≡ Some n → ss ≡ s ∷ [] → Follows p types (function_body p.functions n) ss ts → FollowsTypes p types [] s ts
  some_default n s ss ts e q f =
      record { default = subst (λ o. DefaultLeads p types o s ts) (sym e) (subst (λ ss. Leads p types (function_body p.functions n) ss ts) q f.leads); each = tt }

  pub one_more_type : (ns : List ℕ) (n : ℕ) (s : State) (ss ts us : List State) → FollowsTypes p types ns s ts → ss ≡ s ∷ [] → Follows p types (function_body p.functions n) ss us → FollowsTypes p types (ns ++ n ∷ []) s (ts ++ us)
  one_more_type ns n s ss ts us h q f =
      let l = λ (n : ℕ) (ts : List State). Leads p types (function_body p.functions n) (s ∷ []) ts in
      record {
        default = default_on (default_type p.functions) s ts (ts ++ us) (left_of types ts us) h.default;
        each = each_more (λ n. l n (ts ++ us)) ns n
            (each_mapped (λ n. l n ts) (λ n. l n (ts ++ us)) ns (λ n i. leads_on (function_body p.functions n) (s ∷ []) ts (ts ++ us) i (left_of types ts us)) h.each)
            (leads_on (function_body p.functions n) (s ∷ []) us (ts ++ us) (subst (λ ss. Leads p types (function_body p.functions n) ss us) q f.leads) (right_of types ts us));
      }

  types_by : (o : Option KnownEntry) (s : State) (ts : List State) → s.entry ≡ o → is_none o ≡ false → FollowsTypes p types types s ts → Acts p types (Called (Builtin builtin.CallType)) (s ∷ []) ts
  types_by None s ts e q f = absurd (true≢false q)
  types_by (Some k) s ts e q f = record { each = (does_call_type p types s k e ts f.each f.default, tt) }

  pub acts_types : (s : State) (ts : List State) → is_none s.entry ≡ false → FollowsTypes p types types s ts → Acts p types (Called (Builtin builtin.CallType)) (s ∷ []) ts
  acts_types s ts q f = types_by s.entry s ts refl q f

  -- commands

  pub step_leads : (s : State) (t : Target) (ss ts : List State) → ss ≡ s ∷ [] → Acts p types (Called t) ss ts → ForEach (λ s. s.stack ≡ []) ts → StepLeads p types s t ts
  step_leads s t ss ts q a b =
      record { leads = subst (λ ss. Leads p types (Then (Called t) End) ss ts) q (follows_name t ss ts a).leads; bare = b }

  pub call_checked : (own : Bool) (s : State) (t : Target) (k l : KnownVariables) (ts : List State) → s ≡ before_step p own k → StepLeads p types s t ts → GlobalsWithin ts l → IsChecked p types own t k l
  call_checked own s t k l ts q h g =
      record { states = ts; leads = subst (λ s. Leads p types (Then (Called t) End) (s ∷ []) ts) q h.leads; bare = h.bare; within = g.within }

  pub command_start : (cs : List Command) (k : KnownVariables) → CommandsContinue p types cs cs k k
  command_start cs k = record { continues = λ h. h }

  pub command_more : (cs : List Command) (n : ℕ) (c : Command) (whole : List Command) (start now after : KnownVariables) → n < length cs → CommandLeads p types (get_or cs n c).action now after → CommandsContinue p types (drop n cs) whole now start → CommandsContinue p types (drop (n + 1) cs) whole after start
  command_more cs n c whole start now after h l g =
      record { continues = λ r. g.continues (subst (λ ds. AreChecked p types ds now) (sym (drop_more cs n c h)) (after, l.checked, r)) }

  pub command_end : (cs : List Command) (n : ℕ) (whole : List Command) (start now : KnownVariables) → length cs ≤ n → CommandsContinue p types (drop n cs) whole now start → CommandsLead p types whole start
  command_end cs n whole start now h g =
      record { checked = g.continues (subst (λ ds. AreChecked p types ds now) (sym (drop_all n cs h)) tt) }

  pub all_checked : (start : KnownVariables) → variables_within (first_known p) start ≡ true → CommandsLead p types p.commands start → Promises p types
  all_checked start b h = checked_promises p types (record { start = start; begins = b; checked = h.checked })
