-- An evaluation does the same at two places of an entry.
use Rattle.std.proofs.Common.{◌≡◌, ℕ, zero, suc, ◌+◌, ◌-◌, Bool, true, false, List, [], ◌∷◌, length, Option, Some, None, refl, ap, subst}
use Rattle.std.specs.Prelude.{ℤ, pos, negsuc, slice_index_or}
use Rattle.std.specs.Option.{option_or}
use Rattle.bt_style.specs.declared.builtin.Builtin.{Builtin as Primitive}
use Rattle.bt_style.specs.declared.builtin.Builtin.TheVariants as builtin
use Rattle.bt_style.specs.declared.style.Target.TheVariants.{Builtin, Field, EntryNumber, EntryText, GlobalNumber, GlobalText, Function}
use Rattle.bt_style.specs.Tree.{Element, Amount, Words, Quoted, Braced, Called, Body, End, Then}
use Rattle.bt_style.specs.Program.{Program}
use Rattle.bt_actions.specs.declared.entry.Entry.{Entry}
use Rattle.bt_actions.specs.declared.complaint.Complaint.TheVariants.{NoEntry, LeftOver, TicksPassed}
use Rattle.bt_actions.specs.Item.{Code, Item, Num, Txt, Fun, Name, Block}
use Rattle.bt_actions.specs.World.{World, Act, Goes, Stops}
use Rattle.bt_actions.specs.State.{pushed}
use Rattle.bt_actions.specs.Arguments.{as_number, as_code, taken}
use Rattle.bt_actions.specs.Given.{zero_item, empty_item}
use Rattle.bt_actions.specs.Operands.{of_entry, field_at, number_at, text_at}
use Rattle.bt_actions.specs.Actions.{basic}
use Rattle.bt_machine.specs.Eval.{Counts, Ending, Done, Stopped, Runner, then_go, acted, code_body, default_type, function_body, run_type, by_sign, turn, turns, looped, run_with, built_in, act, calls_after, eval_within}
use Rattle.bt_machine.specs.Step.{tick_limit, Finish, finished_at}
use Rattle.bt_machine.specs.inner.Cases.{checked, rested, finish_of}
use Rattle.bt_machine.proofs.Places.{Part, Place, embed, WorldsAlike, ActsAlike, same_part, on_alike, on_pairs, say_alike, taken_alike, taken_two_alike, taken_three_alike, by_entry, of_entry_alike, pushed_alike, basic_alike}

module _ (e : Option Entry) (pre : List ℕ) (P P' : Place e) where
  -- evaluations that leave such worlds and equal counts
  abbrev pub EndingsAlike : Ending → Ending → Type 0
  EndingsAlike (Done w k) (Done w' k') = (WorldsAlike e pre P P') w w' × (k ≡ k')
  EndingsAlike (Done w k) (Stopped w' k') = ⊥
  EndingsAlike (Stopped w k) (Done w' k') = ⊥
  EndingsAlike (Stopped w k) (Stopped w' k') = (WorldsAlike e pre P P') w w' × (k ≡ k')

  -- an action
  acted_alike : (a a' : Act) (k : Counts) → (ActsAlike e pre P P') a a' → EndingsAlike (acted a k) (acted a' k)
  acted_alike (Goes w) (Goes w') k h = (h, refl)
  acted_alike (Goes w) (Stops w') k h = elim h [ ]
  acted_alike (Stops w) (Goes w') k h = elim h [ ]
  acted_alike (Stops w) (Stops w') k h = (h, refl)

  -- the same from every part
  abbrev pub GoAlike : (World → Counts → Ending) → Type 0
  GoAlike go = (s : Part) (k : Counts) → EndingsAlike (go (embed e pre P s) k) (go (embed e pre P' s) k)

  -- the same at worlds alike
  go_at : (go : World → Counts → Ending) (w w' : World) (k : Counts) → GoAlike go → (WorldsAlike e pre P P') w w' → EndingsAlike (go w k) (go w' k)
  go_at go w w' k f h = (on_alike e pre P P') (λ w w'. EndingsAlike (go w k) (go w' k)) w w' h (λ s. f s k)

  -- two runs, one after the other
  then_alike : (o o' : Ending) (go : World → Counts → Ending) → EndingsAlike o o' → GoAlike go → EndingsAlike (then_go o go) (then_go o' go)
  then_alike (Done w k) (Done w' k') go h f = subst (λ j. EndingsAlike (go w k) (go w' j)) h.1 (go_at go w w' k f h.0)
  then_alike (Done w k) (Stopped w' k') go h f = elim h [ ]
  then_alike (Stopped w k) (Done w' k') go h f = elim h [ ]
  then_alike (Stopped w k) (Stopped w' k') go h f = h

  -- a turn of a loop
  turn_alike : (o : Option ℤ) (s : Part) (k : Counts) (body again : World → Counts → Ending) → GoAlike body → GoAlike again → EndingsAlike (turn (o, embed e pre P s) k body again) (turn (o, embed e pre P' s) k body again)
  turn_alike None s k body again b a = ((same_part e pre P P') s, refl)
  turn_alike (Some (pos zero)) s k body again b a = ((same_part e pre P P') s, refl)
  turn_alike (Some (pos (suc n))) s k body again b a = then_alike _ _ again (b s k) a
  turn_alike (Some (negsuc n)) s k body again b a = ((same_part e pre P P') s, refl)

  turns_alike : (m : ℕ) (test body : World → Counts → Ending) → GoAlike test → GoAlike body → GoAlike (turns m test body)
  turns_alike zero test body t b s k = ((same_part e pre P P') s, refl)
  turns_alike (suc m) test body t b s k =
      then_alike _ _ (λ w k. turn (taken builtin.While as_number w) k body (turns m test body)) (t s k) (λ s k. (on_pairs e pre P P') EndingsAlike (λ q. turn q k body (turns m test body)) _ _ ((taken_alike e pre P P') builtin.While as_number s) (λ o s. turn_alike o s k body (turns m test body) b (turns_alike m test body t b)))

  module _ (p : Program) (run : Runner) (f : (b : Body) → GoAlike (run b)) where
    -- functions that run others

    with_alike : {A : Type 0} (g : A → World → Counts → Ending) → ((a : A) → GoAlike (g a)) → (o : Option A) (s : Part) (k : Counts) → EndingsAlike (run_with g (o, embed e pre P s) k) (run_with g (o, embed e pre P' s) k)
    with_alike g h None s k = ((same_part e pre P P') s, refl)
    with_alike g h (Some a) s k = h a s k

    type_alike : (o : Option Entry) (s : Part) (k : Counts) → EndingsAlike (run_type p.functions run o (embed e pre P s) k) (run_type p.functions run o (embed e pre P' s) k)
    type_alike None s k = ((say_alike e pre P P') NoEntry s, refl)
    type_alike (Some d) s k =
        with_alike _ (λ n. f (function_body p.functions n)) (option_or d.function (default_type p.functions)) s k

    built_in_alike : (b : Primitive) → GoAlike (built_in p run b)
    built_in_alike builtin.CallType s k =
        (by_entry e pre P P') EndingsAlike (λ o w. run_type p.functions run o w k) s (λ o. type_alike o s k)
    built_in_alike builtin.If s k =
        (on_pairs e pre P P') EndingsAlike (λ q. run_with (λ (q : ℤ × Code × Code). run (code_body (by_sign q.0 q.1 q.2))) q k) _ _ ((taken_three_alike e pre P P') builtin.If as_number as_code as_code s) (λ o s. with_alike _ (λ q. f (code_body (by_sign q.0 q.1 q.2))) o s k)
    built_in_alike builtin.While s k =
        (on_pairs e pre P P') EndingsAlike (λ q. run_with (λ (q : Code × Code). looped run q.0 q.1) q k) _ _ ((taken_two_alike e pre P P') builtin.While as_code as_code s) (λ o s. with_alike _ (λ q s k. turns_alike (suc (k.0 + length s.stack)) (run (code_body q.0)) (run (code_body q.1)) (f (code_body q.0)) (f (code_body q.1)) s k) o s k)
    built_in_alike b s k =
        acted_alike (basic p b (embed e pre P s)) (basic p b (embed e pre P' s)) k ((basic_alike e pre P P') p b s)

    -- a value is pushed, in an evaluation
    pushed_at : (v : Item) (s : Part) (k : Counts) → EndingsAlike (acted (pushed v (embed e pre P s)) k) (acted (pushed v (embed e pre P' s)) k)
    pushed_at v s k = acted_alike (pushed v (embed e pre P s)) (pushed v (embed e pre P' s)) k ((pushed_alike e pre P P') v s)

    -- what the step's entry gives, in an evaluation
    of_entry_at : (value : Entry → Item) (default : Item) (s : Part) (k : Counts) → EndingsAlike (acted (of_entry value default (embed e pre P s)) k) (acted (of_entry value default (embed e pre P' s)) k)
    of_entry_at value default s k =
        acted_alike (of_entry value default (embed e pre P s)) (of_entry value default (embed e pre P' s)) k ((of_entry_alike e pre P P') value default s)

    -- an element, where what it runs is alike
    act_alike : (d : Element) → GoAlike (act p run d)
    act_alike (Amount n) s k = pushed_at (Num n) s k
    act_alike (Words t) s k = pushed_at (Txt t) s k
    act_alike (Quoted t) s k = pushed_at (Fun (Name t)) s k
    act_alike (Braced b) s k = pushed_at (Fun (Block b)) s k
    act_alike (Called (Builtin b)) s k = built_in_alike b s k
    act_alike (Called (Field n)) s k = of_entry_at (field_at n) empty_item s k
    act_alike (Called (EntryNumber n)) s k = of_entry_at (number_at n) zero_item s k
    act_alike (Called (EntryText n)) s k = of_entry_at (text_at n) empty_item s k
    act_alike (Called (GlobalNumber n)) s k = pushed_at (Num (slice_index_or s.globals.numbers n (pos 0))) s k
    act_alike (Called (GlobalText n)) s k = pushed_at (Txt (slice_index_or s.globals.texts n [])) s k
    act_alike (Called (Function n)) s k = f (function_body p.functions n) s k

  -- a body
  pub eval_alike : (p : Program) (deep : ℕ) (b : Body) → GoAlike (eval_within p deep b)
  unfolding eval_within
  eval_alike p deep End s k = ((same_part e pre P P') s, refl)
  eval_alike p deep (Then d rest) s (zero, calls) = ((say_alike e pre P P') TicksPassed s, refl)
  eval_alike p zero (Then d rest) s (suc k, calls) = ((same_part e pre P P') s, refl)
  eval_alike p (suc deep) (Then d rest) s (suc k, calls) =
      then_alike _ _ (eval_within p deep rest) (act_alike p (eval_within p deep) (eval_alike p deep) d s (k, calls_after d calls)) (eval_alike p deep rest)

  -- the stack is looked at
  checked_alike : (vs : List Item) (s : Part) → (WorldsAlike e pre P P') (checked vs (embed e pre P s)) (checked vs (embed e pre P' s))
  checked_alike [] s = (same_part e pre P P') s
  checked_alike (v ∷ vs) s = (say_alike e pre P P') LeftOver s

  -- a step leaves the same part at both places
  pub record FinishesAlike (a a' : Finish) : Type 0 where
    pub part : Part
    pub here : a.world ≡ rested (embed e pre P part)
    pub there : a'.world ≡ rested (embed e pre P' part)
    pub stopped : a.stopped ≡ a'.stopped
    pub cost : a.cost ≡ a'.cost
    pub calls : a.calls ≡ a'.calls

  -- a run's end
  finished_at_alike : (w w' : World) (b : Bool) (k k' : Counts) → (WorldsAlike e pre P P') w w' → k ≡ k' → FinishesAlike (finished_at w b k) (finished_at w' b k')
  finished_at_alike w w' b k k' h q =
      record {
        part = h.0;
        here = ap rested h.1;
        there = ap rested h.2;
        stopped = refl;
        cost = ap (λ (j : Counts). tick_limit - j.0) q;
        calls = ap (λ (j : Counts). j.1) q;
      }

  -- an evaluation's end
  pub finished_alike : (o o' : Ending) → EndingsAlike o o' → FinishesAlike (finish_of o) (finish_of o')
  finished_alike (Done w k) (Done w' k') h =
      finished_at_alike _ _ false k k' ((on_alike e pre P P') (λ w w'. (WorldsAlike e pre P P') (checked w.stack w) (checked w'.stack w')) w w' h.0 (λ s. checked_alike s.stack s)) h.1
  finished_alike (Done w k) (Stopped w' k') h = elim h [ ]
  finished_alike (Stopped w k) (Done w' k') h = elim h [ ]
  finished_alike (Stopped w k) (Stopped w' k') h = finished_at_alike w w' true k k' h.0 h.1
