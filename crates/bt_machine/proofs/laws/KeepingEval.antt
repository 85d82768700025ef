-- An evaluation keeps what each of its elements keeps, where every function may be pushed.
use Rattle.std.proofs.Common.{ℕ, zero, suc, ◌+◌, List, [], ◌∷◌, length, Option, Some, None}
use Rattle.std.specs.Prelude.{ℤ, pos, negsuc, slice_index_or}
use Rattle.std.specs.Option.{option_or}
use Rattle.bt_style.specs.declared.builtin.Builtin.{Builtin as Primitive}
use Rattle.bt_style.specs.declared.builtin.Builtin.TheVariants as builtin
use Rattle.bt_style.specs.declared.style.Target.TheVariants.{Builtin, Field, EntryNumber, EntryText, GlobalNumber, GlobalText, Function}
use Rattle.bt_style.specs.Tree.{Element, Amount, Words, Quoted, Braced, Called, Body, End, Then}
use Rattle.bt_style.specs.Program.{Program}
use Rattle.bt_actions.specs.declared.entry.Entry.{Entry}
use Rattle.bt_actions.specs.Item.{Code, Item, Num, Txt, Fun, Name, Block}
use Rattle.bt_actions.specs.World.{World, Act, Goes, Stops, entry_of}
use Rattle.bt_actions.specs.State.{pushed}
use Rattle.bt_actions.specs.Arguments.{as_number, as_code, taken, taken_two, taken_three}
use Rattle.bt_actions.specs.Given.{zero_item, empty_item}
use Rattle.bt_actions.specs.Operands.{of_entry, field_at, number_at, text_at}
use Rattle.bt_actions.specs.Actions.{basic}
use Rattle.bt_machine.specs.Eval.{Counts, Ending, Done, Stopped, Runner, then_go, acted, code_body, default_type, function_body, run_type, by_sign, turn, turns, run_with, built_in, act, calls_after, eval_within}
use Rattle.bt_machine.specs.inner.Cases.{checked}
use Rattle.bt_machine.proofs.Keeping.{Kept, IsKept, ActKept, pushed_kept, taken_kept, taken_two_kept, taken_three_kept, of_entry_kept, field_kept, basic_kept}

module _ (kept : Kept) (codes : (c : Code) → kept.Pushed (Fun c)) where
  -- an evaluation leaves such a world
  abbrev pub EndKept : Ending → Type 0
  EndKept (Done w k) = IsKept kept w
  EndKept (Stopped w k) = IsKept kept w

  abbrev pub GoKept : (World → Counts → Ending) → Type 0
  GoKept go = (w : World) (k : Counts) → IsKept kept w → EndKept (go w k)

  acted_kept : (a : Act) (k : Counts) → ActKept kept a → EndKept (acted a k)
  acted_kept (Goes w) k h = h
  acted_kept (Stops w) k h = h

  then_kept : (o : Ending) (go : World → Counts → Ending) → EndKept o → GoKept go → EndKept (then_go o go)
  then_kept (Done w k) go h f = f w k h
  then_kept (Stopped w k) go h f = h

  turn_kept : (o : Option ℤ) (w : World) (k : Counts) (body again : World → Counts → Ending) → IsKept kept w → GoKept body → GoKept again → EndKept (turn (o, w) k body again)
  turn_kept None w k body again h b a = h
  turn_kept (Some (pos zero)) w k body again h b a = h
  turn_kept (Some (pos (suc n))) w k body again h b a = then_kept (body w k) again (b w k h) a
  turn_kept (Some (negsuc n)) w k body again h b a = h

  turns_kept : (m : ℕ) (test body : World → Counts → Ending) → GoKept test → GoKept body → GoKept (turns m test body)
  turns_kept zero test body t b w k h = h
  turns_kept (suc m) test body t b w k h =
      then_kept (test w k) _ (t w k h) (λ w k h. turn_kept (taken builtin.While as_number w).0 (taken builtin.While as_number w).1 k body (turns m test body) (taken_kept kept builtin.While as_number w h) b (turns_kept m test body t b))

  module _ (p : Program) (run : Runner) (f : (b : Body) → GoKept (run b)) where
    with_kept : {A : Type 0} (g : A → World → Counts → Ending) (o : Option A) (w : World) (k : Counts) → IsKept kept w → ((a : A) → GoKept (g a)) → EndKept (run_with g (o, w) k)
    with_kept g None w k h i = h
    with_kept g (Some a) w k h i = i a w k h

    type_kept : (o : Option Entry) (w : World) (k : Counts) → IsKept kept w → EndKept (run_type p.functions run o w k)
    type_kept None w k h = h
    type_kept (Some e) w k h =
        with_kept _ (option_or e.function (default_type p.functions)) w k h (λ n. f (function_body p.functions n))

    built_in_kept : (b : Primitive) → GoKept (built_in p run b)
    built_in_kept builtin.CallType w k h = type_kept (entry_of w) w k h
    built_in_kept builtin.If w k h =
        let t = taken_three builtin.If as_number as_code as_code w in
        with_kept _ t.0 t.1 k (taken_three_kept kept builtin.If as_number as_code as_code w h) (λ q. f (code_body (by_sign q.0 q.1 q.2)))
    built_in_kept builtin.While w k h =
        let t = taken_two builtin.While as_code as_code w in
        with_kept _ t.0 t.1 k (taken_two_kept kept builtin.While as_code as_code w h) (λ q w k h. turns_kept (suc (k.0 + length w.stack)) (run (code_body q.0)) (run (code_body q.1)) (f (code_body q.0)) (f (code_body q.1)) w k h)
    built_in_kept b w k h = acted_kept (basic p b w) k (basic_kept kept p b w h)

    act_kept : (e : Element) → GoKept (act p run e)
    act_kept (Amount n) w k h = acted_kept (pushed (Num n) w) k (pushed_kept kept (Num n) w (kept.numbers n) h)
    act_kept (Words t) w k h = acted_kept (pushed (Txt t) w) k (pushed_kept kept (Txt t) w (kept.texts t) h)
    act_kept (Quoted t) w k h = acted_kept (pushed (Fun (Name t)) w) k (pushed_kept kept (Fun (Name t)) w (codes (Name t)) h)
    act_kept (Braced b) w k h = acted_kept (pushed (Fun (Block b)) w) k (pushed_kept kept (Fun (Block b)) w (codes (Block b)) h)
    act_kept (Called (Builtin b)) w k h = built_in_kept b w k h
    act_kept (Called (Field n)) w k h = acted_kept (of_entry (field_at n) empty_item w) k (of_entry_kept kept (field_at n) empty_item w (field_kept kept n) (kept.texts []) h)
    act_kept (Called (EntryNumber n)) w k h = acted_kept (of_entry (number_at n) zero_item w) k (of_entry_kept kept (number_at n) zero_item w (λ e. kept.numbers _) (kept.numbers (pos 0)) h)
    act_kept (Called (EntryText n)) w k h = acted_kept (of_entry (text_at n) empty_item w) k (of_entry_kept kept (text_at n) empty_item w (λ e. kept.texts _) (kept.texts []) h)
    act_kept (Called (GlobalNumber n)) w k h =
        let z = slice_index_or w.globals.numbers n (pos 0) in
        acted_kept (pushed (Num z) w) k (pushed_kept kept (Num z) w (kept.numbers z) h)
    act_kept (Called (GlobalText n)) w k h =
        let t = slice_index_or w.globals.texts n [] in
        acted_kept (pushed (Txt t) w) k (pushed_kept kept (Txt t) w (kept.texts t) h)
    act_kept (Called (Function n)) w k h = f (function_body p.functions n) w k h

  -- a body
  pub eval_kept : (p : Program) (deep : ℕ) (b : Body) → GoKept (eval_within p deep b)
  unfolding eval_within
  eval_kept p deep End w k h = h
  eval_kept p deep (Then e rest) w (zero, calls) h = h
  eval_kept p zero (Then e rest) w (suc k, calls) h = h
  eval_kept p (suc deep) (Then e rest) w (suc k, calls) h =
      then_kept _ (eval_within p deep rest) (act_kept p (eval_within p deep) (eval_kept p deep) e w (k, calls_after e calls) h) (eval_kept p deep rest)

  pub checked_kept : (vs : List Item) (w : World) → IsKept kept w → IsKept kept (checked vs w)
  checked_kept [] w h = h
  checked_kept (v ∷ vs) w h = h
