-- The evaluation's equations, without a bound on how deep calls stand and on how often loops turn.
use Rattle.std.proofs.Common.{◌≡◌, ℕ, zero, suc, ◌+◌, ◌≤◌, ◌<◌, List, length, Option, Some, None, refl, ap, ◌∙◌, arith}
use Rattle.std.specs.Prelude.{ℤ, pos, negsuc}
use Rattle.std.specs.Option.{option_or}
use Rattle.bt_style.specs.declared.builtin.Builtin.{Builtin as Primitive}
use Rattle.bt_style.specs.declared.builtin.Builtin.TheVariants.{CallType, If, While}
use Rattle.bt_style.specs.declared.style.Target.TheVariants.{Builtin, Function}
use Rattle.bt_style.specs.Tree.{Element, Called, Body, End, Then}
use Rattle.bt_style.specs.Program.{Program}
use Rattle.bt_actions.specs.declared.entry.Entry.{Entry}
use Rattle.bt_actions.specs.declared.complaint.Complaint.TheVariants.{TicksPassed}
use Rattle.bt_actions.specs.Item.{Code}
use Rattle.bt_actions.specs.World.{World, entry_of, say}
use Rattle.bt_actions.specs.Arguments.{as_number, as_code, taken, taken_two, taken_three}
use Rattle.bt_machine.specs.Eval.{Counts, Ending, Done, Stopped, Runner, then_go, code_body, default_type, function_body, run_type, by_sign, turn, turns, looped, run_with, built_in, act, calls_after, eval_within, eval}
use Rattle.bt_machine.proofs.Bounds.{Shrinks, AllShrink, act_shrinks, eval_shrinks, taken_len, taken_some_len}

-- the same from everywhere with at most k ticks
abbrev Agree : ℕ → (World → Counts → Ending) → (World → Counts → Ending) → Type 0
Agree k go go' = (w : World) (j : Counts) → j.0 ≤ k → go w j ≡ go' w j

-- what goes on the same within the bounds of an ending
then_same : (o : Ending) (go go' : World → Counts → Ending) (k s : ℕ) → Shrinks k s o → ((w : World) (j : Counts) → j.0 ≤ k → j.0 + length w.stack ≤ s → go w j ≡ go' w j) → then_go o go ≡ then_go o go'
then_same (Done w j) go go' k s h f = f w j h.0 h.1
then_same (Stopped w j) go go' k s h f = refl

-- a turn of a loop, where the body and what comes after it are the same
turn_same : (o : Option ℤ) (w : World) (j : Counts) (body body' again again' : World → Counts → Ending) → AllShrink body → body w j ≡ body' w j → ((n : ℤ) → o ≡ Some n → (w' : World) (i : Counts) → i.0 ≤ j.0 → i.0 + length w'.stack ≤ j.0 + length w.stack → again w' i ≡ again' w' i) → turn (o, w) j body again ≡ turn (o, w) j body' again'
turn_same None w j body body' again again' s e f = refl
turn_same (Some (pos zero)) w j body body' again again' s e f = refl
turn_same (Some (pos (suc n))) w j body body' again again' s e f =
    then_same (body w j) again again' j.0 (j.0 + length w.stack) (s w j) (f (pos (suc n)) refl) ∙ ap (λ o. then_go o again') e
turn_same (Some (negsuc n)) w j body body' again again' s e f = refl

-- Turns of a loop, where its test and body are the same and no bound on the turns is reached: each turn that isn't the
-- last takes a value from the stack.
turns_same : (m m' : ℕ) (test test' body body' : World → Counts → Ending) (top : ℕ) → AllShrink test → AllShrink body → Agree top test test' → Agree top body body' → (w : World) (k : Counts) → k.0 ≤ top → k.0 + length w.stack < m → k.0 + length w.stack < m' → turns m test body w k ≡ turns m' test' body' w k
turns_same zero m' test test' body body' top ts bs t b w k hk h h' = absurd (omega arith)
turns_same (suc m) zero test test' body body' top ts bs t b w k hk h h' = absurd (omega arith)
turns_same (suc m) (suc m') test test' body body' top ts bs t b w k hk h h' =
    then_same (test w k) _ _ k.0 (k.0 + length w.stack) (ts w k)
    (λ w1 j hj hs. let l = taken_len While as_number w1 in turn_same (taken While as_number w1).0 (taken While as_number w1).1 j body body' (turns m test body) (turns m' test' body') bs (b (taken While as_number w1).1 j (omega arith))
    (λ n e w2 i hi hs2. let l = taken_some_len While as_number w1 n e in turns_same m m' test test' body body' top ts bs t b w2 i (omega arith) (omega arith) (omega arith)))
    ∙ ap (λ o. then_go o (λ w k. turn (taken While as_number w) k body' (turns m' test' body'))) (t w k hk)

-- an element, where what it runs is the same
module _ (p : Program) (run run' : Runner) (k : Counts) (s : (b : Body) → AllShrink (run b)) (same : (b : Body) → Agree k.0 (run b) (run' b)) where
  with_same : {A : Type 0} (f f' : A → World → Counts → Ending) (o : Option A) (w : World) → ((a : A) → f a w k ≡ f' a w k) → run_with f (o, w) k ≡ run_with f' (o, w) k
  with_same f f' None w h = refl
  with_same f f' (Some a) w h = h a

  type_same : (o : Option Entry) (w : World) → run_type p.functions run o w k ≡ run_type p.functions run' o w k
  type_same None w = refl
  type_same (Some e) w =
      with_same _ _ (option_or e.function (default_type p.functions)) w (λ n. same (function_body p.functions n) w k (omega arith))

  built_in_same : (b : Primitive) (w : World) → built_in p run b w k ≡ built_in p run' b w k
  built_in_same If w =
      let t = taken_three If as_number as_code as_code w in
      with_same _ _ t.0 t.1 (λ q. same (code_body (by_sign q.0 q.1 q.2)) t.1 k (omega arith))
  built_in_same While w =
      let t = taken_two While as_code as_code w in
      with_same _ _ t.0 t.1 (λ q. turns_same (suc (k.0 + length t.1.stack)) (suc (k.0 + length t.1.stack)) _ _ _ _ k.0 (s (code_body q.0)) (s (code_body q.1)) (same (code_body q.0)) (same (code_body q.1)) t.1 k (omega arith) (omega arith) (omega arith))
  built_in_same CallType w = type_same (entry_of w) w
  built_in_same _ w = refl

  act_same : (e : Element) (w : World) → act p run e w k ≡ act p run' e w k
  act_same (Called (Builtin b)) w = built_in_same b w
  act_same (Called (Function n)) w = same (function_body p.functions n) w k (omega arith)
  act_same _ w = refl

-- where calls may stand deeper than there are ticks, more changes nothing
eval_stable : (p : Program) (deep deep' : ℕ) (b : Body) (w : World) (k : Counts) → k.0 ≤ deep → k.0 ≤ deep' → eval_within p deep b w k ≡ eval_within p deep' b w k
unfolding eval_within
eval_stable p deep deep' End w k h h' = refl
eval_stable p deep deep' (Then e rest) w (zero, calls) h h' = refl
eval_stable p zero deep' (Then e rest) w (suc k, calls) h h' = absurd (omega arith)
eval_stable p (suc deep) zero (Then e rest) w (suc k, calls) h h' = absurd (omega arith)
eval_stable p (suc deep) (suc deep') (Then e rest) w (suc k, calls) h h' =
    then_same (act p (eval_within p deep) e w (k, calls_after e calls)) _ _ k (suc (k + length w.stack)) (act_shrinks p _ (eval_shrinks p deep) e w (k, calls_after e calls))
    (λ w' j hj hs. eval_stable p deep deep' rest w' j (omega arith) (omega arith))
    ∙ ap (λ o. then_go o (eval_within p deep' rest)) (act_same p _ _ (k, calls_after e calls) (eval_shrinks p deep) (λ b w' j hj. eval_stable p deep deep' b w' j (omega arith) (omega arith)) e w)

-- no element
pub eval-end : (p : Program) (w : World) (k : Counts) → eval p End w k ≡ Done w k
unfolding eval_within
eval-end p w k = refl

-- no tick left
pub eval-no_tick : (p : Program) (e : Element) (rest : Body) (w : World) (calls : List ℕ) → eval p (Then e rest) w (0, calls) ≡ Stopped (say TicksPassed w) (0, calls)
unfolding eval_within
eval-no_tick p e rest w calls = refl

-- an element and the rest
pub eval-then : (p : Program) (e : Element) (rest : Body) (w : World) (k : ℕ) (calls : List ℕ) → eval p (Then e rest) w (suc k, calls) ≡ then_go (act p (eval p) e w (k, calls_after e calls)) (eval p rest)
unfolding eval_within
eval-then p e rest w k calls =
    then_same (act p (eval_within p k) e w (k, calls_after e calls)) _ _ k (suc (k + length w.stack)) (act_shrinks p _ (eval_shrinks p k) e w (k, calls_after e calls))
    (λ w' j hj hs. eval_stable p k j.0 rest w' j (omega arith) (omega arith))
    ∙ ap (λ o. then_go o (eval p rest)) (act_same p _ _ (k, calls_after e calls) (eval_shrinks p k) (λ b w' j hj. eval_stable p k j.0 b w' j (omega arith) (omega arith)) e w)

pub eval-shrinks : (p : Program) (b : Body) → AllShrink (eval p b)
eval-shrinks p b w k = eval_shrinks p k.0 b w k

-- a loop: its test, a number, its body, and the loop again
pub looped-turn : (p : Program) (test body : Code) (w : World) (k : Counts) → looped (eval p) test body w k ≡ then_go (eval p (code_body test) w k) (λ w k. turn (taken While as_number w) k (eval p (code_body body)) (looped (eval p) test body))
looped-turn p test body w k =
    then_same (eval p (code_body test) w k) _ _ k.0 (k.0 + length w.stack) (eval-shrinks p (code_body test) w k)
    (λ w1 j hj hs. turn_same (taken While as_number w1).0 (taken While as_number w1).1 j (eval p (code_body body)) (eval p (code_body body)) (turns (k.0 + length w.stack) (eval p (code_body test)) (eval p (code_body body))) (looped (eval p) test body) (eval-shrinks p (code_body body)) refl
    (λ n e w2 i hi hs2. let l = taken_some_len While as_number w1 n e in turns_same (k.0 + length w.stack) (suc (i.0 + length w2.stack)) _ _ _ _ i.0 (eval-shrinks p (code_body test)) (eval-shrinks p (code_body body)) (λ w' j' h. refl) (λ w' j' h. refl) w2 i (omega arith) (omega arith) (omega arith)))
