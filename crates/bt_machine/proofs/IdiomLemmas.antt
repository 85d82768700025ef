-- Elements that are carried out at once lead to what they lead to one by one.
use Rattle.std.proofs.Common.{◌≡◌, ℕ, ℤ, suc, ◌+◌, ◌≤◌, ◌<◌, true, List, [], ◌∷◌, length, drop, Some, refl, sym, ap, ◌∙◌, arith}
use Rattle.std.specs.Prelude.{option_and_then, slice_get, nat_lt, if◌then◌else◌}
use Rattle.std.proofs.lemmas.Option.{none-some, same_Some}
use Rattle.bt_style.specs.declared.builtin.Builtin.TheVariants as builtin
use Rattle.bt_style.specs.declared.style.Op.{Op}
use Rattle.bt_style.specs.declared.style.Target.{Target}
use Rattle.bt_style.specs.declared.style.Target.TheVariants as target
use Rattle.bt_style.specs.Tree.{Element, Quoted, Called, Body, Then, ops_body}
use Rattle.bt_style.specs.Program.{Program}
use Rattle.bt_actions.specs.declared.complaint.Complaint.TheVariants.{StackPassed}
use Rattle.bt_actions.specs.Arguments.{as_number}
use Rattle.bt_actions.specs.Item.{Code, Name, Block, Item, Num, Txt, Fun, Missing}
use Rattle.bt_actions.specs.State.{pushed}
use Rattle.bt_actions.specs.Tally.{with_call}
use Rattle.bt_actions.specs.World.{World, Goes, Stops, say, with_stack}
use Rattle.bt_stack.specs.Assigning.{value_given}
use Rattle.bt_machine.specs.Eval.{Counts, Done, then_go, by_sign, acted, act, calls_after, eval}
use Rattle.bt_machine.specs.declared.control.Frame.{Frame as HeldFrame}
use Rattle.bt_machine.specs.inner.Loop.{Frame, Run, left, kept, putting, whole}
use Rattle.bt_machine.proofs.LoopLemmas.{one_element, same_then}

-- a function goes on a stack with room
put_there : (c : Code) (w : World) → length w.stack ≤ 999 → pushed (Fun c) w ≡ Goes (with_stack (Fun c ∷ w.stack) w)
put_there c w few =
    let room : nat_lt (length w.stack) 1000 ≡ true = grind (arith, few) in
    λ i. if room i then Goes (with_stack (Fun c ∷ w.stack) w) else Stops (say StackPassed w)

-- the element that puts it there, which is no call
put_done : (p : Program) (c : Code) (w : World) (k : Counts) → length w.stack ≤ 999 → act p (eval p) (putting c) w k ≡ Done (with_stack (Fun c ∷ w.stack) w) k
put_done p (Name t) w k few = ap (λ a. acted a k) (put_there (Name t) w few)
put_done p (Block b) w k few = ap (λ a. acted a k) (put_there (Block b) w few)

put_counts : (c : Code) (calls : List ℕ) → calls_after (putting c) calls ≡ calls
put_counts (Name t) calls = refl
put_counts (Block b) calls = refl

-- the next element of a body
next_leads : (p : Program) (e : Element) (r : Body) (fs : List Frame) (w : World) (t : ℕ) (calls : List ℕ) → left p (Run (Block (Then e r)) ∷ fs) w (suc t, calls) ≡ then_go (act p (eval p) e w (t, calls_after e calls)) (left p (Run (Block r) ∷ fs))
next_leads p e r fs w t calls = same_then e r fs p w (suc t, calls) ∙ one_element p e (Run (Block r) ∷ fs) w t calls

-- Two functions and `if$`.

choice_leads : (p : Program) (n : ℤ) (above other : Code) (rest : List Op) (r : Body) (fs : List Frame) (s : List Item) (w : World) (t : ℕ) (calls : List ℕ) → length s ≤ 997 → ops_body rest ≡ Then (putting other) (Then (Called (target.Builtin builtin.If)) r) → then_go (act p (eval p) (putting above) (with_stack (Num n ∷ s) w) (suc (suc t), calls)) (left p (Run (Block (ops_body rest)) ∷ fs)) ≡ left p (Run (by_sign n above other) ∷ Run (Block r) ∷ fs) (with_stack s w) (t, with_call (Some builtin.If) calls)
choice_leads p n above other rest r fs s w t calls few is_rest =
    let first : World = with_stack (Num n ∷ s) w in
    let second : World = with_stack (Fun above ∷ Num n ∷ s) w in
    let third : World = with_stack (Fun other ∷ Fun above ∷ Num n ∷ s) w in
    let behind : List Frame = Run (Block (Then (Called (target.Builtin builtin.If)) r)) ∷ fs in
    ap (λ o. then_go o (left p (Run (Block (ops_body rest)) ∷ fs))) (put_done p above first (suc (suc t), calls) (omega (arith, few)))
    ∙ ap (λ b. left p (Run (Block b) ∷ fs) second (suc (suc t), calls)) is_rest
    ∙ next_leads p (putting other) (Then (Called (target.Builtin builtin.If)) r) fs second (suc t) calls
    ∙ ap (λ calls. then_go (act p (eval p) (putting other) second (suc t, calls)) (left p behind)) (put_counts other calls)
    ∙ ap (λ o. then_go o (left p behind)) (put_done p other second (suc t, calls) (omega (arith, few)))
    ∙ next_leads p (Called (target.Builtin builtin.If)) r fs third t calls

choice_from : (p : Program) (n : ℤ) (above other : Code) (rest : List Op) (r : Body) (fs : List Frame) (l : List Item) (w : World) (t : ℕ) (calls : List ℕ) → Some n ≡ option_and_then as_number (slice_get l 0) → length l ≤ 998 → ops_body rest ≡ Then (putting other) (Then (Called (target.Builtin builtin.If)) r) → then_go (act p (eval p) (putting above) (with_stack l w) (suc (suc t), calls)) (left p (Run (Block (ops_body rest)) ∷ fs)) ≡ left p (Run (by_sign n above other) ∷ Run (Block r) ∷ fs) (with_stack (drop 1 l) w) (t, with_call (Some builtin.If) calls)
choice_from p n above other rest r fs [] w t calls e few is_rest = absurd (none-some n (sym e))
choice_from p n above other rest r fs (Txt u ∷ s) w t calls e few is_rest = absurd (none-some n (sym e))
choice_from p n above other rest r fs (Fun c ∷ s) w t calls e few is_rest = absurd (none-some n (sym e))
choice_from p n above other rest r fs (Missing m ∷ s) w t calls e few is_rest = absurd (none-some n (sym e))
choice_from p n above other rest r fs (Num m ∷ s) w t calls e few is_rest =
    choice_leads p m above other rest r fs s w t calls (omega (arith, few)) is_rest
    ∙ ap (λ n. left p (Run (by_sign n above other) ∷ Run (Block r) ∷ fs) (with_stack s w) (t, with_call (Some builtin.If) calls)) (sym (same_Some n m e))

pub chosen_at_once : (p : Program) (n : ℤ) (above other c : Code) (rest after body : List Op) (fs gs : List HeldFrame) (w w' : World) (k k' k'' : Counts) → Some n ≡ option_and_then as_number (slice_get w.stack 0) → length w.stack ≤ 998 → k'.0 + 2 ≡ k.0 → k'.1 ≡ with_call (Some builtin.If) k.1 → ops_body rest ≡ Then (putting other) (Then (Called (target.Builtin builtin.If)) (ops_body after)) → w' ≡ with_stack (drop 1 w.stack) w → Run c ≡ Run (by_sign n above other) → left p (whole body gs) w' k'' ≡ left p (Run c ∷ whole after fs) w' k' → left p (whole body gs) w' k'' ≡ then_go (act p (eval p) (putting above) w k) (left p (whole rest fs))
chosen_at_once p n above other c rest after body fs gs w w' k k' k'' e few ticks calls is_rest is_world is_code same =
    let r : k.0 ≡ suc (suc k'.0) = omega (arith, ticks) in
    same
    ∙ (λ i. left p (is_code i ∷ whole after fs) (is_world i) (k'.0, calls i))
    ∙ sym (choice_from p n above other rest (ops_body after) (kept fs) w.stack w k'.0 k.1 e few is_rest)
    ∙ ap (λ t. then_go (act p (eval p) (putting above) w (t, k.1)) (left p (whole rest fs))) (sym r)

-- A name and `:=`.

gift_from : (p : Program) (name : Target) (rest : List Op) (r : Body) (fs : List Frame) (l : List Item) (w : World) (t : ℕ) (calls : List ℕ) → 0 < length l → length l ≤ 999 → ops_body rest ≡ Then (Called (target.Builtin builtin.Assign)) r → then_go (act p (eval p) (Quoted name) (with_stack l w) (suc t, calls)) (left p (Run (Block (ops_body rest)) ∷ fs)) ≡ left p (Run (Block r) ∷ fs) (value_given name (with_stack l w)) (t, with_call (Some builtin.Assign) calls)
gift_from p name rest r fs [] w t calls some few is_rest = absurd (omega (arith, some))
gift_from p name rest r fs (v ∷ s) w t calls some few is_rest =
    let first : World = with_stack (v ∷ s) w in
    let second : World = with_stack (Fun (Name name) ∷ v ∷ s) w in
    ap (λ a. then_go (acted a (suc t, calls)) (left p (Run (Block (ops_body rest)) ∷ fs))) (put_there (Name name) first few)
    ∙ ap (λ b. left p (Run (Block b) ∷ fs) second (suc t, calls)) is_rest
    ∙ next_leads p (Called (target.Builtin builtin.Assign)) r fs second t calls

pub given_at_once : (p : Program) (name : Target) (rest after : List Op) (fs : List HeldFrame) (w w' : World) (k k' : Counts) → 0 < length w.stack → length w.stack ≤ 999 → k'.0 + 1 ≡ k.0 → k'.1 ≡ with_call (Some builtin.Assign) k.1 → ops_body rest ≡ Then (Called (target.Builtin builtin.Assign)) (ops_body after) → w' ≡ value_given name w → left p (whole after fs) w' k' ≡ then_go (act p (eval p) (Quoted name) w k) (left p (whole rest fs))
given_at_once p name rest after fs w w' k k' some few ticks calls is_rest is_world =
    let r : k.0 ≡ suc k'.0 = omega (arith, ticks) in
    (λ i. left p (whole after fs) (is_world i) (k'.0, calls i))
    ∙ sym (gift_from p name rest (ops_body after) (kept fs) w.stack w k'.0 k.1 some few is_rest)
    ∙ ap (λ t. then_go (act p (eval p) (Quoted name) w (t, k.1)) (left p (whole rest fs))) (sym r)
