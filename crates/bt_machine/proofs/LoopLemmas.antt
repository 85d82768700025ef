-- What is left to do in the loop leads to what the definition says.
use Rattle.std.proofs.Common.{◌≡◌, ◌≢◌, ℕ, zero, suc, ◌+◌, ◌-◌, ◌≤◌, ◌<◌, List, [], ◌∷◌, ◌++◌, length, true, false, Option, Some, None, refl, sym, ap, ◌∙◌, arith, length-append, Vec, Global}
use Rattle.std.specs.Prelude.{ℤ, pos, negsuc, map, reverse}
use Rattle.std.proofs.lemmas.List.{get_or_past, length-map, map-append, reverse-append}
use Rattle.std.proofs.lemmas.Bool.{false≢true}
use Rattle.bt_style.specs.declared.builtin.Builtin.TheVariants.{If, While}
use Rattle.bt_style.specs.declared.style.Function.{Function}
use Rattle.bt_style.specs.declared.style.Op.{Op}
use Rattle.bt_style.specs.declared.style.Op.TheFolds.{fold-roll-Op}
use Rattle.bt_style.specs.declared.style.Op.TheOpen as shape
use Rattle.bt_style.specs.declared.style.Op.TheVariants as op
use Rattle.bt_style.specs.declared.style.Target.{Target}
use Rattle.bt_style.specs.Tree.{Element, Quoted, Braced, Called, Body, End, Then, element_of, element_step, ops_body}
use Rattle.bt_style.specs.Program.{Definition, Program, definitions_of, definition_of}
use Rattle.bt_actions.specs.declared.flow.Flow.{Flow}
use Rattle.bt_actions.specs.declared.flow.Flow.TheVariants.{Go, Stop}
use Rattle.bt_actions.specs.declared.complaint.Complaint.TheVariants.{TicksPassed}
use Rattle.bt_actions.specs.Item.{Code, Name, Block}
use Rattle.bt_actions.specs.World.{World, Act, say}
use Rattle.bt_actions.specs.Arguments.{as_number, as_code, taken, taken_two, taken_three}
use Rattle.bt_machine.specs.declared.control.Frame.{Frame as HeldFrame}
use Rattle.bt_stack.specs.Choice.{chosen_of}
use Rattle.bt_actions.specs.View.{act_of}
use Rattle.bt_actions.specs.declared.tally.Tally.{Tally}
use Rattle.bt_machine.specs.Eval.{Counts, Ending, Done, Stopped, acted, then_go, code_body, function_body, run_with, by_sign, turn, looped, built_in, act, calls_after, eval}
use Rattle.bt_machine.specs.inner.Cases.{no_definition, finish_of, counts_begun, step_begun}
use Rattle.bt_machine.specs.Step.{finished_at, step}
use Rattle.bt_machine.specs.inner.Loop.{Frame, Run, Test, frame_seen, meant, left, run_ended, is_above, kept, whole, SameLeft, ticked, counts, is_stop, checked_at}
use Rattle.bt_machine.proofs.Equations.{eval-end, eval-no_tick, eval-then, looped-turn}

-- two runs after one
then_go-then_go : (o : Ending) (f g : World → Counts → Ending) → then_go (then_go o f) g ≡ then_go o (λ w k. then_go (f w k) g)
then_go-then_go (Done w k) f g = refl
then_go-then_go (Stopped w k) f g = refl

-- a run of nothing between two
then_go-eval_end : (p : Program) (o : Ending) (g : World → Counts → Ending) → then_go (then_go o (eval p End)) g ≡ then_go o g
then_go-eval_end p (Done w k) g = ap (λ o. then_go o g) (eval-end p w k)
then_go-eval_end p (Stopped w k) g = refl

-- nothing left to do
then_go-done : (p : Program) (o : Ending) → then_go o (left p []) ≡ o
then_go-done p (Done w k) = refl
then_go-done p (Stopped w k) = refl

-- What comes to the same.

pub same_join : (fs gs hs : List Frame) → SameLeft fs gs → SameLeft gs hs → SameLeft fs hs
same_join fs gs hs h h' p w k = h p w k ∙ h' p w k

pub same_under : (f : Frame) (fs gs : List Frame) → SameLeft fs gs → SameLeft (f ∷ fs) (f ∷ gs)
same_under f fs gs h p w k = λ i. then_go (meant p f w k) (λ w k. h p w k i)

-- a body without elements is nothing to do
pub same_end : (fs : List Frame) → SameLeft (Run (Block End) ∷ fs) fs
same_end fs p w k = ap (λ o. then_go o (left p fs)) (eval-end p w k)

pub end_same : (fs : List Frame) → SameLeft fs (Run (Block End) ∷ fs)
end_same fs p w k = sym (same_end fs p w k)

-- an element alone
pub one_element : (p : Program) (e : Element) (fs : List Frame) (w : World) (k : ℕ) (calls : List ℕ) → left p (Run (Block (Then e End)) ∷ fs) w (suc k, calls) ≡ then_go (act p (eval p) e w (k, calls_after e calls)) (left p fs)
one_element p e fs w k calls = ap (λ o. then_go o (left p fs)) (eval-then p e End w k calls) ∙ then_go-eval_end p _ (left p fs)

-- the first element of a body, apart from the rest
pub same_then : (e : Element) (rest : Body) (fs : List Frame) → SameLeft (Run (Block (Then e rest)) ∷ fs) (Run (Block (Then e End)) ∷ Run (Block rest) ∷ fs)
same_then e rest fs p w (zero, calls) =
    ap (λ o. then_go o (left p fs)) (eval-no_tick p e rest w calls)
    ∙ sym (ap (λ o. then_go o (left p (Run (Block rest) ∷ fs))) (eval-no_tick p e End w calls))
same_then e rest fs p w (suc k, calls) =
    ap (λ o. then_go o (left p fs)) (eval-then p e rest w k calls)
    ∙ then_go-then_go _ (eval p rest) (left p fs)
    ∙ sym (one_element p e (Run (Block rest) ∷ fs) w k calls)

-- What is due.

pub due_element : (op : Op) (ops ops' : List Op) (fs : List HeldFrame) → ops ≡ op ∷ ops' → SameLeft (whole ops fs) (Run (Block (Then (element_of op) End)) ∷ whole ops' fs)
due_element op ops ops' fs is_ops p w k =
    ap (λ ops. left p (whole ops fs) w k) is_ops ∙ same_then (element_of op) (ops_body ops') (kept fs) p w k

pub kept_some : (fs fs' : List HeldFrame) (f : HeldFrame) → fs ≡ fs' ++ f ∷ [] → kept fs ≡ frame_seen f ∷ kept fs'
kept_some fs fs' f is_fs =
    ap kept is_fs ∙ ap reverse (map-append frame_seen fs' (f ∷ [])) ∙ reverse-append (map frame_seen fs') (frame_seen f ∷ [])

pub due_nothing : (ops : List Op) (fs : List HeldFrame) → ops ≡ [] → fs ≡ [] → (p : Program) (w : World) (k : Counts) → left p (whole ops fs) w k ≡ Done w k
due_nothing ops fs none empty p w k = (λ i. left p (whole (none i) (empty i)) w k) ∙ same_end [] p w k

-- something that waited, after a body's end
pub due_kept : (ops : List Op) (fs fs' : List HeldFrame) (f : HeldFrame) → ops ≡ [] → fs ≡ fs' ++ f ∷ [] → SameLeft (whole ops fs) (frame_seen f ∷ kept fs')
due_kept ops fs fs' f none is_fs p w k =
    (λ i. left p (Run (Block (ops_body (none i))) ∷ kept_some fs fs' f is_fs i) w k) ∙ same_end (frame_seen f ∷ kept fs') p w k

pub due_frame : (ops : List Op) (fs fs' : List HeldFrame) (f : HeldFrame) → ops ≡ [] → fs ≡ fs' ++ f ∷ [] → SameLeft (whole ops fs) (frame_seen f ∷ whole ops fs')
due_frame ops fs fs' f none is_fs p w k =
    due_kept ops fs fs' f none is_fs p w k
    ∙ same_under (frame_seen f) (kept fs') (Run (Block End) ∷ kept fs') (end_same (kept fs')) p w k
    ∙ (λ i. left p (frame_seen f ∷ Run (Block (ops_body (sym none i))) ∷ kept fs') w k)

-- how many wait

pub one_less : (fs fs' : List HeldFrame) (f : HeldFrame) → fs ≡ fs' ++ f ∷ [] → length fs' < length fs
one_less fs fs' f is_fs =
    let l = ap length is_fs ∙ length-append fs' (f ∷ []) in
    omega (arith, l)

pub no_more : (fs fs' : List HeldFrame) (f : HeldFrame) → fs ≡ fs' ++ f ∷ [] → length fs' ≤ length fs
no_more fs fs' f is_fs =
    let l = one_less fs fs' f is_fs in
    omega (arith, l)

-- What is put before what is left.

pub kept_same : (fs fs' : List HeldFrame) (f : HeldFrame) (gs : List Frame) → fs' ≡ fs ++ f ∷ [] → SameLeft (kept fs) gs → SameLeft (kept fs') (frame_seen f ∷ gs)
kept_same fs fs' f gs is_fs h p w k =
    ap (λ fs. left p fs w k) (kept_some fs' fs f is_fs) ∙ same_under (frame_seen f) (kept fs) gs h p w k

pub none_same : (ops : List Op) (fs : List HeldFrame) (gs : List Frame) → length ops ≡ 0 → SameLeft (kept fs) gs → SameLeft (whole ops fs) gs
none_same [] fs gs e h p w k = same_end (kept fs) p w k ∙ h p w k
none_same (op ∷ ops) fs gs e h p w k = absurd (omega (arith, e))

pub nothing_kept : (ops : List Op) (fs : List HeldFrame) → length ops ≡ 0 → SameLeft (kept fs) (whole ops fs)
nothing_kept ops fs e p w k = sym (none_same ops fs (kept fs) e (λ p w k. refl) p w k)

pub no_op : (ops : List Op) → length ops ≡ 0 → ops ≡ []
no_op [] e = refl
no_op (op ∷ ops) e = absurd (omega (arith, e))

-- What an element leads to.

pub tick_taken : (e : Element) (before after : Tally) → after.ticks + 1 ≡ before.ticks → after.calls ≡ calls_after e before.calls → counts after ≡ ticked e before
tick_taken e before after ticks calls =
    let less : after.ticks ≡ before.ticks - 1 = omega (arith, ticks) in
    λ i. (less i, calls i)

pub element_leads : (p : Program) (e : Element) (fs gs : List Frame) (w : World) (k k1 : Counts) (now o : Ending) → left p fs w k ≡ o → SameLeft fs (Run (Block (Then e End)) ∷ gs) → k1.0 + 1 ≡ k.0 → k1.1 ≡ calls_after e k.1 → now ≡ then_go (act p (eval p) e w k1) (left p gs) → now ≡ o
element_leads p e fs gs w k k1 now o leads same ticks calls did =
    let r : k.0 ≡ suc k1.0 = omega (arith, ticks) in
    did
    ∙ ap (λ calls. then_go (act p (eval p) e w (k1.0, calls)) (left p gs)) calls
    ∙ sym (one_element p e gs w k1.0 k.1)
    ∙ ap (λ n. left p (Run (Block (Then e End)) ∷ gs) w (n, k.1)) (sym r)
    ∙ sym (same p w k)
    ∙ leads

-- `e'` is what the code recognised, and is `e`; its tick is taken.
pub seen_leads : (p : Program) (e e' : Element) (w : World) (before after : Tally) (now : Ending) (go : World → Counts → Ending) → e ≡ e' → after.ticks + 1 ≡ before.ticks → after.calls ≡ calls_after e' before.calls → now ≡ then_go (act p (eval p) e' w (counts after)) go → now ≡ then_go (act p (eval p) e w (ticked e before)) go
seen_leads p e e' w before after now go seen ticks calls did =
    let taken = tick_taken e before after ticks (calls ∙ ap (λ e. calls_after e before.calls) (sym seen)) in
    did ∙ ap (λ e. then_go (act p (eval p) e w (counts after)) go) (sym seen) ∙ ap (λ k. then_go (act p (eval p) e w k) go) taken

-- `element_leads` of an element whose tick is still there
pub ticked_leads : (p : Program) (e : Element) (fs gs : List Frame) (w : World) (t : Tally) (now o : Ending) → left p fs w (counts t) ≡ o → SameLeft fs (Run (Block (Then e End)) ∷ gs) → t.ticks ≢ 0 → now ≡ then_go (act p (eval p) e w (ticked e t)) (left p gs) → now ≡ o
ticked_leads p e fs gs w t now o leads same some did =
    let ticks : t.ticks - 1 + 1 ≡ t.ticks = omega (arith, some) in
    element_leads p e fs gs w (counts t) (ticked e t) now o leads same ticks refl did

pub no_tick_leads : (p : Program) (e : Element) (fs gs : List Frame) (w w' : World) (k : Counts) (o : Ending) → left p fs w k ≡ o → SameLeft fs (Run (Block (Then e End)) ∷ gs) → k.0 ≡ 0 → w' ≡ say TicksPassed w → Stopped w' k ≡ o
no_tick_leads p e fs gs w w' k o leads same none told =
    (λ i. Stopped (told i) (none i, k.1))
    ∙ sym (ap (λ o. then_go o (left p gs)) (eval-no_tick p e End w k.1))
    ∙ (λ i. left p (Run (Block (Then e End)) ∷ gs) w (sym none i, k.1))
    ∙ sym (same p w k)
    ∙ leads

-- a loop: its test, and then the look at the number
loop_same : (p : Program) (test body : Code) (fs : List Frame) (w : World) (k : Counts) → left p (Run test ∷ Test test body ∷ fs) w k ≡ then_go (looped (eval p) test body w k) (left p fs)
loop_same p test body fs w k =
    sym (ap (λ o. then_go o (left p fs)) (looped-turn p test body w k) ∙ then_go-then_go (eval p (code_body test) w k) _ (left p fs))

-- a loop was put before what is left
pub loop_leads : (p : Program) (test body : Code) (fs gs : List Frame) (w w' : World) (k : Counts) → (Some (test, body), w') ≡ taken_two While as_code as_code w → SameLeft gs (Run test ∷ Test test body ∷ fs) → left p gs w' k ≡ then_go (built_in p (eval p) While w k) (left p fs)
loop_leads p test body fs gs w w' k took same =
    same p w' k
    ∙ loop_same p test body fs w' k
    ∙ ap (λ q. then_go (run_with (λ codes. looped (eval p) codes.0 codes.1) q k) (left p fs)) took

-- the function that was taken is the one that runs
chosen_runs : (p : Program) (q : Option (ℤ × Code × Code) × World) (k : Counts) → run_with (λ c. eval p (code_body c)) (chosen_of q) k ≡ run_with (λ all. eval p (code_body (by_sign all.0 all.1 all.2))) q k
chosen_runs p (None, w) k = refl
chosen_runs p (Some (pos zero, above, other), w) k = refl
chosen_runs p (Some (pos (suc n), above, other), w) k = refl
chosen_runs p (Some (negsuc n, above, other), w) k = refl

choice_runs : (p : Program) (o : Option Code) (fs : List Frame) (w w' : World) (k : Counts) → ◌≡◌ {A = Option Code × World} (o, w') (chosen_of (taken_three If as_number as_code as_code w)) → then_go (run_with (λ c. eval p (code_body c)) (o, w') k) (left p fs) ≡ then_go (built_in p (eval p) If w k) (left p fs)
choice_runs p o fs w w' k took =
    ap (λ q. then_go (run_with (λ c. eval p (code_body c)) q k) (left p fs)) took
    ∙ ap (λ o. then_go o (left p fs)) (chosen_runs p (taken_three If as_number as_code as_code w) k)

-- a function was put before what is left
pub choice_leads : (p : Program) (code : Code) (fs gs : List Frame) (w w' : World) (k : Counts) → ◌≡◌ {A = Option Code × World} (Some code, w') (chosen_of (taken_three If as_number as_code as_code w)) → SameLeft gs (Run code ∷ fs) → left p gs w' k ≡ then_go (built_in p (eval p) If w k) (left p fs)
choice_leads p code fs gs w w' k took same = same p w' k ∙ choice_runs p (Some code) fs w w' k took

-- there is none
pub no_choice_leads : (p : Program) (fs : List Frame) (w w' : World) (k : Counts) → ◌≡◌ {A = Option Code × World} (None, w') (chosen_of (taken_three If as_number as_code as_code w)) → left p fs w' k ≡ then_go (built_in p (eval p) If w k) (left p fs)
no_choice_leads p fs w w' k took = choice_runs p None fs w w' k took

-- a body was put before what is left
-- a function without elements
pub nothing_leads : (p : Program) (ops : List Op) (body : Body) (fs : List Frame) (w : World) (k : Counts) → length ops ≡ 0 → ops_body ops ≡ body → then_go (Done w k) (left p fs) ≡ then_go (eval p body w k) (left p fs)
nothing_leads p [] body fs w k none is_body = ap (λ o. then_go o (left p fs)) (sym (eval-end p w k) ∙ ap (λ b. eval p b w k) is_body)
nothing_leads p (op ∷ ops) body fs w k none is_body = absurd (omega (arith, none))

pub body_leads : (p : Program) (b b' : Body) (fs gs : List Frame) (w : World) (k : Counts) → b ≡ b' → SameLeft gs fs → left p (Run (Block b) ∷ gs) w k ≡ then_go (eval p b' w k) (left p fs)
body_leads p b b' fs gs w k is_body same =
    same_under (Run (Block b)) gs fs same p w k ∙ ap (λ b. then_go (eval p b w k) (left p fs)) is_body

-- what an element that calls a name is
pub call_seen : (t : Target) → element_of (op.Call t) ≡ Called t
call_seen t = ap element_of (sym (op.rolls-Call t)) ∙ fold-roll-Op Element element_step (shape.Call t)

pub block_seen : (inner : Vec Op Global) → element_of (op.Block inner) ≡ Braced (ops_body inner.items)
block_seen inner = ap element_of (sym (op.rolls-Block inner)) ∙ fold-roll-Op Element element_step (shape.Block inner)

pub quote_seen : (t : Target) → element_of (op.Quote t) ≡ Quoted t
quote_seen t = ap element_of (sym (op.rolls-Quote t)) ∙ fold-roll-Op Element element_step (shape.Quote t)

-- a turn of a loop

turn_ends : (n : Option ℤ) (w : World) (k : Counts) (body again : World → Counts → Ending) → is_above n ≡ false → turn (n, w) k body again ≡ Done w k
turn_ends None w k body again h = refl
turn_ends (Some (pos zero)) w k body again h = refl
turn_ends (Some (pos (suc n))) w k body again h = absurd (false≢true (sym h))
turn_ends (Some (negsuc n)) w k body again h = refl

turn_goes : (n : Option ℤ) (w : World) (k : Counts) (body again : World → Counts → Ending) → is_above n ≡ true → turn (n, w) k body again ≡ then_go (body w k) again
turn_goes None w k body again h = absurd (false≢true h)
turn_goes (Some (pos zero)) w k body again h = absurd (false≢true h)
turn_goes (Some (pos (suc n))) w k body again h = refl
turn_goes (Some (negsuc n)) w k body again h = absurd (false≢true h)

pub ends_leads : (p : Program) (test body : Code) (fs gs : List Frame) (w w' : World) (k : Counts) (o : Ending) → left p fs w k ≡ o → SameLeft fs (Test test body ∷ gs) → is_above (taken While as_number w).0 ≡ false → w' ≡ (taken While as_number w).1 → left p gs w' k ≡ o
ends_leads p test body fs gs w w' k o leads same h ew =
    let q = taken While as_number w in
    ap (λ w. left p gs w k) ew
    ∙ sym (ap (λ o. then_go o (left p gs)) (turn_ends q.0 q.1 k (eval p (code_body body)) (looped (eval p) test body) h))
    ∙ sym (same p w k)
    ∙ leads

pub turn_leads : (p : Program) (test body : Code) (fs gs hs ks : List Frame) (w w' : World) (k : Counts) (o : Ending) → left p fs w k ≡ o → SameLeft fs (Test test body ∷ gs) → is_above (taken While as_number w).0 ≡ true → w' ≡ (taken While as_number w).1 → SameLeft hs (Run test ∷ Test test body ∷ gs) → SameLeft ks (Run body ∷ hs) → left p ks w' k ≡ o
turn_leads p test body fs gs hs ks w w' k o leads same h ew looping begun =
    let q = taken While as_number w in
    begun p w' k
    ∙ same_under (Run body) hs (Run test ∷ Test test body ∷ gs) looping p w' k
    ∙ (λ i. then_go (eval p (code_body body) w' k) (λ w k. loop_same p test body gs w k i))
    ∙ sym (then_go-then_go (eval p (code_body body) w' k) (looped (eval p) test body) (left p gs))
    ∙ ap (λ w. then_go (then_go (eval p (code_body body) w k) (looped (eval p) test body)) (left p gs)) ew
    ∙ sym (ap (λ o. then_go o (left p gs)) (turn_goes q.0 q.1 k (eval p (code_body body)) (looped (eval p) test body) h))
    ∙ sym (same p w k)
    ∙ leads

-- the beginning
pub starts : (p : Program) (t : Target) (ops : List Op) (control : List HeldFrame) (w : World) (k : Counts) → ops ≡ [] → kept control ≡ Run (Name t) ∷ [] → left p (whole ops control) w k ≡ eval p (Then (Called t) End) w k
starts p t ops control w k none is_control =
    (λ i. left p (Run (Block (ops_body (none i))) ∷ is_control i) w k)
    ∙ same_end (Run (Name t) ∷ []) p w k
    ∙ then_go-done p (eval p (Then (Called t) End) w k)

-- no function of this number: nothing is run
pub entered_past : (p : Program) (functions : List Function) (n : ℕ) → p.functions ≡ definitions_of functions → length functions ≤ n → End ≡ function_body p.functions n
entered_past p functions n e h =
    let l = length-map functions definition_of in
    let m = ap length e in
    ap (λ (d : Definition). d.body) (sym (get_or_past p.functions n no_definition (omega arith)))

-- a step's end

-- how the code looks at a run's end
ended_acted : (flow : Flow) (w : World) (k : Counts) → run_ended flow w k ≡ acted (act_of flow w) k
ended_acted Go w k = refl
ended_acted Stop w k = refl

-- an action that runs no function leads to what is left, or stops the run
pub basic_leads : (flow : Flow) (a : Act) (e : Ending) (w : World) (k : Counts) (go : World → Counts → Ending) → act_of flow w ≡ a → e ≡ acted a k → then_go (run_ended flow w k) go ≡ then_go e go
basic_leads flow a e w k go acts is = ap (λ (x : Ending). then_go x go) (ended_acted flow w k ∙ ap (λ (y : Act). acted y k) acts ∙ sym is)

finished-ended : (flow : Flow) (w : World) (k : Counts) → finished_at (checked_at flow w) (is_stop flow) k ≡ finish_of (run_ended flow w k)
finished-ended Go w k = refl
finished-ended Stop w k = refl

-- what a run from a step's beginning leaves, with w1 and k at its end and w2 once the stack was looked at
pub step_finished : (p : Program) (x : Option ℕ) (t : Target) (w w0 w1 w2 : World) (flow : Flow) (k : Counts) → w0 ≡ step_begun x w → run_ended flow w1 k ≡ eval p (Then (Called t) End) w0 counts_begun → w2 ≡ checked_at flow w1 → finished_at w2 (is_stop flow) k ≡ step p x t w
step_finished p x t w w0 w1 w2 flow k begun ended is_checked =
    ap (λ w. finished_at w (is_stop flow) k) is_checked
    ∙ finished-ended flow w1 k
    ∙ ap finish_of (ended ∙ ap (λ w. eval p (Then (Called t) End) w counts_begun) begun)
