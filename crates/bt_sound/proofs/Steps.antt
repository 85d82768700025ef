-- A step that is checked gives no excluded message before an overflow, and leaves globals as they are known.
use Rattle.std.proofs.Common.{◌≡◌, ℕ, zero, suc, Bool, true, false, List, [], ◌∷◌, length, replicate, Option, Some, None, ◌⊎◌, inl, inr, refl, sym, subst, arith}
use Rattle.std.specs.List.{list_all}
use Rattle.bt_text.specs.ByteTests.{is_white}
use Rattle.bt_style.specs.declared.style.Target.{Target}
use Rattle.bt_style.specs.Tree.{Called, End, Then}
use Rattle.bt_style.specs.Program.{Program}
use Rattle.bt_actions.specs.declared.complaint.Complaint.TheVariants.{LeftOver}
use Rattle.bt_actions.specs.declared.entry.Entry.{Entry}
use Rattle.bt_actions.specs.declared.entry.Variables.{Variables}
use Rattle.bt_actions.specs.Item.{Item}
use Rattle.bt_actions.specs.World.{World, told_message}
use Rattle.bt_machine.specs.declared.input.Input.{Input}
use Rattle.bt_machine.specs.Eval.{Ending, Done, Stopped, eval}
use Rattle.bt_machine.specs.Step.{Finish, finished_at, tick_limit, step, step_in, world_in}
use Rattle.bt_machine.specs.inner.Cases.{checked, finish_of, counts_begun, step_begun}
use Rattle.bt_sound.specs.Excluded.{is_clean, is_past}
use Rattle.bt_sound.specs.Known.{Known, KnownVariables, State, any_text, any_field, any_number}
use Rattle.bt_sound.specs.Fits.{Each, IsIn, allows, TextFits, FieldFits, Fits, VariablesFit, Past, Here, Among}
use Rattle.bt_sound.specs.Holds.{EndAt, ForEach}
use Rattle.bt_sound.specs.Below.{variables_within}
use Rattle.bt_sound.specs.Sound.{AreOf, IsOf, IsOfSome}
use Rattle.bt_sound.specs.Checked.{unknown_variables, before_step, IsChecked}
use Rattle.bt_sound.proofs.CoverLemmas.{variables_in}
use Rattle.bt_sound.proofs.Messages.{past_append, past_longer}
use Rattle.bt_sound.proofs.Ranges.{any_in}
use Rattle.bt_sound.proofs.Rules.{among_clean}

-- what fits whatever there is

each_any : {A B : Type 0} (R : A → B → Type 0) (x : A) → ((y : B) → R x y) → (ys : List B) (n : ℕ) → length ys ≡ n → Each R (replicate n x) ys
each_any R x f [] zero e = tt
each_any R x f [] (suc n) e = absurd (omega arith)
each_any R x f (y ∷ ys) zero e = absurd (omega arith)
each_any R x f (y ∷ ys) (suc n) e = (f y, each_any R x f ys n (omega arith))

field_by : (b : Bool) → allows any_field b ≡ true
field_by true = refl
field_by false = refl

field_any : (o : Option (List ℕ)) → FieldFits any_field o
field_any None = refl
field_any (Some t) = field_by (list_all is_white t)

variables_any : (numbers texts : List (List ℕ)) (v : Variables) → AreOf numbers texts v → VariablesFit (unknown_variables numbers texts) v
variables_any numbers texts v h =
    (each_any IsIn any_number (λ n. (tt, tt)) v.numbers (length numbers) h.0, each_any TextFits any_text any_in v.texts (length texts) h.1)

-- the end of a step

-- What a step left: no message is excluded before an overflow, and it stopped the run, a number didn't fit, or the
-- globals are as they are known.
abbrev pub FinishFits : KnownVariables → Finish → Type 0
FinishFits k f =
    (is_clean f.world.messages ≡ true) × ((f.stopped ≡ true) ⊎ ((is_past f.world.messages ≡ true) ⊎ VariablesFit k f.world.globals))

each_nil : (ks : List Known) (vs : List Item) → ks ≡ [] → Each Fits ks vs → vs ≡ []
each_nil [] [] q h = refl
each_nil [] (v ∷ vs) q h = absurd h
each_nil (k ∷ ks) vs q h = cc

empty_stack : (types : List ℕ) (ts : List State) (w : World) → ForEach (λ s. s.stack ≡ []) ts → Among types ts w → w.stack ≡ []
empty_stack types [] w e h = absurd h
empty_stack types (s ∷ ts) w e (inl h) = each_nil s.stack w.stack e.0 h.2
empty_stack types (s ∷ ts) w e (inr h) = empty_stack types ts w e.1 h

globals_fit : (types : List ℕ) (ts : List State) (k : KnownVariables) (w : World) → ForEach (λ s. variables_within s.globals k ≡ true) ts → Among types ts w → VariablesFit k w.globals
globals_fit types [] k w e h = absurd h
globals_fit types (s ∷ ts) k w e (inl h) = variables_in s.globals k w.globals e.0 h.1.2
globals_fit types (s ∷ ts) k w e (inr h) = globals_fit types ts k w e.1 h

checked_past : (vs : List Item) (w : World) → Past w → is_clean (checked vs w).messages ≡ true
checked_past [] w h = h.0
checked_past (v ∷ vs) w h = past_append w.messages (told_message w LeftOver ∷ []) h.0 h.1

still_past : (vs : List Item) (w : World) → Past w → is_past (checked vs w).messages ≡ true
still_past [] w h = h.1
still_past (v ∷ vs) w h = past_longer w.messages (told_message w LeftOver ∷ []) h.1

finished : (p : Program) (types : List ℕ) (ts : List State) (k : KnownVariables) (o : Ending) → ForEach (λ s. s.stack ≡ []) ts → ForEach (λ s. variables_within s.globals k ≡ true) ts → EndAt types ts o → FinishFits k (finish_of o)
finished p types ts k (Done w n) e g (inl h) = (checked_past w.stack w h, inr (inl (still_past w.stack w h)))
finished p types ts k (Done w n) e g (inr h) =
    subst (λ vs. FinishFits k (finished_at (checked vs w) false n)) (sym (empty_stack types ts w e h))
    (among_clean p types ts w h, inr (inr (globals_fit types ts k w g h)))
finished p types ts k (Stopped w n) e g h = (h, inl refl)

step_fits : (p : Program) (types : List ℕ) (own : Bool) (t : Target) (k l : KnownVariables) → IsChecked p types own t k l → (x : Option ℕ) (w : World) → Here types (before_step p own k) (step_begun x w) → FinishFits l (step p x t w)
step_fits p types own t k l c x w h =
    finished p types c.states l (eval p (Then (Called t) End) (step_begun x w) counts_begun) c.bare c.within (c.leads tick_limit (step_begun x w) counts_begun (inl h))

-- the steps of inputs

abbrev aimed : Target → Option Entry → Input → Input
aimed t o i = record i { target = t; entry = o }

without_fits : (p : Program) (types : List ℕ) (t : Target) (k l : KnownVariables) (i : Input) → IsChecked p types false t k l → VariablesFit k i.globals → FinishFits l (step_in p (aimed t None i))
without_fits p types t k l i c g =
    step_fits p types false t k l c None (world_in (aimed t None i)) (refl, (tt, tt, g), tt)

with_fits : (p : Program) (types : List ℕ) (t : Target) (k l : KnownVariables) (i : Input) (e : Entry) → IsChecked p types true t k l → VariablesFit k i.globals → IsOf p types e → FinishFits l (step_in p (aimed t (Some e) i))
with_fits p types t k l i e c g h =
    let fields = each_any FieldFits any_field field_any e.fields (length p.fields) h.1 in
    let own = variables_any p.entry_numbers p.entry_texts e.variables h.2 in
    step_fits p types true t k l c (Some 0) (world_in (aimed t (Some e) i)) (refl, (omega arith, (h.0, fields, own), g), tt)

some_fits : (p : Program) (types : List ℕ) (t : Target) (k l : KnownVariables) (i : Input) (o : Option Entry) → IsChecked p types true t k l → VariablesFit k i.globals → IsOfSome p types o → FinishFits l (step_in p (aimed t o i))
some_fits p types t k l i None c g h = absurd h
some_fits p types t k l i (Some e) c g h = with_fits p types t k l i e c g h

-- an input that has this target and this entry
aimed_itself : (p : Program) (t : Target) (o : Option Entry) (k : KnownVariables) (i : Input) → i.target ≡ t → i.entry ≡ o → FinishFits k (step_in p (aimed t o i)) → FinishFits k (step_in p i)
aimed_itself p t o k i q r h =
    let e : i ≡ aimed t o i = λ j. record i { target = q j; entry = r j } in
    subst (λ x. FinishFits k (step_in p x)) (sym e) h

pub execute_fits : (p : Program) (types : List ℕ) (t : Target) (k l : KnownVariables) → IsChecked p types false t k l → (i : Input) → VariablesFit k i.globals → i.target ≡ t → i.entry ≡ None → FinishFits l (step_in p i)
execute_fits p types t k l c i g q r = aimed_itself p t None l i q r (without_fits p types t k l i c g)

pub iterate_fits : (p : Program) (types : List ℕ) (t : Target) (k l : KnownVariables) → IsChecked p types true t k l → (i : Input) → VariablesFit k i.globals → i.target ≡ t → IsOfSome p types i.entry → FinishFits l (step_in p i)
iterate_fits p types t k l c i g q h = aimed_itself p t i.entry l i q refl (some_fits p types t k l i i.entry c g h)
