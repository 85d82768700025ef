-- A step is the same wherever its entry stands.
use Rattle.std.proofs.Common.{◌≡◌, ℕ, List, [], ◌++◌, Option, Some, None, refl, sym, ap, ◌∙◌, append-nil}
use Rattle.std.specs.Prelude.{slice_index_or, slice_set}
use Rattle.std.proofs.lemmas.List.{get_or-set_same, set-get_or, set-set}
use Rattle.bt_actions.specs.declared.entry.Variables.{Variables}
use Rattle.bt_actions.specs.declared.entry.Entry.{Entry}
use Rattle.bt_style.specs.Tree.{Called, End, Then}
use Rattle.bt_style.specs.Program.{Program}
use Rattle.bt_actions.specs.World.{World, no_variables, no_entry, entry_in}
use Rattle.bt_machine.specs.Eval.{eval}
use Rattle.bt_machine.specs.Step.{tick_limit, Finish, step}
use Rattle.bt_machine.specs.inner.Cases.{counts_begun, step_begun, rested, finish_of}
use Rattle.bt_actions.specs.View.{entries_in}
use Rattle.bt_machine.specs.OwnEntry.{IsPlace, cut, alone, with_variables, put_back, finish_back, DependsOnInput}
use Rattle.bt_machine.proofs.Places.{Part, Place, varied, embed}
use Rattle.bt_machine.proofs.Alike.{eval_alike, finished_alike}

-- the entry at a place of a list, with other variables
pub reads_in : (x : Option ℕ) (es : List Entry) (w : World) → es ≡ w.entries → IsPlace x w → (v : Variables) → entry_in (with_variables x es v) x ≡ varied v (entry_in es x)
reads_in None es w q h v = refl
reads_in (Some n) es w q h v =
    ap Some (get_or-set_same es n (record (slice_index_or es n no_entry) { variables = v }) no_entry (rw q h))

-- other variables take the place of the first ones
writes_in : (x : Option ℕ) (es : List Entry) (w : World) → es ≡ w.entries → IsPlace x w → (v u : Variables) → with_variables x (with_variables x es v) u ≡ with_variables x es u
writes_in None es w q h v u = refl
writes_in (Some n) es w q h v u =
    let d = slice_index_or es n no_entry in
    ap (λ (b : Entry). slice_set (slice_set es n (record d { variables = v })) n (record b { variables = u })) (get_or-set_same es n (record d { variables = v }) no_entry (rw q h))
    ∙ set-set es n (record d { variables = v }) (record d { variables = u })

-- among all entries
in_world : (x : Option ℕ) (w : World) → IsPlace x w → Place (entry_in w.entries x)
in_world x w h =
    record {
      entries = with_variables x w.entries;
      index = x;
      before = w.lines;
      heard = w.messages;
      reads = reads_in x w.entries w refl h;
      writes = writes_in x w.entries w refl h;
    }

-- the same where it is alone
reads_alone : (x : Option ℕ) (es : List Entry) (v : Variables) → entry_in (entries_in (varied v (entry_in es x))) (alone x) ≡ varied v (entry_in es x)
reads_alone None es v = refl
reads_alone (Some n) es v = refl

writes_alone : (x : Option ℕ) (es : List Entry) (v u : Variables) → with_variables (alone x) (entries_in (varied v (entry_in es x))) u ≡ entries_in (varied u (entry_in es x))
writes_alone None es v u = refl
writes_alone (Some n) es v u = refl

-- alone
by_itself : (x : Option ℕ) (w : World) → Place (entry_in w.entries x)
by_itself x w =
    record {
      entries = λ v. entries_in (varied v (entry_in w.entries x));
      index = alone x;
      before = [];
      heard = [];
      reads = reads_alone x w.entries;
      writes = writes_alone x w.entries;
    }

-- an entry's variables
abbrev own_variables : Option Entry → Variables
own_variables None = no_variables
own_variables (Some d) = d.variables

-- what a step begins with
start : (x : Option ℕ) (w : World) → Part
start x w =
    record {
      variables = own_variables (entry_in w.entries x);
      globals = w.globals;
      held = w.held;
      out = [];
      said = [];
      stack = [];
    }

-- an entry with its own variables
entries_again : (x : Option ℕ) (es : List Entry) → with_variables x es (own_variables (entry_in es x)) ≡ es
entries_again None es = refl
entries_again (Some n) es = set-get_or es n no_entry

-- a step begins with that part among all entries
start_in_world : (x : Option ℕ) (w : World) (h : IsPlace x w) → embed (entry_in w.entries x) w.preamble (in_world x w h) (start x w) ≡ step_begun x w
unfolding in_world start
start_in_world x w h =
    ap (λ es. record (step_begun x w) { entries = es; lines = w.lines ++ []; messages = w.messages ++ [] }) (entries_again x w.entries)
    ∙ ap (λ ls. record (step_begun x w) { lines = ls; messages = w.messages ++ [] }) (append-nil w.lines)
    ∙ ap (λ ms. record (step_begun x w) { messages = ms }) (append-nil w.messages)

-- an entry alone with its own variables
alone_again : (x : Option ℕ) (es : List Entry) → entries_in (varied (own_variables (entry_in es x)) (entry_in es x)) ≡ entries_in (entry_in es x)
alone_again None es = refl
alone_again (Some n) es = refl

-- a step begins with that part alone
start_alone : (x : Option ℕ) (w : World) → embed (entry_in w.entries x) w.preamble (by_itself x w) (start x w) ≡ step_begun (alone x) (cut x w)
unfolding by_itself start
start_alone x w = ap (λ es. record (step_begun (alone x) (cut x w)) { entries = es }) (alone_again x w.entries)

-- the variables that are put back
variables_back : (x : Option ℕ) (es : List Entry) (v : Variables) → with_variables x es v ≡ with_variables x es (slice_index_or (entries_in (varied v (entry_in es x))) 0 no_entry).variables
variables_back None es v = refl
variables_back (Some n) es v = refl

-- a part alone, put back
part_back : (x : Option ℕ) (w : World) (h : IsPlace x w) (s : Part) → rested (embed (entry_in w.entries x) w.preamble (in_world x w h) s) ≡ put_back x w (rested (embed (entry_in w.entries x) w.preamble (by_itself x w) s))
unfolding in_world by_itself
part_back x w h s =
    ap (λ es. record { entries = es; current = None; globals = s.globals; preamble = w.preamble; held = s.held; lines = w.lines ++ s.out; messages = w.messages ++ s.said; stack = [] }) (variables_back x w.entries s.variables)

-- two finishes with equal fields
finish_eq : (a b : Finish) → a.world ≡ b.world → a.stopped ≡ b.stopped → a.cost ≡ b.cost → a.calls ≡ b.calls → a ≡ b
finish_eq a b p q r t = λ j. record { world = p j; stopped = q j; cost = r j; calls = t j }

-- a step depends on its input alone, and changes its own part alone
pub step_local : (p : Program) → DependsOnInput p
step_local p x t w h =
    let e = entry_in w.entries x in
    let b = Then (Called t) End in
    let P = in_world x w h in
    let P' = by_itself x w in
    let a = finished_alike e w.preamble P P' (eval p b (embed e w.preamble P (start x w)) counts_begun) (eval p b (embed e w.preamble P' (start x w)) counts_begun) (eval_alike e w.preamble P P' p tick_limit b (start x w) counts_begun) in
    let begins : step p x t w ≡ finish_of (eval p b (embed e w.preamble P (start x w)) counts_begun) = ap (λ v. finish_of (eval p b v counts_begun)) (sym (start_in_world x w h)) in
    let begins_alone : finish_of (eval p b (embed e w.preamble P' (start x w)) counts_begun) ≡ step p (alone x) t (cut x w) = ap (λ v. finish_of (eval p b v counts_begun)) (start_alone x w) in
    begins ∙ finish_eq _ _ (a.here ∙ part_back x w h a.part ∙ ap (put_back x w) (sym a.there)) a.stopped a.cost a.calls ∙ ap (finish_back x w) begins_alone
