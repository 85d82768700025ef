-- After an overflow all goes on as an evaluation does: messages are told, and none is taken back.
use Rattle.std.proofs.Common.{◌≡◌, ℕ, ◌<◌, true, List, [], ◌++◌, Option, Some, None, refl, sym, subst, ap, ◌∙◌, append-nil}
use Rattle.std.specs.Prelude.{slice_index_or, slice_set}
use Rattle.std.proofs.lemmas.List.{get_or-set_same, set-get_or, set-set, length-set}
use Rattle.bt_style.specs.Tree.{Body}
use Rattle.bt_style.specs.Program.{Program}
use Rattle.bt_actions.specs.declared.entry.Variables.{Variables}
use Rattle.bt_actions.specs.declared.entry.Entry.{Entry}
use Rattle.bt_actions.specs.World.{World, no_variables, no_entry, entry_in}
use Rattle.bt_machine.specs.Eval.{Counts, Ending, Done, Stopped, eval_within}
use Rattle.bt_machine.specs.OwnEntry.{with_variables}
use Rattle.bt_machine.proofs.Places.{Part, Place, embed, varied}
use Rattle.bt_machine.proofs.Alike.{EndingsAlike, eval_alike}
use Rattle.bt_sound.specs.Excluded.{is_clean}
use Rattle.bt_sound.specs.Fits.{IsPlaceIn, Past}
use Rattle.bt_sound.proofs.Messages.{past_append, past_longer}

-- an entry's variables
abbrev own_of : Option Entry → Variables
own_of None = no_variables
own_of (Some e) = e.variables

reads : (x : Option ℕ) (es : List Entry) (v : Variables) → IsPlaceIn x es → entry_in (with_variables x es v) x ≡ varied v (entry_in es x)
reads None es v h = refl
reads (Some n) es v h =
    ap Some (get_or-set_same es n (record (slice_index_or es n no_entry) { variables = v }) no_entry h)

writes : (x : Option ℕ) (es : List Entry) (v u : Variables) → IsPlaceIn x es → with_variables x (with_variables x es v) u ≡ with_variables x es u
writes None es v u h = refl
writes (Some n) es v u h =
    let d = slice_index_or es n no_entry in
    ap (λ (b : Entry). slice_set (slice_set es n (record d { variables = v })) n (record b { variables = u })) (get_or-set_same es n (record d { variables = v }) no_entry h)
    ∙ set-set es n (record d { variables = v }) (record d { variables = u })

again : (x : Option ℕ) (es : List Entry) → with_variables x es (own_of (entry_in es x)) ≡ es
again None es = refl
again (Some n) es = set-get_or es n no_entry

stays : (x : Option ℕ) (es : List Entry) (v : Variables) → IsPlaceIn x es → IsPlaceIn x (with_variables x es v)
stays None es v h = tt
stays (Some n) es v h =
    subst (λ l. n < l) (sym (length-set es n (record (slice_index_or es n no_entry) { variables = v }))) h

-- a world as a part at its own place, where all its messages were heard before
abbrev place_of : (w : World) → IsPlaceIn w.current w.entries → Place (entry_in w.entries w.current)
place_of w h =
    record {
      entries = with_variables w.current w.entries;
      index = w.current;
      before = w.lines;
      heard = w.messages;
      reads = λ v. reads w.current w.entries v h;
      writes = λ v u. writes w.current w.entries v u h;
    }

abbrev part_of : World → Part
part_of w =
    record {
      variables = own_of (entry_in w.entries w.current);
      globals = w.globals;
      held = w.held;
      out = [];
      said = [];
      stack = w.stack;
    }

abbrev embedded : (w : World) → IsPlaceIn w.current w.entries → Part → World
embedded w h s = embed (entry_in w.entries w.current) w.preamble (place_of w h) s

itself : (w : World) (h : IsPlaceIn w.current w.entries) → embedded w h (part_of w) ≡ w
itself w h =
    ap (λ es. record w { entries = es; lines = w.lines ++ []; messages = w.messages ++ [] }) (again w.current w.entries)
    ∙ ap (λ ls. record w { lines = ls; messages = w.messages ++ [] }) (append-nil w.lines)
    ∙ ap (λ ms. record w { messages = ms }) (append-nil w.messages)

past_embedded : (w : World) (h : Past w) (s : Part) → Past (embedded w h.2 s)
past_embedded w h s =
    (past_append w.messages s.said h.0 h.1, past_longer w.messages s.said h.1, stays w.current w.entries s.variables h.2)

-- what an evaluation leaves after an overflow
abbrev pub PastEnd : Ending → Type 0
PastEnd (Done w k) = Past w
PastEnd (Stopped w k) = is_clean w.messages ≡ true

past_alike : (w : World) (h : Past w) (o : Ending) → EndingsAlike (entry_in w.entries w.current) w.preamble (place_of w h.2) (place_of w h.2) o o → PastEnd o
past_alike w h (Done v k) i = subst Past (sym i.0.1) (past_embedded w h i.0.0)
past_alike w h (Stopped v k) i = (subst Past (sym i.0.1) (past_embedded w h i.0.0)).0

pub past_eval : (p : Program) (deep : ℕ) (b : Body) (w : World) (k : Counts) → Past w → PastEnd (eval_within p deep b w k)
past_eval p deep b w k h =
    let P = place_of w h.2 in
    subst (λ v. PastEnd (eval_within p deep b v k)) (itself w h.2)
    (past_alike w h (eval_within p deep b (embedded w h.2 (part_of w)) k) (eval_alike (entry_in w.entries w.current) w.preamble P P p deep b (part_of w) k))
