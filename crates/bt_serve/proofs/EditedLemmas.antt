-- From the turns of the loop to the edits of its input.
use Rattle.std.proofs.Common.{◌≡◌, ap, sym, ◌∙◌, subst, arith, ℕ, Bool, true, List, [], ◌∷◌, ◌++◌, length, append_assoc, append-nil, length-append, Ok, Err}
use Rattle.std.specs.List.{flat_map}
use Rattle.bibtex.specs.declared.state.State.{State}
use Rattle.bt_serve.specs.declared.fault.ServeFault.{ServeFault}
use Rattle.bt_serve.specs.declared.fault.ServeFault.TheVariants.{ReadFailed, WriteFailed, Truncated}
use Rattle.bt_serve.specs.Commands.{Command, command_text, state_after}
use Rattle.bt_serve.specs.Serves.{Ends}
use Rattle.bt_serve.specs.Whole.{commands_of, commands_within, up_to_quit, AnswersPart}
use Rattle.bt_serve.specs.Edits.{edits_of, Leads, IsEdited}
use Rattle.bt_serve.proofs.TurnLemmas.{state_more}
use Rattle.bt_serve.proofs.ServedLemmas.{up_to_front, front_cut, ends_answers_all, ends_answers_before, ends_answers_part}
use Rattle.bt_serve.proofs.EditLemmas.{leads_by}

-- the state after commands is one that their edits lead to
to_state : (cs : List Command) (ms : List Bool) (s t : State) → length ms ≡ length cs → t ≡ state_after ms cs s → Leads (edits_of cs) s t
to_state cs ms s t len is = subst (Leads (edits_of cs) s) (sym is) (leads_by cs ms s len)

-- the commands before one, and that one
part_edited : (input said said' : List ℕ) (s t : State) → AnswersPart input said said' s t → IsEdited {A = Bool} (Err WriteFailed) input s t
part_edited input said said' s t (front, c, others, ms, m, is, goes_on, len, part, edited, ran_out, want) = (
  front ++ c ∷ [],
  others,
  is ∙ sym (append_assoc front (c ∷ []) others),
  to_state (front ++ c ∷ []) (ms ++ m ∷ []) s t (omega (arith, length-append ms (m ∷ []), length-append front (c ∷ []), len)) (edited ∙ sym (state_more ms front s m c len)),
)

pub ends_edited : (input rest said said' : List ℕ) (s t : State) → Ends input rest said said' s t (Ok true) → IsEdited (Ok true) input s t
ends_edited input rest said said' s t all =
    let answered = ends_answers_all input rest said said' s t all in
    to_state (up_to_quit (commands_of input).commands) answered.0 s t answered.1 answered.3

pub fails_edited : (input rest said said' : List ℕ) (s t : State) (fault : ServeFault) → Ends input rest said said' s t (Err fault) → IsEdited {A = Bool} (Err fault) input s t
fails_edited input rest said said' s t Truncated end =
    let before = (ends_answers_before input rest said said' s t end).0 in
    let all : up_to_quit (commands_of input).commands ≡ (commands_of input).commands =
    ap up_to_quit (sym (append-nil (commands_of input).commands)) ∙ up_to_front (commands_of input).commands [] before.5 ∙ append-nil (commands_of input).commands in
    rw all (to_state (commands_of input).commands before.0 s t before.1 before.3)
fails_edited input rest said said' s t ReadFailed (cs, ms, mid, told, between, a, turn) =
    let k = front_cut cs mid (length (flat_map command_text cs ++ mid)) a.each (omega arith) in
    (cs, (commands_within k.0 mid).commands, ap (λ t. (commands_of t).commands) a.read ∙ k.2, to_state cs ms s t a.one_each (turn.4 ∙ a.edited))
fails_edited input rest said said' s t WriteFailed end = part_edited input said said' s t (ends_answers_part input rest said said' s t end)
