-- Answers have no floats.
use Rattle.std.proofs.Common.{◌≡◌, List, [], ◌∷◌, ◌++◌, map, refl, ap, sym, ◌∙◌, true, false, ◌||◌, subst, Result, Ok, Err}
use Rattle.std.specs.List.{AllByRecursion}
use Rattle.serde_json.specs.Data.{Data, null, boolean, number, string, array, object, unsigned, negative, float}
use Rattle.serde_json.specs.View.{view}
use Rattle.serde_json.specs.Written.{has_float}
use Rattle.serde_json.specs.declared.value.Value.{Value}
use Rattle.bt_rpc.specs.declared.answers.RpcError.{RpcError}
use Rattle.bt_rpc.specs.Messages.{is_id, error_response}
use Rattle.bt_talk.specs.Handled.{HasNoFloat, IsNote, answer_to}
use Rattle.bt_talk.specs.Replies.{outcome_of, IsPlain}

-- an id has none
pub id_plain : (d : Data) → is_id d ≡ true → has_float d ≡ false
id_plain null e = refl
id_plain (boolean b) e = refl
id_plain (number (unsigned n)) e = refl
id_plain (number (negative z)) e = refl
id_plain (number (float x)) e = absurd (cc)
id_plain (string s) e = refl
id_plain (array ds) e = absurd (cc)
id_plain (object ms) e = absurd (cc)

pub error_plain : (said : List Data) (id : Data) (r : RpcError) → said ≡ error_response id r ∷ [] → has_float id ≡ false → AllByRecursion HasNoFloat said
error_plain said id r e h = subst (AllByRecursion HasNoFloat) (sym e) (ap (λ b. b || false) h, tt)

pub answer_plain : (id : Data) (o : Result Value RpcError) → has_float id ≡ false → IsPlain o → has_float (answer_to id (outcome_of o)) ≡ false
answer_plain id (Ok v) h p = ap (λ b. b || (has_float (view v) || false)) h ∙ ap (λ b. b || false) p
answer_plain id (Err r) h p = ap (λ b. b || false) h

pub notes_plain : (said : List Data) → AllByRecursion IsNote said → AllByRecursion HasNoFloat said
notes_plain [] h = tt
notes_plain (d ∷ ds) h = (h.0.1, notes_plain ds h.1)

reply_end : (ms : List Value) (v : Value) (id : Data) (o : Result Value RpcError) → AllByRecursion IsNote (map view ms) → view v ≡ answer_to id (outcome_of o) →
    has_float id ≡ false → IsPlain o → AllByRecursion HasNoFloat (map view (ms ++ v ∷ []))
reply_end [] v id o n e h p = (ap has_float e ∙ answer_plain id o h p, tt)
reply_end (m ∷ ms) v id o n e h p = (n.0.1, reply_end ms v id o n.1 e h p)

-- what is said to a request
pub request_plain : (items ms : List Value) (v : Value) (id : Data) (o : Result Value RpcError) → items ≡ ms ++ v ∷ [] → AllByRecursion IsNote (map view ms) →
    view v ≡ answer_to id (outcome_of o) → is_id id ≡ true → IsPlain o → AllByRecursion HasNoFloat (map view items)
request_plain items ms v id o is n e h p =
    subst (λ xs. AllByRecursion HasNoFloat (map view xs)) (sym is) (reply_end ms v id o n e (id_plain id h) p)
