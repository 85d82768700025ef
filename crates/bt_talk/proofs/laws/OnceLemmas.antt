-- A request is answered once, and a notification isn't.
use Rattle.std.proofs.Common.{◌≡◌, ◌⊎◌, inl, inr, ℕ, List, [], ◌∷◌, ◌++◌, filter, refl, ap, ◌∙◌, subst, codes, true, Option, None, Some, Result, Ok, Err}
use Rattle.std.specs.List.{AllByRecursion}
use Rattle.serde_json.specs.Data.{Data, null}
use Rattle.serde_json.specs.Read.{read}
use Rattle.serde_json.specs.Find.{get}
use Rattle.bt_rpc.specs.declared.answers.RpcError.{RpcError}
use Rattle.bt_rpc.specs.declared.answers.RpcError.TheVariants.{InternalError}
use Rattle.bt_rpc.specs.Messages.{request, notified, kind_of, is_answer, error_response}
use Rattle.bt_talk.specs.Handled.{text, IsJson, IsNote, CarriedOut, Handled, answer_to}
use Rattle.bt_talk.specs.laws.Once.{IsAnsweredOnce, IsNotAnswered}

answers_are : (id : Data) (o : Result Data RpcError) → is_answer (answer_to id o) ≡ true
answers_are id (Ok d) = refl
answers_are id (Err r) = refl

answers_have : (id : Data) (o : Result Data RpcError) → get (codes "id") (answer_to id o) ≡ Some id
answers_have id (Ok d) = refl
answers_have id (Err r) = refl

kept : (a : Data) → is_answer a ≡ true → filter is_answer (a ∷ []) ≡ a ∷ []
kept a e = rw e refl

notes_drop : (told rest : List Data) → AllByRecursion IsNote told → filter is_answer (told ++ rest) ≡ filter is_answer rest
notes_drop [] rest h = refl
notes_drop (d ∷ ds) rest h = rw h.0.0 (notes_drop ds rest h.1)

no_answers : (told : List Data) → AllByRecursion IsNote told → filter is_answer told ≡ []
no_answers [] h = refl
no_answers (d ∷ ds) h = rw h.0.0 (no_answers ds h.1)

one_answer : (id a : Data) (said : List Data) → said ≡ a ∷ [] → is_answer a ≡ true → (get (codes "id") a ≡ Some id) ⊎ (a ≡ error_response null InternalError) → IsAnsweredOnce id said
one_answer id a said is e h = (a, ap (filter is_answer) is ∙ kept a e, h)

same_message : (o : Option Data) (m n : Data) → o ≡ Some m → o ≡ Some n → n ≡ m
same_message o m n p q = cc

read_twice : (body : List ℕ) (m : Data) → read body ≡ Some m → read body ≡ None → ⊥
read_twice body m p q = cc

pub answered_once : {D : Type 0} (answers : D → List ℕ → Data → Result Data RpcError → List Data → D → Type 0) (notes : D → List ℕ → Data → List Data → D → Type 0) (lost : D → D → Type 0)
    (body method : List ℕ) (m id : Data) (said : List Data) (d e : D) → IsJson body m → kind_of m ≡ request id method → Handled answers notes lost (text body) d said e → IsAnsweredOnce id said
answered_once answers notes lost body method m id said d e json kind (inl (n, is, carried)) =
    let same : n ≡ m = same_message (read body) m n json.1 is.1 in
    go (subst (λ k. CarriedOut answers notes lost k n d said e) (ap kind_of same ∙ kind) carried)
  where
    go : CarriedOut answers notes lost (request id method) n d said e → IsAnsweredOnce id said
    go (inl (outcome, told, how, are, is)) =
        let a = answer_to id outcome in
        (a, ap (filter is_answer) is ∙ notes_drop told (a ∷ []) are ∙ kept a (answers_are id outcome), inl (answers_have id outcome))
    go (inr (is, stays)) = one_answer id (error_response id InternalError) said is refl (inl refl)
answered_once answers notes lost body method m id said d e json kind (inr (inl (broken, is, stays))) = absurd (read_twice body m json.1 (broken json.0))
answered_once answers notes lost body method m id said d e json kind (inr (inr (is, stays))) = one_answer id (error_response null InternalError) said is refl (inr refl)

pub not_answered : {D : Type 0} (answers : D → List ℕ → Data → Result Data RpcError → List Data → D → Type 0) (notes : D → List ℕ → Data → List Data → D → Type 0) (lost : D → D → Type 0)
    (body method : List ℕ) (m : Data) (said : List Data) (d e : D) → IsJson body m → kind_of m ≡ notified method → Handled answers notes lost (text body) d said e → IsNotAnswered said
not_answered answers notes lost body method m said d e json kind (inl (n, is, carried)) =
    let same : n ≡ m = same_message (read body) m n json.1 is.1 in
    go (subst (λ k. CarriedOut answers notes lost k n d said e) (ap kind_of same ∙ kind) carried)
  where
    go : CarriedOut answers notes lost (notified method) n d said e → IsNotAnswered said
    go (how, are) = inl (no_answers said are)
not_answered answers notes lost body method m said d e json kind (inr (inl (broken, is, stays))) = absurd (read_twice body m json.1 (broken json.0))
not_answered answers notes lost body method m said d e json kind (inr (inr (is, stays))) = inr is
