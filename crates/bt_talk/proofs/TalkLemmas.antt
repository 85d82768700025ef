-- From what was read and written to a turn, and from turns to the talk.
use Rattle.std.proofs.Common.{◌≡◌, ℕ, List, [], ◌++◌, ap, sym, ◌∙◌, append_assoc, append-nil, subst, Option, Some, Bool, true, false, Result}
use Rattle.std.specs.Io.KnownBytes.{Consumes, Appends}
use Rattle.bt_streams.proofs.KnownLemmas.{consumed, appended}
use Rattle.serde_json.specs.Data.{Data}
use Rattle.bt_rpc.specs.declared.answers.RpcError.{RpcError}
use Rattle.bt_talk.specs.Handled.{Mail, IsFrame, Handled}
use Rattle.bt_talk.specs.Talks.{Talks, ends, stops, goes_on, Turn, sent}

-- a turn that read this frame, handled it, and wrote what was said
pub turned : {D : Type 0} (answers : D → List ℕ → Data → Result Data RpcError → List Data → D → Type 0)
    (notes : D → List ℕ → Data → List Data → D → Type 0) (lost : D → D → Type 0) (old new held held' : Option (List ℕ)) (bytes input said : List ℕ) (mail : Mail) (messages : List Data) (d e : D) →
    Consumes old new bytes → IsFrame bytes mail → Handled answers notes lost mail d messages e → Appends held held' (sent messages) → old ≡ Some input → held ≡ Some said →
    (rest said' : List ℕ) × (new ≡ Some rest) × (held' ≡ Some said') × Turn answers notes lost false input rest d said said' e
turned answers notes lost old new held held' bytes input said mail messages d e p is h w o s =
    let k = consumed old new bytes input p o in
    let v = appended held held' (sent messages) said w s in
    (k.0, v.0, k.1, v.1, (bytes, mail, messages, is, k.2, h, v.2))

-- the talk so far, whatever follows
abbrev pub TalksOn : {D : Type 0} → (D → List ℕ → Data → Result Data RpcError → List Data → D → Type 0) →
    (D → List ℕ → Data → List Data → D → Type 0) → (D → D → Type 0) → (D → Bool) → List ℕ → List ℕ → D → List ℕ → D → Type 0
TalksOn {D} answers notes lost is_over input mid d told e =
    (over : Bool) (rest bytes : List ℕ) (f : D) → Talks answers notes lost is_over over mid rest e bytes f → Talks answers notes lost is_over over input rest d (told ++ bytes) f

nothing_more : {D : Type 0} (answers : D → List ℕ → Data → Result Data RpcError → List Data → D → Type 0)
    (notes : D → List ℕ → Data → List Data → D → Type 0) (lost : D → D → Type 0) (is_over : D → Bool) (mid rest : List ℕ) (d e : D) → mid ≡ [] → rest ≡ [] → e ≡ d → Talks answers notes lost is_over false mid rest d [] e
nothing_more answers notes lost is_over mid rest d e p q r = rw (p, q, r) (ends d)

-- the input is over
pub talk_ends : {D : Type 0} (answers : D → List ℕ → Data → Result Data RpcError → List Data → D → Type 0)
    (notes : D → List ℕ → Data → List Data → D → Type 0) (lost : D → D → Type 0) (is_over : D → Bool) (input mid rest said told said' : List ℕ) (held' : Option (List ℕ)) (d e f : D) →
    TalksOn answers notes lost is_over input mid d told e → Turn answers notes lost true mid rest e (said ++ told) said' f → held' ≡ Some said' →
    (bytes : List ℕ) × (held' ≡ Some (said ++ bytes)) × Talks answers notes lost is_over false input rest d bytes f
talk_ends answers notes lost is_over input mid rest said told said' held' d e f on t h = (
  told ++ [],
  h ∙ ap Some (t.2 ∙ ap (λ x. said ++ x) (sym (append-nil told))),
  on false rest [] f (nothing_more answers notes lost is_over mid rest e f t.0 t.1 t.3),
)

-- one more frame was handled
pub talk_goes_on : {D : Type 0} (answers : D → List ℕ → Data → Result Data RpcError → List Data → D → Type 0)
    (notes : D → List ℕ → Data → List Data → D → Type 0) (lost : D → D → Type 0) (is_over : D → Bool) (input mid rest said told said' : List ℕ) (held' : Option (List ℕ)) (d e f : D) →
    TalksOn answers notes lost is_over input mid d told e → Turn answers notes lost false mid rest e (said ++ told) said' f → held' ≡ Some said' → is_over f ≡ false →
    (told' : List ℕ) × (held' ≡ Some (said ++ told')) × TalksOn answers notes lost is_over input rest d told' f
talk_goes_on answers notes lost is_over input mid rest said told said' held' d e f on t h o =
    let words = sent t.2 in (
      told ++ words,
      h ∙ ap Some (t.6 ∙ append_assoc said told words),
      λ over r bytes k more_talk.
          subst (λ x. Talks answers notes lost is_over over input r d x k) (sym (append_assoc told words bytes))
          (on over r (words ++ bytes) k (goes_on over mid t.0 rest r bytes t.1 t.2 e f k t.3 t.4 t.5 o more_talk)),
    )

-- the last frame ended the talk
pub talk_stops : {D : Type 0} (answers : D → List ℕ → Data → Result Data RpcError → List Data → D → Type 0)
    (notes : D → List ℕ → Data → List Data → D → Type 0) (lost : D → D → Type 0) (is_over : D → Bool) (input mid rest said told said' : List ℕ) (held' : Option (List ℕ)) (d e f : D) →
    TalksOn answers notes lost is_over input mid d told e → Turn answers notes lost false mid rest e (said ++ told) said' f → held' ≡ Some said' → is_over f ≡ true →
    (bytes : List ℕ) × (held' ≡ Some (said ++ bytes)) × Talks answers notes lost is_over true input rest d bytes f
talk_stops answers notes lost is_over input mid rest said told said' held' d e f on t h o =
    let words = sent t.2 in
    (told ++ words, h ∙ ap Some (t.6 ∙ append_assoc said told words), on true rest words f (stops mid t.0 rest t.1 t.2 e f t.3 t.4 t.5 o))
