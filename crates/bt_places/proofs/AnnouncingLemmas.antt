-- A list with a note that the editor may ask for, from the note's steps.
use Rattle.std.proofs.Common.{◌≡◌, ◌∙◌, ap, ℕ, Bool, true, false, if◌then◌else◌, List, [], ◌∷◌, ◌++◌}
use Rattle.std.proofs.lemmas.Bool.{false≢true}
use Rattle.serde_json.specs.Data.{Data}
use Rattle.bt_rpc.specs.Messages.{notification}
use Rattle.bt_places.specs.Shapes.{shown_text, shown_status}

-- a note with a text and the run's status
pub asked_text : (is_asked : Bool) (method text shown : List ℕ) (status run : ℕ) (list all : List Data) → is_asked ≡ true → text ≡ shown → status ≡ run →
    all ≡ list ++ notification method (shown_text text status) ∷ [] →
    all ≡ (if is_asked then list ++ notification method (shown_text shown run) ∷ [] else list)
asked_text true method text shown status run list all asked is_text is_status is =
    is ∙ ap (λ (t : List ℕ). list ++ notification method (shown_text t status) ∷ []) is_text
    ∙ ap (λ (s : ℕ). list ++ notification method (shown_text shown s) ∷ []) is_status
asked_text false method text shown status run list all asked is_text is_status is = absurd (false≢true asked)

-- a note with the run's status
pub asked_status : (is_asked : Bool) (method : List ℕ) (status run : ℕ) (list all : List Data) → is_asked ≡ true → status ≡ run →
    all ≡ list ++ notification method (shown_status status) ∷ [] →
    all ≡ (if is_asked then list ++ notification method (shown_status run) ∷ [] else list)
asked_status true method status run list all asked is_status is = is ∙ ap (λ (s : ℕ). list ++ notification method (shown_status s) ∷ []) is_status
asked_status false method status run list all asked is_status is = absurd (false≢true asked)
