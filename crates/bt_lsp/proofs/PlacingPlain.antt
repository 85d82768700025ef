-- Diagnostics of a style have no floats.
use Rattle.std.proofs.Common.{◌≡◌, ℕ, List, [], ◌∷◌, ◌++◌, map, drop, refl, Bool, true, false, Option, Some, None}
use Rattle.std.specs.List.{AllByRecursion}
use Rattle.serde_json.specs.Written.{has_float}
use Rattle.serde_json.specs.Data.{Data, array}
use Rattle.serde_json.specs.View.{items_of}
use Rattle.bt_talk.specs.Handled.{HasNoFloat}
use Rattle.bt_log.specs.declared.message.Message.{Message}
use Rattle.bt_log.specs.declared.message.Place.{Place}
use Rattle.bt_log.specs.declared.message.Place.TheVariants.{Line, DatabaseLine, WholeFile, Step}
use Rattle.bt_log.specs.declared.message.Said.{Said}
use Rattle.bt_log.specs.declared.message.Said.TheVariants.{Words, OfFile}
use Rattle.bt_documents.specs.declared.document.Document.{Document}
use Rattle.bt_diagnostics.specs.declared.diagnostic.Diagnostic.{Diagnostic}
use Rattle.bt_style_text.specs.declared.words.Word.{Word}
use Rattle.bt_remarks.specs.declared.step_word.StepWord.{StepWord}
use Rattle.bt_shapes.proofs.PlainLists.{items_plain, all_mapped}
use Rattle.bt_places.proofs.PlainLists.{all_both, fold_plain}
use Rattle.bt_lsp.specs.Placing.{moved, call, diagnostic_with, at_fault, at_step, value_at, with_one, with_placed, first_word, with_messages}

with_places_plain : (f : Diagnostic) (places : List Data) → has_float (array (items_of places)) ≡ false → has_float (diagnostic_with f places) ≡ false
with_places_plain f places p = rw p refl

fault_plain : (d : Document) (word : Option Word) (f : Diagnostic) → has_float (at_fault d word f) ≡ false
fault_plain d None f = refl
fault_plain d (Some w) f = refl

step_plain : (relates : Bool) (d : Document) (word : Option StepWord) (f : Diagnostic) → has_float (at_step relates d word f) ≡ false
step_plain relates d None f = refl
step_plain false d (Some w) f = refl
step_plain true d (Some w) f =
    with_places_plain (moved d w.start w.end f) (map (call d) w.calls) (items_plain (map (call d) w.calls) (all_mapped (call d) (λ c. refl) w.calls))

value_plain : (relates : Bool) (d : Document) (fault : Option Word) (word : Option StepWord) (place : Option Place) (said : Said) (f : Diagnostic) →
    has_float (value_at relates d fault word place said f) ≡ false
value_plain relates d fault word None said f = refl
value_plain relates d fault word (Some (Line file line byte)) (Words words) f = fault_plain d fault f
value_plain relates d fault word (Some (Line file line byte)) (OfFile note of) f = refl
value_plain relates d fault word (Some (DatabaseLine database line byte)) said f = refl
value_plain relates d fault word (Some (WholeFile file)) said f = refl
value_plain relates d fault word (Some (Step style line)) said f = step_plain relates d word f

placed_plain : (relates : Bool) (d : Document) (fault : Option Word) (word : Option StepWord) (m : Message) (list : List Data) (found : List Diagnostic) → AllByRecursion HasNoFloat list →
    AllByRecursion HasNoFloat (with_placed relates d fault word m list found)
placed_plain relates d fault word m list found p =
    fold_plain (with_one relates d fault word m)
    (λ l f q. all_both HasNoFloat l (value_at relates d fault word m.place m.said f ∷ []) q (value_plain relates d fault word m.place m.said f, tt)) found list p

pub messages_plain : (relates : Bool) (d : Document) (fault : Option Word) (found : Message → List Diagnostic) (words : List (Option StepWord)) (list : List Data) (ms : List Message) →
    AllByRecursion HasNoFloat list → AllByRecursion HasNoFloat (with_messages relates d fault found words list ms)
messages_plain relates d fault found words list [] p = p
messages_plain relates d fault found words list (m ∷ ms) p =
    messages_plain relates d fault found (drop 1 words) (with_placed relates d fault (first_word words) m list (found m)) ms
    (placed_plain relates d fault (first_word words) m list (found m) p)
