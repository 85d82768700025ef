-- Lists of values without floats.
use Rattle.std.proofs.Common.{◌≡◌, ℕ, List, [], ◌∷◌, ◌++◌, refl, Bool, true, false, if◌then◌else◌, Result, Ok, Err}
use Rattle.std.specs.List.{AllByRecursion, fold}
use Rattle.serde_json.specs.Written.{has_float}
use Rattle.serde_json.specs.Data.{Data, null}
use Rattle.bt_rpc.specs.declared.answers.RpcError.{RpcError}
use Rattle.bt_talk.specs.Handled.{HasNoFloat}
use Rattle.bt_documents.specs.declared.document.Document.{Document}
use Rattle.bt_places.specs.Entries.{is_tex}
pub use Rattle.bt_shapes.proofs.PlainLists.{items_plain, all_both}
use Rattle.bt_places.specs.Visiting.{with_files, with_tex, with_texts}

pub none_or : (b : Bool) (d : Data) → has_float d ≡ false → has_float (if b then null else d) ≡ false
none_or true d p = refl
none_or false d p = p

pub some_or_null : (b : Bool) (d : Data) → has_float d ≡ false → has_float (if b then d else null) ≡ false
some_or_null true d p = p
some_or_null false d p = refl

pub if_plain : (b : Bool) (ds : List Data) → AllByRecursion HasNoFloat ds → AllByRecursion HasNoFloat (if b then ds else [])
if_plain true ds p = p
if_plain false ds p = tt

pub either_plain : (b : Bool) (xs ys : List Data) → AllByRecursion HasNoFloat xs → AllByRecursion HasNoFloat ys → AllByRecursion HasNoFloat (if b then xs else ys)
either_plain true xs ys p q = p
either_plain false xs ys p q = q

-- an outcome
abbrev pub IsPlainData : Result Data RpcError → Type 0
IsPlainData (Ok d) = has_float d ≡ false
IsPlainData (Err e) = Unit {0}

pub either_outcome : (b : Bool) (x y : Result Data RpcError) → IsPlainData x → IsPlainData y → IsPlainData (if b then x else y)
either_outcome true x y p q = p
either_outcome false x y p q = q

-- what a fold adds
pub fold_plain : {A : Type 0} (add : List Data → A → List Data) → ((list : List Data) (x : A) → AllByRecursion HasNoFloat list → AllByRecursion HasNoFloat (add list x)) →
    (xs : List A) (list : List Data) → AllByRecursion HasNoFloat list → AllByRecursion HasNoFloat (fold add list xs)
fold_plain add step [] list p = p
fold_plain add step (x ∷ xs) list p = fold_plain add step xs (add list x) (step list x p)

-- one value more, if a test holds
pub pushed_plain : (b : Bool) (d : Data) (list : List Data) → has_float d ≡ false → AllByRecursion HasNoFloat list → AllByRecursion HasNoFloat (if b then list ++ d ∷ [] else list)
pushed_plain b d list is p = either_plain b (list ++ d ∷ []) list (all_both HasNoFloat list (d ∷ []) p (is, tt)) p

pub files_plain : (add : List Data → List ℕ → List ℕ → List Data) → ((list : List Data) (uri text : List ℕ) → AllByRecursion HasNoFloat list → AllByRecursion HasNoFloat (add list uri text)) →
    (files : List (List ℕ × List ℕ)) (list : List Data) → AllByRecursion HasNoFloat list → AllByRecursion HasNoFloat (with_files add files list)
files_plain add step [] list p = p
files_plain add step (f ∷ files) list p = files_plain add step files (add list f.0 f.1) (step list f.0 f.1 p)

pub texts_plain : (add : List Data → List ℕ → List ℕ → List Data) → ((list : List Data) (uri text : List ℕ) → AllByRecursion HasNoFloat list → AllByRecursion HasNoFloat (add list uri text)) →
    (docs : List Document) (list : List Data) → AllByRecursion HasNoFloat list → AllByRecursion HasNoFloat (with_texts add docs list)
texts_plain add step docs list p =
    fold_plain (with_tex add) (λ l d q. either_plain (is_tex d.name) (add l d.name d.text) l (step l d.name d.text q) q) docs list p
