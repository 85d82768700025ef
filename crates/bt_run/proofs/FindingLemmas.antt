-- What READ finds: the question that is kept, and a database that an edit changes.
use Rattle.std.specs.Prelude.{IfSome, IsTrue, slice_get, slice_set}
use Rattle.std.specs.Option.{ForSome, option_map}
use Rattle.std.proofs.Common.{◌≡◌, ◌∙◌, ap, sym, refl, subst, ℕ, zero, suc, ◌+◌, ◌<◌, ◌≤◌, List, [], ◌∷◌, ◌++◌, length, take, drop, map, Option, Some, None, arith}
use Rattle.std.proofs.lemmas.List.{length-map, map-set}
use Rattle.std.proofs.lemmas.Option.{slice_get-map}
use Rattle.bt_text.specs.NameList.{are_apart}
use Rattle.bt_bib.specs.BibText.{pieces_of}
use Rattle.bt_bib.specs.Items.{PlacedItem, items_of}
use Rattle.bt_bib.specs.Splice.{IsItemsEdit}
use Rattle.bt_bib.specs.declared.placed_pieces.PlacedPiece.{PlacedPiece}
use Rattle.bt_bib.specs.declared.splice.ItemsEdit.{ItemsEdit}
use Rattle.bt_resolve.specs.declared.question.Question.{Question}
use Rattle.bt_resolve.specs.Resolved.{resolved}
use Rattle.bt_resolve.specs.declared.earlier.KeptPieces.{KeptPieces}
use Rattle.bt_resolve.specs.inner.Earlier.{AreEdited, AreKeptPieces}
use Rattle.bt_resolve.specs.inner.Kept.{IsEditOf, resolved_for, with_database}
use Rattle.bt_run.specs.ReadCommand.{Job, declared_before, found_for}
use Rattle.bt_run.specs.inner.Cases.{text_in}
use Rattle.bt_resolve.proofs.EarlierLemmas.{one_edited}
use Rattle.bt_resolve.proofs.ListLemmas.{same_some}
use Rattle.bt_run.specs.declared.asking.Asking.{Asking}
use Rattle.bt_run.specs.declared.database_edit.DatabaseEdit.{DatabaseEdit}
use Rattle.bt_run.specs.inner.Edits.{KeepsPieces}
use Rattle.bt_run.specs.inner.Asked.{question_for, question_of, with_databases}

-- ---- a list with another element in one place

abbrev text_or : List ℕ → Option (List ℕ) → List ℕ
text_or d None = d
text_or d (Some t) = t

parts_of : (xs : List (List ℕ)) (k : ℕ) (x : List ℕ) → slice_get xs k ≡ Some x → xs ≡ take k xs ++ x ∷ drop (suc k) xs
parts_of [] k x is = let none : Option (List ℕ) = None in let wrong : none ≡ Some x = is in cc
parts_of (d ∷ xs) zero x is = λ j. ap (text_or d) is j ∷ xs
parts_of (d ∷ xs) (suc k) x is = ap (λ (ys : List (List ℕ)). d ∷ ys) (parts_of xs k x is)

set_parts : (xs : List (List ℕ)) (k : ℕ) (x y : List ℕ) → slice_get xs k ≡ Some x → slice_set xs k y ≡ take k xs ++ y ∷ drop (suc k) xs
set_parts [] k x y is = let none : Option (List ℕ) = None in let wrong : none ≡ Some x = is in cc
set_parts (d ∷ xs) zero x y is = refl
set_parts (d ∷ xs) (suc k) x y is = ap (λ (ys : List (List ℕ)). d ∷ ys) (set_parts xs k x y is)

pub one_other : (xs ys : List (List ℕ)) (k : ℕ) (x y : List ℕ) → slice_get xs k ≡ Some x → slice_get ys k ≡ Some y → take k xs ≡ take k ys → drop (k + 1) xs ≡ drop (k + 1) ys → ys ≡ slice_set xs k y
one_other xs ys k x y here there front back =
    let next : k + 1 ≡ suc k = omega arith in
    let behind : drop (suc k) xs ≡ drop (suc k) ys = ap (λ (n : ℕ). drop n xs) (sym next) ∙ back ∙ ap (λ (n : ℕ). drop n ys) next in
    parts_of ys k y there ∙ (λ j. sym front j ++ y ∷ sym behind j) ∙ sym (set_parts xs k x y here)

-- ---- an edit

pub edit_of_kept : (q : Question) (texts : List (List ℕ)) (number : ℕ) (old new : List ℕ) (was items : List PlacedPiece) (e : ItemsEdit) → q.databases ≡ map pieces_of texts → slice_get texts number ≡ Some old → was ≡ pieces_of old → items ≡ pieces_of new → IsItemsEdit was (pieces_of new) e → IsEditOf q number items e
edit_of_kept q texts number old new was items e read here are_was are_items edit = record {
  old = pieces_of old;
  here = ap (λ (ds : List (List PlacedPiece)). slice_get ds number) read ∙ slice_get-map pieces_of texts number ∙ ap (λ (o : Option (List ℕ)). option_map pieces_of o) here;
  edit = subst (λ (ps : List PlacedPiece). IsItemsEdit ps items e) are_was (subst (λ (ps : List PlacedPiece). IsItemsEdit was ps e) (sym are_items) edit);
}

-- and what is asked after it
pub put_texts : (q r : Question) (texts : List (List ℕ)) (number : ℕ) (text : List ℕ) (items : List PlacedPiece) → q.databases ≡ map pieces_of texts → items ≡ pieces_of text → r ≡ with_database number items q → r ≡ with_databases (map pieces_of (slice_set texts number text)) q
put_texts q r texts number text items read are_items is =
    let databases : slice_set q.databases number items ≡ map pieces_of (slice_set texts number text) =
    (λ j. slice_set (read j) number (are_items j)) ∙ sym (map-set pieces_of texts number text) in
    is ∙ ap (λ (ds : List (List PlacedPiece)). with_databases ds q) databases

pub within_texts : (q : Question) (texts : List (List ℕ)) (number : ℕ) → q.databases ≡ map pieces_of texts → number < length q.databases → number < length texts
within_texts q texts number read less = omega (arith, less, ap length read, length-map texts pieces_of)

-- ---- the question

pub maps : {A B C : Type 0} (f : B → C) (g : A → B) (xs : List A) → map (λ x. f (g x)) xs ≡ map f (map g xs)
maps f g [] = refl
maps f g (x ∷ xs) = ap (λ ys. f (g x) ∷ ys) (maps f g xs)

-- the texts are those of the question
pub texts_kept : (q : Question) (texts others : List (List ℕ)) → q.databases ≡ map pieces_of texts → texts ≡ others → q ≡ with_databases (map pieces_of others) q
texts_kept q texts others read same = ap (λ (ds : List (List PlacedPiece)). with_databases ds q) (read ∙ ap (map pieces_of) same)

-- a kept question that differs in its databases alone, once it has those that are asked about
pub asked_now : (was now asked : Question) (databases : List (List PlacedPiece)) → was ≡ with_databases was.databases asked → now ≡ with_databases databases was → asked.databases ≡ databases → now ≡ asked
asked_now was now asked databases like is same =
    is
    ∙ ap (with_databases databases) like
    ∙ ap (λ (ds : List (List PlacedPiece)). with_databases ds asked) (sym same)

pub asked_at : (job : Job) (number : ℕ) (a : Asking) → a.declared ≡ declared_before number job.program → a.cites ≡ job.cites → a.texts ≡ map (text_in job.files) job.databases → a.min ≡ job.min → question_of a ≡ question_for job number
asked_at job number a is_declared are_cites are_texts is_min =
    let databases = ap (map pieces_of) are_texts ∙ sym (maps pieces_of (text_in job.files) job.databases) in
    λ j. record { declared = is_declared j; cites = are_cites j; databases = databases j; min = is_min j }

pub same_question : (q asked : Question) → asked.min ≡ q.min → asked.declared ≡ q.declared → asked.cites ≡ q.cites → q ≡ with_databases q.databases asked
same_question q asked mins declareds citeses = λ j. record { declared = sym declareds j; cites = sym citeses j; databases = q.databases; min = sym mins j }

-- what is resolved for the question of READ is what READ finds
pub resolved_is : (job : Job) (number : ℕ) → resolved_for (question_for job number) ≡ found_for job number
resolved_is job number =
    ap (λ (ds : List (List PlacedItem)). resolved (declared_before number job.program) job.cites ds job.min)
    (sym (maps items_of (λ (name : List ℕ). pieces_of (text_in job.files name)) job.databases))

-- what READ asks declares names that are apart, and its `*` is among its citations
pub fields_apart : (a : Asking) (q : Question) → question_of a ≡ q → IsTrue (are_apart q.declared.fields) → IsTrue (are_apart a.declared.fields)
fields_apart a q is apart = subst (λ (r : Question). IsTrue (are_apart r.declared.fields)) (sym is) apart

star_before : (star : Option ℕ) (n : ℕ) → ForSome star (λ before. before ≤ n) → IfSome star (λ before. before ≤ n)
star_before None n within = tt
star_before (Some before) n within = within before refl

pub star_within : (a : Asking) (q : Question) → question_of a ≡ q → ForSome q.cites.star (λ before. before ≤ length q.cites.keys) → IfSome a.cites.star (λ before. before ≤ length a.cites.keys)
star_within a q is within =
    subst (λ (r : Question). IfSome r.cites.star (λ before. before ≤ length r.cites.keys)) (sym is)
    (star_before q.cites.star (length q.cites.keys) within)

-- ---- pieces that stay

pub pieces_stay : (q : Question) (number : ℕ) (items : List PlacedPiece) (e : ItemsEdit) (kept : KeptPieces) → IsEditOf q number items e → ((old new : List PlacedPiece) → IsItemsEdit old new e → AreKeptPieces old new kept) →
    (old : List PlacedPiece) → slice_get q.databases number ≡ Some old → AreKeptPieces old items kept
pieces_stay q number items e kept of keeps old here = subst (λ (ps : List PlacedPiece). AreKeptPieces ps items kept) (same_some of.old old (sym of.here ∙ here)) (keeps of.old items of.edit)

pub texts_edited : (q : Question) (texts others : List (List ℕ)) (e : DatabaseEdit) → q.databases ≡ map pieces_of texts → others ≡ slice_set texts e.number e.text → KeepsPieces q e → AreEdited q (record { number = e.number; kept = e.kept }) (map pieces_of others)
texts_edited q texts others e read makes keeps =
    one_edited q e.number e.items e.kept (map pieces_of others)
    (ap (map pieces_of) makes ∙ map-set pieces_of texts e.number e.text ∙ (λ j. slice_set (sym read j) e.number (sym e.read j)))
    keeps
