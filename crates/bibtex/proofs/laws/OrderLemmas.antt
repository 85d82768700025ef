-- Two states with the same texts, in whatever order, show and report the same.
use Rattle.std.proofs.Common.{◌≡◌, ◌∙◌, ap, sym, refl, subst, ℕ, Bool, not, ◌&&◌, List, [], ◌∷◌, length, Option, Some, None, Result, Ok, Err, IfOk}
use Rattle.std.specs.Prelude.{if◌then◌else◌, nat_lt, nat_le, bytes_eq, is_none, unwrap_or}
use Rattle.bt_job.specs.declared.files.File.{File}
use Rattle.bt_job.specs.FileNames.{is_file_name, text_of}
use Rattle.bt_run.specs.declared.answers.Report.{Report}
use Rattle.bt_run.specs.Meaning.{meaning, trace}
use Rattle.bt_run.specs.Kept.{style_text}
use Rattle.bibtex.specs.declared.edit.Refusal.{Refusal}
use Rattle.bibtex.specs.declared.edit.Refusal.TheVariants.{BadName, NoSuchFile, FileTooLarge, TooManyFiles}
use Rattle.bibtex.specs.declared.state.State.{State}
use Rattle.bibtex.specs.Edit.{Edit, bytes_of, write, splice, remove, root_name, min_crossrefs}
use Rattle.bibtex.specs.Present.{EachOnce, place_of_file, with_text, shown, reported}
use Rattle.bibtex.specs.inner.Cases.{replaced, found_refusal, unless_refused}
use Rattle.bibtex.specs.Applied.{file_size_limit, file_count_limit, refusal_of, changed, applied, IsAnswer}
use Rattle.bibtex.specs.Headline.{after_answer, AnswersInTurn, ReportsInTurn, after_answers}
use Rattle.bibtex.specs.laws.Order.{AreAlike, ComeToTheSame}
use Rattle.bt_run.proofs.laws.ByNameLemmas.{meaning_same, trace_same, style_text_same}
use Rattle.bibtex.proofs.TextLemmas.{text_of_without}
use Rattle.bibtex.proofs.TextLemmas.{text_of_with}
use Rattle.bibtex.proofs.laws.TextLemmas.{place_there, as_many}
use Rattle.bibtex.proofs.OrderLemmas.{once_applied}

-- What is shown

pub shown_alike : (s t : State) → AreAlike s t → shown s ≡ shown t
shown_alike s t alike =
    meaning_same s.texts t.texts alike.texts s.root s.min ∙ ap (λ root. meaning t.texts root s.min) alike.root ∙ ap (meaning t.texts t.root) alike.min

trace_alike : (s t : State) → AreAlike s t → trace s.texts s.root s.min ≡ trace t.texts t.root t.min
trace_alike s t alike =
    trace_same s.texts t.texts alike.texts s.root s.min ∙ ap (λ root. trace t.texts root s.min) alike.root ∙ ap (trace t.texts t.root) alike.min

style_alike : (s t : State) → AreAlike s t → style_text s.texts s.root ≡ style_text t.texts t.root
style_alike s t alike = style_text_same s.texts t.texts alike.texts s.root ∙ ap (style_text t.texts) alike.root

pub reported_alike : (s t s' t' : State) → AreAlike s t → AreAlike s' t' → reported s s' ≡ reported t t'
reported_alike s t s' t' old new =
    rw (style_alike s t old, trace_alike s t old, style_alike s' t' new, trace_alike s' t' new, shown_alike s' t' new) refl

-- Refusals

write_alike : (name : List ℕ) (size : ℕ) (none : Bool) (count : ℕ) → Option Refusal
write_alike name size none count =
    if not (is_file_name name) then Some BadName
    else if nat_lt file_size_limit size then Some FileTooLarge
    else if none && nat_le file_count_limit count then Some TooManyFiles
    else None

refusal_alike : (e : Edit) (size : ℕ) (s t : State) → EachOnce s.texts → EachOnce t.texts → AreAlike s t → refusal_of e size s ≡ refusal_of e size t
unfolding write_alike
refusal_alike (write name bytes) size s t once also alike =
    ap (λ none. write_alike name size none (length s.texts)) (place_there name s.texts ∙ ap is_none (alike.texts name) ∙ sym (place_there name t.texts))
    ∙ ap (write_alike name size (is_none (place_of_file name t.texts))) (as_many s.texts t.texts once also alike.texts)
refusal_alike (splice name start end bytes) size s t once also alike =
    ap (λ o. if not (is_file_name name) then Some BadName else found_refusal o start end size) (alike.texts name)
refusal_alike (remove name) size s t once also alike =
    ap (λ o. if not (is_file_name name) then Some BadName else if is_none o then Some NoSuchFile else None) (alike.texts name)
refusal_alike (root_name name) size s t once also alike = refl
refusal_alike (min_crossrefs n) size s t once also alike = refl

-- Changes

with_alike : (name text : List ℕ) (files others : List File) → ((n : List ℕ) → text_of files n ≡ text_of others n) → (n : List ℕ) → text_of (with_text name text files) n ≡ text_of (with_text name text others) n
with_alike name text files others same n =
    text_of_with name text files n ∙ ap (λ o. if bytes_eq name n then Some text else o) (same n) ∙ sym (text_of_with name text others n)

-- the text of a name that its old text decides
set_alike : (name : List ℕ) (made : Option (List ℕ) → List ℕ) (s t : State) → AreAlike s t →
    AreAlike (record s { texts = with_text name (made (text_of s.texts name)) s.texts }) (record t { texts = with_text name (made (text_of t.texts name)) t.texts })
set_alike name made s t alike =
    record {
      texts = λ n.
          ap (λ o. text_of (with_text name (made o) s.texts) n) (alike.texts name)
          ∙ with_alike name (made (text_of t.texts name)) s.texts t.texts alike.texts n;
      root = alike.root;
      min = alike.min;
    }

changed_alike : (e : Edit) (s t : State) → AreAlike s t → AreAlike (changed e s) (changed e t)
changed_alike (write name bytes) s t alike = set_alike name (λ o. bytes) s t alike
changed_alike (splice name start end bytes) s t alike = set_alike name (λ o. replaced start end bytes (unwrap_or o [])) s t alike
changed_alike (remove name) s t alike =
    record {
      texts = λ n. text_of_without name s.texts n ∙ ap (λ o. if bytes_eq name n then None else o) (alike.texts n) ∙ sym (text_of_without name t.texts n);
      root = alike.root;
      min = alike.min;
    }
changed_alike (root_name name) s t alike = record { texts = alike.texts; root = refl; min = alike.min }
changed_alike (min_crossrefs n) s t alike = record { texts = alike.texts; root = alike.root; min = refl }

-- Edits

unless_alike : (o : Option Refusal) (s t : State) → AreAlike s t → ComeToTheSame (unless_refused o s) (unless_refused o t)
unless_alike None s t alike = alike
unless_alike (Some refusal) s t alike = refl

pub applied_alike : (e : Edit) (s t : State) → EachOnce s.texts → EachOnce t.texts → AreAlike s t → ComeToTheSame (applied e s) (applied e t)
applied_alike e s t once also alike =
    subst (λ o. ComeToTheSame (applied e s) (unless_refused o (changed e t))) (refusal_alike e (length (bytes_of e)) s t once also alike)
    (unless_alike (refusal_of e (length (bytes_of e)) s) (changed e s) (changed e t) (changed_alike e s t alike))

-- Lists of edits

answer_alike : (x y : Result State Refusal) (a : Result Report Refusal) → ComeToTheSame x y → IsAnswer x a → IsAnswer y a
answer_alike (Ok s) (Ok t) a same is = is
answer_alike (Ok s) (Err refusal) a same is = absurd same
answer_alike (Err refusal) (Ok t) a same is = absurd same
answer_alike (Err refusal) (Err other) a same is = is ∙ ap Err same

behind_alike : (x y : Result State Refusal) (a : Result Report Refusal) (s t : State) → AreAlike s t → ComeToTheSame x y → AreAlike (after_answer a x s) (after_answer a y t)
behind_alike (Ok s') (Ok t') (Ok report) s t alike same = same
behind_alike (Ok s') (Ok t') (Err why) s t alike same = alike
behind_alike (Ok s') (Err refusal) a s t alike same = absurd same
behind_alike (Err refusal) (Ok t') a s t alike same = absurd same
behind_alike (Err refusal) (Err other) (Ok report) s t alike same = alike
behind_alike (Err refusal) (Err other) (Err why) s t alike same = alike

once_behind : (x : Result State Refusal) (a : Result Report Refusal) (s : State) → EachOnce s.texts → ((t : State) → x ≡ Ok t → EachOnce t.texts) → EachOnce (after_answer a x s).texts
once_behind (Ok t) (Ok report) s once made = made t refl
once_behind (Ok t) (Err why) s once made = once
once_behind (Err refusal) (Ok report) s once made = once
once_behind (Err refusal) (Err why) s once made = once

report_alike : (a : Result Report Refusal) (r q : Report) → r ≡ q → IfOk a (λ report. report ≡ r) → IfOk a (λ report. report ≡ q)
report_alike a r q is told = subst (λ (v : Report). IfOk a (λ report. report ≡ v)) is told

pub answered_alike : (es : List Edit) (answers : List (Result Report Refusal)) (s t : State) → EachOnce s.texts → EachOnce t.texts → AreAlike s t →
    AnswersInTurn es answers s → AnswersInTurn es answers t
answered_alike [] [] s t once also alike told = tt
answered_alike [] (a ∷ rest) s t once also alike told = absurd told
answered_alike (e ∷ es) [] s t once also alike told = absurd told
answered_alike (e ∷ es) (a ∷ rest) s t once also alike told =
    let same = applied_alike e s t once also alike in
    let next = behind_alike (applied e s) (applied e t) a s t alike same in (
      answer_alike (applied e s) (applied e t) a same told.0,
      answered_alike es rest (after_answer a (applied e s) s) (after_answer a (applied e t) t)
          (once_behind (applied e s) a s once (λ u is. once_applied e s u once is)) (once_behind (applied e t) a t also (λ u is. once_applied e t u also is)) next told.1,
    )

pub told_alike : (es : List Edit) (answers : List (Result Report Refusal)) (s t : State) → EachOnce s.texts → EachOnce t.texts → AreAlike s t →
    ReportsInTurn es answers s → ReportsInTurn es answers t
told_alike [] answers s t once also alike told = tt
told_alike (e ∷ es) [] s t once also alike told = tt
told_alike (e ∷ es) (a ∷ rest) s t once also alike told =
    let next = behind_alike (applied e s) (applied e t) a s t alike (applied_alike e s t once also alike) in (
      report_alike a _ _ (reported_alike s t (after_answer a (applied e s) s) (after_answer a (applied e t) t) alike next) told.0,
      told_alike es rest (after_answer a (applied e s) s) (after_answer a (applied e t) t)
          (once_behind (applied e s) a s once (λ u is. once_applied e s u once is)) (once_behind (applied e t) a t also (λ u is. once_applied e t u also is)) next told.1,
    )

pub all_alike : (es : List Edit) (answers : List (Result Report Refusal)) (s t : State) → EachOnce s.texts → EachOnce t.texts → AreAlike s t →
    AreAlike (after_answers es answers s) (after_answers es answers t)
all_alike [] answers s t once also alike = alike
all_alike (e ∷ es) [] s t once also alike = alike
all_alike (e ∷ es) (a ∷ rest) s t once also alike =
    all_alike es rest (after_answer a (applied e s) s) (after_answer a (applied e t) t)
    (once_behind (applied e s) a s once (λ u is. once_applied e s u once is)) (once_behind (applied e t) a t also (λ u is. once_applied e t u also is))
    (behind_alike (applied e s) (applied e t) a s t alike (applied_alike e s t once also alike))
