-- A job that needs no other names runs on its own files, and is reported as it ran.
use Rattle.std.proofs.Common.{◌≡◌, ◌∙◌, ℕ, Bool, true, false, true≢false, cond, arith, List, [], ◌∷◌, ◌++◌, map, fold, flat_map, codes, Some, None, refl, ap, subst, sym, IsTrue, length}
use Rattle.std.proofs.lemmas.Bool.Decides.{nat_tests}
use Rattle.std.specs.Prelude.{◌==◌, unwrap_or}
use Rattle.bt_text.specs.NameList.{is_among}
use Rattle.bt_job.specs.declared.files.File.{File}
use Rattle.bt_job.specs.FileNames.{with_name}
use Rattle.bt_log.specs.declared.message.Message.{Message}
use Rattle.bt_log.specs.Log.{log_bytes, terse_bytes}
use Rattle.bt_run.specs.Meaning.{Meaning, meaning, trace}
use Rattle.bt_files.specs.Names.{is_own_name, with_author}
use Rattle.bt_files.specs.Messages.{name_back, put_back}
use Rattle.bt_files.proofs.MessageLemmas.{name_stays, message_stays}
use Rattle.bt_front.specs.Job.{is_aux, names_with, renamed, file_under, root_under, table_of, told_under, meaning_under, job_meaning, job_trace}
use Rattle.bt_front.specs.JobRun.{IsLogged}

-- Files

name_kept : (author : List ℕ) → renamed [] author ≡ author
name_kept author = go (is_own_name author)
  where
    go : (b : Bool) → unwrap_or (cond b (Some author) None) author ≡ author
    go true = refl
    go false = refl

text_kept : (b : Bool) (text : List ℕ) → cond b text text ≡ text
text_kept true text = refl
text_kept false text = refl

file_kept : (f : File) → file_under [] f ≡ f
file_kept f = λ k. record f { name = name_kept f.name k; text = text_kept (is_aux f) f.text k }

pub files_kept : (files : List File) → map (file_under []) files ≡ files
files_kept [] = refl
files_kept (f ∷ files) = λ k. file_kept f k ∷ files_kept files k

-- The root

-- a table with a name keeps it
full_stays : (name : List ℕ) (table authors : List (List ℕ)) → fold with_author (name ∷ table) authors ≡ [] → ⊥
full_stays name table [] none = absurd cc
full_stays name table (author ∷ authors) none =
    go (is_own_name author) (is_among (name ∷ table) author) none (λ (t : List (List ℕ)) (is : fold with_author (name ∷ t) authors ≡ []). full_stays name t authors is)
  where
    go : (b c : Bool) → fold with_author (cond b (name ∷ table) (cond c (name ∷ table) (name ∷ (table ++ author ∷ [])))) authors ≡ []
        → ((t : List (List ℕ)) → fold with_author (name ∷ t) authors ≡ [] → ⊥) → ⊥
    go true c is later = later table is
    go false true is later = later table is
    go false false is later = later (table ++ author ∷ []) is

pub root_kept : (files : List File) (root : List ℕ) → table_of files root ≡ [] → root_under root ≡ root
unfolding table_of
root_kept files root none = go (is_own_name (root ++ codes ".aux")) none
  where
    go : (b : Bool) → fold with_author (cond b [] (with_name [] (root ++ codes ".aux"))) (flat_map names_with files) ≡ [] → cond b root (codes "+/1") ≡ root
    go true is = refl
    go false is = absurd (full_stays (root ++ codes ".aux") [] (flat_map names_with files) is)

-- What is told

names_kept : (names : List (List ℕ)) → map (name_back []) names ≡ names
names_kept [] = refl
names_kept (name ∷ names) = λ k. name_stays name k ∷ names_kept names k

messages_kept : (log : List Message) → map (put_back []) log ≡ log
messages_kept [] = refl
messages_kept (m ∷ log) = λ k. message_stays m k ∷ messages_kept log k

told_plain : (m : Meaning) → IsLogged m → m ≡ told_under [] m
told_plain m logged = λ k. record m {
  blg = (logged.blg ∙ ap log_bytes (sym (messages_kept m.messages))) k;
  terse = (logged.terse ∙ ap terse_bytes (sym (messages_kept m.messages))) k;
  messages = sym (messages_kept m.messages) k;
  wanted = sym (names_kept m.wanted) k;
}

pub none_left : (names : List (List ℕ)) → IsTrue (length names == 0) → names ≡ []
none_left [] none = refl
none_left (name ∷ names) none =
    let some : (length (name ∷ names) == 0) ≡ false = grind (arith, nat_tests) in
    absurd (true≢false (sym none ∙ some))

pub told_if_none : (names : List (List ℕ)) (m : Meaning) → IsTrue (length names == 0) → IsLogged m → m ≡ told_under names m
told_if_none names m none logged = subst (λ (t : List (List ℕ)). m ≡ told_under t m) (sym (none_left names none)) (told_plain m logged)

pub is_logged : (files : List File) (root : List ℕ) (min : ℕ) → IsLogged (meaning files root min)
unfolding meaning
is_logged files root min = record { blg = refl; terse = refl }

-- The run

pub plain_meaning : (files : List File) (root : List ℕ) (min : ℕ) → table_of files root ≡ [] → job_meaning files root min ≡ meaning files root min
unfolding job_meaning
plain_meaning files root min none =
    ap (λ (table : List (List ℕ)). meaning_under table files root min) none
    ∙ ap (λ (fs : List File). told_under [] (meaning fs (root_under root) min)) (files_kept files)
    ∙ ap (λ (r : List ℕ). told_under [] (meaning files r min)) (root_kept files root none)
    ∙ sym (told_plain (meaning files root min) (is_logged files root min))

pub plain_steps : (files : List File) (root : List ℕ) (min : ℕ) → table_of files root ≡ [] → job_trace files root min ≡ trace files root min
unfolding job_trace
plain_steps files root min none =
    ap (λ (table : List (List ℕ)). trace (map (file_under table) files) (root_under root) min) none
    ∙ ap (λ (fs : List File). trace fs (root_under root) min) (files_kept files)
    ∙ ap (λ (r : List ℕ). trace files r min) (root_kept files root none)
