-- A job whose names a session admits stays as it is.
use Rattle.std.proofs.Common.{◌≡◌, ℕ, Bool, true, false, cond, List, [], ◌∷◌, fold, refl}
use Rattle.std.specs.Prelude.{◌&&◌}
use Rattle.std.specs.List.{list_all}
use Rattle.bt_job.specs.declared.files.File.{File}
use Rattle.bt_job.specs.FileNames.{with_name}
use Rattle.bt_run.specs.Meaning.{meaning, trace}
use Rattle.bt_files.specs.Names.{is_own_name, with_author}
use Rattle.bt_front.specs.Job.{names_of, table_of, job_meaning, job_trace}
use Rattle.bt_front.proofs.PlainLemmas.{plain_meaning, plain_steps}

kept_after : (author : List ℕ) (authors : List (List ℕ)) (b : Bool) → (list_all is_own_name authors ≡ true → fold with_author [] authors ≡ [])
    → (b && list_all is_own_name authors) ≡ true → fold with_author (cond b [] (with_name [] author)) authors ≡ []
kept_after author authors true later all = later all
kept_after author authors false later all = absurd cc

none_needed : (authors : List (List ℕ)) → list_all is_own_name authors ≡ true → fold with_author [] authors ≡ []
none_needed [] all = refl
none_needed (author ∷ authors) all = kept_after author authors (is_own_name author) (none_needed authors) all

empty_table : (files : List File) (root : List ℕ) → list_all is_own_name (names_of files root) ≡ true → table_of files root ≡ []
unfolding table_of
empty_table files root all = none_needed (names_of files root) all

pub job_kept : (files : List File) (root : List ℕ) (min : ℕ) → list_all is_own_name (names_of files root) ≡ true
    → job_meaning files root min ≡ meaning files root min
job_kept files root min all = plain_meaning files root min (empty_table files root all)

pub steps_kept : (files : List File) (root : List ℕ) (min : ℕ) → list_all is_own_name (names_of files root) ≡ true
    → job_trace files root min ≡ trace files root min
steps_kept files root min all = plain_steps files root min (empty_table files root all)
