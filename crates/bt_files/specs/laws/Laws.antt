-- What the laws of the crate say. `proofs/laws/Laws.antt` proves them.
use Rattle.std.specs.Prelude.{◌≡◌, ℕ, ◌<◌, ◌^◌, List, length, Some, true, [], fold, is_some, map}
use Rattle.bt_job.specs.FileNames.{is_file_name}
use Rattle.bt_log.specs.declared.message.Message.{Message}
use Rattle.bt_log.specs.Log.{status_of}
use Rattle.bt_files.specs.Names.{session_name, author_name, with_author}
use Rattle.bt_files.specs.Messages.{put_back}

-- A session's name leads back to the author's name that it was made of.
abbrev pub SessionNamesLeadBack : Type 0
SessionNamesLeadBack = (table : List (List ℕ)) (author session : List ℕ) → length table < 2 ^ 64 →
    session_name table author ≡ Some session → author_name table session ≡ Some author

-- Two names of an author never have one name in the session.
abbrev pub SessionNamesDiffer : Type 0
SessionNamesDiffer = (table : List (List ℕ)) (author other session : List ℕ) → length table < 2 ^ 64 →
    session_name table author ≡ Some session → session_name table other ≡ Some session → author ≡ other

-- If a table has the names that were met, the author's name of a session's file leads back to that file.
abbrev pub AuthorNamesLeadBack : Type 0
AuthorNamesLeadBack = (met : List (List ℕ)) (author session : List ℕ) → is_file_name session ≡ true →
    author_name (fold with_author [] met) session ≡ Some author →
    session_name (fold with_author [] met) author ≡ Some session

-- The session admits each name that is made for it.
abbrev pub SessionNamesAreAdmitted : Type 0
SessionNamesAreAdmitted = (table : List (List ℕ)) (author session : List ℕ) → length table < 2 ^ 64 →
    session_name table author ≡ Some session → is_file_name session ≡ true

-- An author's name has a session's name once it was met, and keeps it.
pub record SessionNamesStay : Type 0 where
  pub met : (table : List (List ℕ)) (author : List ℕ) →
      is_some (session_name (with_author table author) author) ≡ true
  pub kept : (table : List (List ℕ)) (other author session : List ℕ) →
      session_name table author ≡ Some session → session_name (with_author table other) author ≡ Some session

-- If no name needs another one, each message stays as it is.
abbrev pub MessagesStayWithoutNames : Type 0
MessagesStayWithoutNames = (message : Message) → put_back [] message ≡ message

-- The author's names don't change the status of a log.
abbrev pub StatusStays : Type 0
StatusStays = (table : List (List ℕ)) (log : List Message) → status_of (map (put_back table) log) ≡ status_of log
