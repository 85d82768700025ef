-- What a paper shows.
use Rattle.std.specs.Prelude.{ℕ, List, Option}
use Rattle.bt_log.specs.declared.message.Message.{Message}

pub record Shown : Type 0 where
  -- the name that the run has for the file at a URI
  pub name : List ℕ → Option (List ℕ)
  -- the messages of the run
  pub messages : List Message
  -- the files of the run, each with its URI and its text
  pub files : List (List ℕ × List ℕ)
  -- what the entry of a key prints in the paper's style
  pub entry_text : List ℕ → List ℕ
  pub bibliography : List ℕ
  pub log : List ℕ
  -- the run's status
  pub status : ℕ
