-- What contracts see of a folder, as far as it shows that: what it holds, and what was read and written.
use Rattle.std.specs.Prelude.{◌≡◌, ◌≤◌, ◌<◌, ◌+◌, ◌^◌, ℕ, Bool, true, false, List, [], ◌∷◌, ◌++◌, length, take, fold, Option, None, Some, if◌then◌else◌, bytes_eq}
use Rattle.std.specs.Option.{option_map}
use Rattle.bt_one_shot.specs.declared.folder.Found.{Found}
use Rattle.bt_one_shot.specs.declared.folder.Found.TheVariants as found

-- the bytes of the file with each name, if there is one
abbrev pub Contents : Type 0
Contents = List ℕ → Option (List ℕ)

-- a file that was written
pub record Written : Type 0 where
  pub name : List ℕ
  pub bytes : List ℕ

-- what contracts see of a folder
pub record Seen : Type 0 where
  -- what it holds, if it shows that
  pub held : Option Contents
  -- the names that were looked up, in order, if it shows them
  pub looked_up : Option (List (List ℕ))
  -- the files that were written, in order, if it shows them
  pub written : Option (List Written)
  -- how many writes failed
  pub failures : ℕ
  -- how many reads were made, as long as that is below 2^64
  pub reads : ℕ

-- a list, if it is shown, has these elements more
abbrev pub Gains : {A : Type 0} → Option (List A) → Option (List A) → List A → Type 0
Gains None new more = Unit {0}
Gains (Some old) None more = ⊥
Gains (Some old) (Some new) more = new ≡ old ++ more

-- Reading

-- at most how many bytes of a file are read: one more than a text may have
abbrev pub most_read : ℕ
most_read = 1048577

-- what is found under a name is the beginning of what the folder holds there
abbrev pub Finds : Option Contents → List ℕ → Found → Type 0
Finds None name found = Unit {0}
Finds (Some held) name (found.Bytes bytes) = option_map (take most_read) (held name) ≡ Some bytes
Finds (Some held) name found.Missing = held name ≡ None
Finds (Some held) name found.NoRoom = Unit {0}

-- at most as many bytes are found as are read of a file
abbrev pub IsWithin : Found → Type 0
IsWithin (found.Bytes bytes) = length bytes ≤ most_read
IsWithin found.Missing = Unit {0}
IsWithin found.NoRoom = Unit {0}

-- a name was looked up, unless there was no room for what is there
abbrev pub looked_up : List ℕ → Found → List (List ℕ)
looked_up name (found.Bytes bytes) = name ∷ []
looked_up name found.Missing = name ∷ []
looked_up name found.NoRoom = []

-- names were looked up by so many reads, and nothing else was done
pub record LooksUp (old new : Seen) (count : ℕ) (names : List (List ℕ)) : Type 0 where
  pub held : new.held ≡ old.held
  pub counted : old.reads + count < 2 ^ 64 → new.reads ≡ old.reads + count
  pub gained : Gains old.looked_up new.looked_up names
  pub written : new.written ≡ old.written
  pub failures : new.failures ≡ old.failures

-- Writing

-- what a folder holds after this file was written
abbrev pub with_file : Contents → Written → Contents
with_file held file = λ name. if bytes_eq file.name name then Some file.bytes else held name

-- a folder holds the same, except for these files that were written
abbrev pub Holds : Option Contents → Option Contents → List Written → Type 0
Holds None new files = Unit {0}
Holds (Some old) None files = ⊥
Holds (Some old) (Some new) files = (name : List ℕ) → new name ≡ fold with_file old files name

-- the same, except that anything may be left under this one name
abbrev pub HoldsBut : List ℕ → Option Contents → Option Contents → List Written → Type 0
HoldsBut spoiled None new files = Unit {0}
HoldsBut spoiled (Some old) None files = ⊥
HoldsBut spoiled (Some old) (Some new) files = (name : List ℕ) → bytes_eq spoiled name ≡ false →
    new name ≡ fold with_file old files name

-- files were written, and nothing else was done
pub record Writes (old new : Seen) (files : List Written) : Type 0 where
  pub held : Holds old.held new.held files
  pub looked_up : new.looked_up ≡ old.looked_up
  pub written : Gains old.written new.written files
  pub failures : new.failures ≡ old.failures
  pub reads : new.reads ≡ old.reads

-- files were written, then the write of one failed, and nothing else was done
pub record Fails (old new : Seen) (files : List Written) (name : List ℕ) : Type 0 where
  pub held : HoldsBut name old.held new.held files
  pub looked_up : new.looked_up ≡ old.looked_up
  pub written : Gains old.written new.written files
  pub failures : new.failures ≡ old.failures + 1
  pub reads : new.reads ≡ old.reads

-- a file was written, or its write failed
abbrev pub WritesOne : Seen → Seen → Written → Bool → Type 0
WritesOne old new file true = Writes old new (file ∷ [])
WritesOne old new file false = Fails old new [] file.name
