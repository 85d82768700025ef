-- What is noted of steps: tags, by which a scan passes over steps of other names; and what is known of their entries.
use Rattle.std.specs.Prelude.{◌≡◌, ◌+◌, ◌*◌, ◌%◌, ℕ, Bool, true, List, [], ◌∷◌, Option, Some, None, length, slice_get}
use Rattle.std.specs.Option.{ForSome, option_map}
use Rattle.bt_actions.specs.declared.entry.Entry.{Entry}
use Rattle.bt_machine.specs.declared.input.Input.{Input}
use Rattle.bt_run.specs.declared.course.Step.{Step}
use Rattle.bt_run.specs.declared.mark.Mark.{Mark}
use Rattle.bt_run.specs.Course.{key_in}
use Rattle.bt_run.specs.inner.Earlier.{fixed, fixed_at}
use Rattle.bt_run.specs.inner.Index.{key_or_none}

-- a number with some bytes after it, mixed
abbrev pub tag_from : ℕ → List ℕ → ℕ
tag_from tag [] = tag
tag_from tag (byte ∷ bytes) = tag_from ((tag * 31 + byte) % 4294967296) bytes

-- the tag of a command and of the key of an entry, or of none
abbrev pub tag_of : ℕ → Option (List ℕ) → ℕ
tag_of command key = tag_from (command % 4294967296) (key_or_none key)

-- the tag of a step
abbrev pub step_tag : Step → ℕ
step_tag s = tag_of s.command (key_in s.input)

-- the mark of a step for no entry
abbrev pub bare_mark : Step → Mark
bare_mark s = record { place = None; tag = step_tag s }

-- The mark of a step. A step for the entry at a place was given that entry, but for its variables.
pub record IsMark (entries : List Entry) (s : Step) (m : Mark) : Type 0 where
  pub placed : ForSome m.place (λ n. option_map fixed s.input.entry ≡ Some (fixed_at entries n))
  pub tagged : m.tag ≡ step_tag s

-- If an input's entry stands at a place that is marked as the same, the earlier one there is the same, but for its variables.
abbrev pub HaveSameEntry : List Entry → Input → Option ℕ → List Bool → Type 0
HaveSameEntry entries i place same =
    (n : ℕ) → place ≡ Some n → slice_get same n ≡ Some true → option_map fixed i.entry ≡ Some (fixed_at entries n)

-- the marks of steps, one for each
pub record AreMarked (entries : List Entry) (steps : List Step) (marks : List Mark) : Type 0 where
  pub counted : length marks ≡ length steps
  pub each : (k : ℕ) (s : Step) (m : Mark) → slice_get steps k ≡ Some s → slice_get marks k ≡ Some m → IsMark entries s m
