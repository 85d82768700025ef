-- Where SORT puts an entry, by the steps of the next ITERATE.
use Rattle.std.specs.Prelude.{◌≡◌, ◌+◌, ◌<◌, ◌≤◌, ℕ, Bool, true, false, List, All, length, slice_get, slice_index_or, bytes_eq, Some}
use Rattle.std.specs.Ordering.{is_gt, is_lt, nat_cmp, ordering_then}
use Rattle.std.specs.Cmp.Lexicographic.{slice_cmp}
use Rattle.bt_style.specs.declared.style.Action.{Action}
use Rattle.bt_style.specs.declared.style.Action.TheVariants.{Iterate, Read, Reverse, Sort}
use Rattle.bt_style.specs.declared.style.Command.{Command}
use Rattle.bt_style.specs.declared.style.Target.{Target}
use Rattle.bt_style.specs.Program.{program_of}
use Rattle.bt_actions.specs.declared.entry.Entry.{Entry}
use Rattle.bt_run.specs.declared.course.Step.{Step}
use Rattle.bt_run.specs.declared.walk_context.WalkContext.{WalkContext}
use Rattle.bt_run.specs.inner.Cases.{sort_key}

-- whether a command keeps the entries and their order
abbrev pub keeps_entries : Action → Bool
keeps_entries (Iterate t) = false
keeps_entries (Reverse t) = false
keeps_entries Read = false
keeps_entries Sort = false
keeps_entries _ = true

-- All of these commands do.
abbrev pub KeepEntries : List Command → Type 0
KeepEntries commands = All (λ (c : Command). keeps_entries c.action ≡ true) commands

abbrev pub is_sort : Action → Bool
is_sort Sort = true
is_sort _ = false

-- a command is ITERATE
pub record IsIterate (c : Command) : Type 0 where
  pub target : Target
  pub is : c.action ≡ Iterate target

-- a command is ITERATE, and those between it and another keep the entries and their order
pub record IsIterated (commands : List Command) (sort iterate : ℕ) : Type 0 where
  pub command : Command
  pub at : slice_get commands iterate ≡ Some command
  pub iterates : IsIterate command
  pub keep : (k : ℕ) (c : Command) → sort < k → k < iterate → slice_get commands k ≡ Some c → keeps_entries c.action ≡ true

-- One command is SORT, another one after it is ITERATE, and those between keep the entries and their order.
pub record IsSortAndIterate (commands : List Command) (k m : ℕ) : Type 0 where
  pub sort : Command
  pub below : k < m
  pub at : slice_get commands k ≡ Some sort
  pub sorts : sort.action ≡ Sort
  pub next : IsIterated commands k m

-- none of the commands from this number and before that is SORT
abbrev pub HasNoSort : List Command → ℕ → ℕ → Type 0
HasNoSort commands from before =
    (k : ℕ) (c : Command) → from ≤ k → k < before → slice_get commands k ≡ Some c → is_sort c.action ≡ false

-- the first of them that is
pub record IsFirstSort (commands : List Command) (from before number : ℕ) : Type 0 where
  pub sort : Command
  pub at : slice_get commands number ≡ Some sort
  pub sorts : is_sort sort.action ≡ true
  pub above : from ≤ number
  pub below : number < before
  pub first : HasNoSort commands from number

-- A place with this sort key doesn't come after another place with that sort key: equal keys come in list order.
abbrev pub IsUpTo : List ℕ → ℕ → List ℕ → ℕ → Type 0
IsUpTo a m b n = is_gt (ordering_then (slice_cmp nat_cmp a b) (nat_cmp m n)) ≡ false

-- With this sort key, the entry whose place has this index in the order fits between its neighbours there.
pub record KeyFits (keys : ℕ → List ℕ) (order : List ℕ) (i : ℕ) (key : List ℕ) : Type 0 where
  pub behind : (k : ℕ) → k + 1 ≡ i →
      IsUpTo (keys (slice_index_or order k 0)) (slice_index_or order k 0) key (slice_index_or order i 0)
  pub before : i + 1 < length order →
      IsUpTo key (slice_index_or order i 0) (keys (slice_index_or order (i + 1) 0)) (slice_index_or order (i + 1) 0)

-- The entry of the step before comes before this sort key, if that step is one of this command.
abbrev pub IsBehind : List Step → ℕ → ℕ → List ℕ → Type 0
IsBehind steps command k key =
    (j : ℕ) (s : Step) (e : Entry) → j + 1 ≡ k → slice_get steps j ≡ Some s → s.command ≡ command →
    s.input.entry ≡ Some e → is_lt (slice_cmp nat_cmp (sort_key e) key) ≡ true

-- The entry of the step behind comes after it.
abbrev pub IsBefore : List Step → ℕ → ℕ → List ℕ → Type 0
IsBefore steps command k key =
    (s : Step) (e : Entry) → slice_get steps (k + 1) ≡ Some s → s.command ≡ command →
    s.input.entry ≡ Some e → is_lt (slice_cmp nat_cmp key (sort_key e)) ≡ true

-- The step of a number, in an ITERATE of this number, is given an entry. With this sort key the entry comes after those
-- of the steps before it and before those of the steps after it, by the sort keys of its neighbours.
pub record FitsBetween (steps : List Step) (command : ℕ) (k : ℕ) (key : List ℕ) : Type 0 where
  pub behind : IsBehind steps command k key
  pub before : IsBefore steps command k key

-- An entry has the sort key of the one that the step of a number was given, or fits between the neighbours of that.
pub record HasItsPlace (steps : List Step) (k : ℕ) (s : Step) (e : Entry) : Type 0 where
  pub old : Entry
  pub is : s.input.entry ≡ Some old
  pub fits : bytes_eq (sort_key old) (sort_key e) ≡ false → FitsBetween steps s.command k (sort_key e)

-- each SORT between a command and that of a step gives the old order
pub record KeepsOrder (commands : List Command) (steps : List Step) (k : ℕ) (s : Step) (e : Entry) (after : ℕ) : Type 0 where
  pub above : after < s.command
  pub sorts : (n : ℕ) (c : Command) → after ≤ n → n < s.command → slice_get commands n ≡ Some c → c.action ≡ Sort →
      (after < n) × IsSortAndIterate commands n s.command × HasItsPlace steps k s e

-- the same for the step of a number
abbrev pub KeepsOrderIn : WalkContext → ℕ → Entry → ℕ → Type 0
KeepsOrderIn context k e after =
    (s : Step) → slice_get context.earlier.now.steps k ≡ Some s →
    KeepsOrder (program_of context.style.now).commands context.earlier.now.steps k s e after
