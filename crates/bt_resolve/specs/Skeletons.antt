-- What an edit of values leaves as it was: everything that depends only on skeletons.
use Rattle.std.specs.Prelude.{◌≡◌, ℕ, ◌+◌, nat_le, nat_lt, length, Bool, true, false, not, ◌&&◌, ◌||◌, ◌==◌, List, [], ◌∷◌, ◌++◌, map, filter, reverse, slice_get, Option, Some, None, is_some, option_map, option_and_then, if◌then◌else◌, ⊤}
use Rattle.bt_bib.specs.Items.{PlacedItem, items_of}
use Rattle.bt_bib.specs.declared.item.Item.{Item}
use Rattle.bt_bib.specs.declared.placed_pieces.PlacedPiece.{PlacedPiece}
use Rattle.bt_bib.specs.Spot.{spot_from}
use Rattle.bt_bib.specs.declared.spot.Spot.{Spot}
use Rattle.bt_bib.specs.declared.item.Content.{Content}
use Rattle.bt_bib.specs.declared.item.Content.TheVariants as contents
use Rattle.bt_bib.specs.declared.item.Entry.{Entry as EntryRead}
use Rattle.bt_log.specs.declared.message.Place.{Place}
use Rattle.bt_log.specs.declared.message.Place.TheVariants.{Line, DatabaseLine, WholeFile, Step}
use Rattle.bt_log.specs.declared.message.Message.{Message}
use Rattle.bt_resolve.specs.declared.asked.Asked.{Asked}
use Rattle.bt_resolve.specs.declared.declared.Macro.{Macro}
use Rattle.bt_resolve.specs.declared.stored.Stored.{Stored}
use Rattle.bt_resolve.specs.declared.entry.Entry.{Entry}
use Rattle.bt_resolve.specs.Names.{crossref}
use Rattle.bt_resolve.specs.Values.{MacroTexts}
use Rattle.bt_resolve.specs.Macros.{macro_before}
use Rattle.bt_resolve.specs.Fields.{given_value}
use Rattle.bt_resolve.specs.Stored.{kind_of, stored_of, is_wanted, is_stored, stored_among}
use Rattle.bt_resolve.specs.Listed.{listed}
use Rattle.bt_resolve.specs.Inherited.{values_after, is_left_out, entries_seen}
use Rattle.bt_resolve.specs.inner.Cases.{children, values_of, parent_at, entry_at, messages_at, preamble_at}
use Rattle.bt_resolve.specs.Messages.{for_each}
use Rattle.bt_resolve.specs.References.{list_messages}

-- ---- stored entries

-- a stored entry without its values
abbrev pub skeleton : Stored → Stored
skeleton s = record s { values = [] }

-- the same stored entries but for their values
abbrev pub AreAlike : List Stored → List Stored → Type 0
AreAlike stored others = map skeleton stored ≡ map skeleton others

-- what two lists of stored entries have in common
pub record HaveOneList (a : Asked) (min : ℕ) (stored others : List Stored) : Type 0 where
  pub wanted : (key : List ℕ) → is_wanted a stored key ≡ is_wanted a others key
  pub known : (key : List ℕ) → is_stored stored key ≡ is_stored others key
  pub list : listed a stored ≡ listed a others
  pub parent : (p : ℕ) → parent_at stored p ≡ parent_at others p
  pub child_count : (p : ℕ) → children stored p ≡ children others p
  pub left_out : (p : ℕ) → is_left_out a min stored p ≡ is_left_out a min others p
  pub told : list_messages a stored ≡ list_messages a others
  pub seen : (values : List (Option (List ℕ))) (p : ℕ) → entry_at a min stored (λ q. values) p ≡ entry_at a min others (λ q. values) p

-- The list, the parents, which entries are left out, the list's messages, and what is seen of an entry apart from its
-- values depend only on skeletons.
abbrev pub ListDependsOnSkeletons : Type 0
ListDependsOnSkeletons = (a : Asked) (min : ℕ) (stored others : List Stored) → AreAlike stored others →
    HaveOneList a min stored others

-- ---- items

-- two entries, read with these macros, have one key, one type and one `crossref`
pub record HaveOneSkeleton (macros : MacroTexts) (e f : EntryRead) : Type 0 where
  pub key : e.key ≡ f.key
  pub kind : kind_of e ≡ kind_of f
  pub reference : given_value macros e.fields crossref ≡ given_value macros f.fields crossref

-- an entry replaces an entry of the same skeleton, and anything else only itself
abbrev pub IsLike : MacroTexts → Content → Content → Type 0
IsLike macros (contents.Entry e) (contents.Entry f) = HaveOneSkeleton macros e f
IsLike macros (contents.Entry e) (contents.Define d) = ⊥
IsLike macros (contents.Entry e) (contents.Preamble parts) = ⊥
IsLike macros (contents.Define d) other = contents.Define d ≡ other
IsLike macros (contents.Preamble parts) other = contents.Preamble parts ≡ other

abbrev pub is_entry : Content → Bool
is_entry (contents.Entry e) = true
is_entry (contents.Define d) = false
is_entry (contents.Preamble parts) = false

-- items replace others one by one, after the same items (the last one first); entries may have other faults
abbrev pub AreInPlace : List Macro → List PlacedItem → List PlacedItem → List PlacedItem → Type 0
AreInPlace macros before [] [] = ⊤
AreInPlace macros before [] (y ∷ ys) = ⊥
AreInPlace macros before (x ∷ xs) [] = ⊥
AreInPlace macros before (x ∷ xs) (y ∷ ys) =
    IsLike (macro_before macros before) x.item.content y.item.content × (is_entry x.item.content ≡ false → x.item.fault ≡ y.item.fault)
    × AreInPlace macros (x ∷ before) xs ys

-- an item replaces another, whatever the macros before it
abbrev pub IsItemLike : Item → Item → Type 0
IsItemLike x y = (macros : MacroTexts) →
    IsLike macros x.content y.content × (is_entry x.content ≡ false → x.fault ≡ y.fault)

-- pieces pair off, whatever items precede them
abbrev pub PairOff : List PlacedPiece → List PlacedPiece → Type 0
PairOff old new = (macros : List Macro) (before : List PlacedItem) →
    AreInPlace macros before (items_of old) (items_of new)

-- what an entry adds to the stored ones
abbrev pub entry_added : Asked → MacroTexts → List Stored → EntryRead → Option (List ℕ) → List Stored
entry_added a macros stored e None = []
entry_added a macros stored e (Some key) =
    if is_wanted a stored key && not (is_stored stored key) then stored_of a macros e key ∷ [] else []

abbrev pub added : Asked → MacroTexts → List Stored → Content → List Stored
added a macros stored (contents.Entry e) = entry_added a macros stored e e.key
added a macros stored (contents.Define d) = []
added a macros stored (contents.Preamble parts) = []

-- what an item adds to the stored entries, from the items before it
abbrev pub added_at : Asked → List Macro → List PlacedItem → PlacedItem → List Stored
added_at a macros before item = added a (macro_before macros before) (stored_among a macros before) item.item.content

-- Items that no later item can tell apart: the macros after them are the same, and so are the stored entries, apart from
-- their values.
pub record AreOneBefore (a : Asked) (macros : List Macro) (before others : List PlacedItem) : Type 0 where
  pub defined : macro_before macros before ≡ macro_before macros others
  pub stored : AreAlike (stored_among a macros before) (stored_among a macros others)

-- what later items give: what they store, the databases' messages and the preamble
pub record GiveTheSame (a : Asked) (macros : List Macro) (before others items : List PlacedItem) : Type 0 where
  pub storing : for_each (added_at a macros) before items ≡ for_each (added_at a macros) others items
  pub telling : (number : ℕ) → for_each (messages_at a macros number) before items ≡ for_each (messages_at a macros number) others items
  pub saying : for_each (preamble_at macros) before items ≡ for_each (preamble_at macros) others items
  pub after : AreOneBefore a macros (reverse items ++ before) (reverse items ++ others)

-- The stored entries are those of the items before a span, and then what the items of the span add.
abbrev pub StoredInParts : Type 0
StoredInParts = (a : Asked) (macros : List Macro) (before items : List PlacedItem) →
    stored_among a macros (reverse items ++ before) ≡ stored_among a macros before ++ for_each (added_at a macros) before items

-- Items that replace others add entries of the same skeletons, and all items after them store and report the same as
-- before.
abbrev pub LaterItemsAreTheSame : Type 0
LaterItemsAreTheSame = (a : Asked) (macros : List Macro) (before xs ys items : List PlacedItem) → AreInPlace macros before xs ys →
    AreAlike (for_each (added_at a macros) before xs) (for_each (added_at a macros) before ys)
    × AreOneBefore a macros (reverse xs ++ before) (reverse ys ++ before)
    × GiveTheSame a macros (reverse xs ++ before) (reverse ys ++ before) items

-- ---- values

abbrev pub heir_if : Bool → Option ℕ → (ℕ → Bool) → ℕ → Bool
heir_if false parent now p = now p
heir_if true None now p = now p
heir_if true (Some parent) now p = now p || now parent

-- The entries whose values an edit may change, once some entries have inherited (from the last one back): the changed
-- ones, and those that inherited from one whose values may have changed by then.
abbrev pub is_heir : List Stored → (ℕ → Bool) → List ℕ → ℕ → Bool
is_heir stored changed [] p = changed p
is_heir stored changed (q ∷ before) p = heir_if (q == p) (parent_at stored p) (is_heir stored changed before) p

-- the entries that aren't marked have the same values
abbrev pub DifferAt : (ℕ → Bool) → List Stored → List Stored → Type 0
DifferAt changed stored others =
    (p : ℕ) → changed p ≡ false → values_of (slice_get stored p) ≡ values_of (slice_get others p)

-- an entry is changed, or its parent is an heir
pub data Heir (stored : List Stored) (changed : ℕ → Bool) : ℕ → Type 0 where
  Changed : (p : ℕ) → changed p ≡ true → Heir stored changed p
  Inherits : (p q : ℕ) → parent_at stored p ≡ Some q → Heir stored changed q → Heir stored changed p

-- Heirs are the changed entries, and those that refer to heirs, directly or through a chain.
abbrev pub HeirsInherit : Type 0
HeirsInherit = (stored : List Stored) (changed : ℕ → Bool) (places : List ℕ) (p : ℕ) →
    is_heir stored changed places p ≡ true → Heir stored changed p

-- the places that are shown, in the order of the list
abbrev pub shown : Asked → ℕ → List Stored → List ℕ
shown a min stored = filter (λ p. not (is_left_out a min stored p)) (listed a stored)

-- the entry that is seen of a place
abbrev pub seen_at : Asked → ℕ → List Stored → ℕ → Option Entry
seen_at a min stored p = entry_at a min stored (values_after stored (reverse (listed a stored))) p

-- The entries that are seen are those at the places that are shown, in the same order.
abbrev pub SeenAsShown : Type 0
SeenAsShown = (a : Asked) (min : ℕ) (stored : List Stored) (k : ℕ) →
    slice_get (entries_seen a min stored) k ≡ option_and_then (seen_at a min stored) (slice_get (shown a min stored) k)

-- If values change, the same places are shown in the same order, and only heirs are seen differently.
pub record IsSeenAlike (a : Asked) (min : ℕ) (changed : ℕ → Bool) (stored others : List Stored) : Type 0 where
  pub places : shown a min stored ≡ shown a min others
  pub unchanged : (p : ℕ) → is_heir stored changed (reverse (listed a stored)) p ≡ false →
      seen_at a min stored p ≡ seen_at a min others p

abbrev pub HeirsAloneChange : Type 0
HeirsAloneChange = (a : Asked) (min : ℕ) (changed : ℕ → Bool) (stored others : List Stored) → AreAlike stored others →
    DifferAt changed stored others → IsSeenAlike a min changed stored others

-- the places of a span
abbrev pub is_within : ℕ → ℕ → ℕ → Bool
is_within begin count p = nat_le begin p && nat_lt p (begin + count)

-- Stored entries that differ in the values of a span differ only at its places.
abbrev pub SpanDiffers : Type 0
SpanDiffers = (front mine theirs rest : List Stored) → AreAlike mine theirs →
    AreAlike (front ++ mine ++ rest) (front ++ theirs ++ rest)
    × DifferAt (is_within (length front) (length mine)) (front ++ mine ++ rest) (front ++ theirs ++ rest)

-- ---- items at other places

-- an item whose places count from a spot, as an item of the text; what was read stays as it is
abbrev pub placed_from : Spot → PlacedItem → PlacedItem
placed_from m p = record { start = spot_from m p.start; end = spot_from m p.end; item = p.item }

-- a place of a database, moved on by some bytes and some lines
abbrev pub moved_place : Spot → Option Place → Option Place
moved_place m None = None
moved_place m (Some (DatabaseLine database line byte)) =
    Some (DatabaseLine database (line + m.line) (option_map (λ b. b + m.place) byte))
moved_place m (Some (Line file line byte)) = Some (Line file line byte)
moved_place m (Some (WholeFile file)) = Some (WholeFile file)
moved_place m (Some (Step style line)) = Some (Step style line)

abbrev pub moved_message : Spot → Message → Message
moved_message m told = record told { place = moved_place m told.place }

-- what moved items give: the same, apart from the places of their messages
pub record GiveTheSameMoved (a : Asked) (macros : List Macro) (m : Spot) (before others items : List PlacedItem) : Type 0 where
  pub storing : for_each (added_at a macros) before (map (placed_from m) items) ≡ for_each (added_at a macros) others items
  pub telling : (number : ℕ) → for_each (messages_at a macros number) before (map (placed_from m) items)
      ≡ map (moved_message m) (for_each (messages_at a macros number) others items)
  pub saying : for_each (preamble_at macros) before (map (placed_from m) items) ≡ for_each (preamble_at macros) others items
  pub after : AreOneBefore a macros (reverse (map (placed_from m) items) ++ before) (reverse items ++ others)

-- Moved items store the same, and their messages move with them.
abbrev pub MovedItemsAreTheSame : Type 0
MovedItemsAreTheSame = (a : Asked) (macros : List Macro) (m : Spot) (before others items : List PlacedItem) →
    AreOneBefore a macros before others → GiveTheSameMoved a macros m before others items

-- ---- macros

abbrev pub is_string : Content → Bool
is_string (contents.Entry e) = false
is_string (contents.Define d) = true
is_string (contents.Preamble parts) = false

-- The macros before an item depend only on the strings before it.
abbrev pub MacrosAreOfStrings : Type 0
MacrosAreOfStrings = (macros : List Macro) (before : List PlacedItem) →
    macro_before macros before ≡ macro_before macros (filter (λ (i : PlacedItem). is_string i.item.content) before)

-- ---- inheriting

abbrev pub has_parent : List Stored → ℕ → Bool
has_parent stored p = is_some (parent_at stored p)

-- Only entries that refer to another one inherit: the others of the list may be skipped.
abbrev pub OthersInheritNothing : Type 0
OthersInheritNothing = (stored : List Stored) (changed : ℕ → Bool) (places : List ℕ) (p : ℕ) →
    (values_after stored (filter (has_parent stored) places) p ≡ values_after stored places p)
    × (is_heir stored changed (filter (has_parent stored) places) p ≡ is_heir stored changed places p)
