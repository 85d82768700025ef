-- What a kept resolution is about, what it has, and how an edit changes it.
use Rattle.std.specs.Prelude.{◌≡◌, ℕ, ◌+◌, ◌-◌, ◌<◌, ◌≤◌, nat_lt, true, IsTrue, ⊤, List, [], ◌∷◌, length, map, take, drop, reverse, ◌++◌, slice_get, slice_set, Option, Some}
use Rattle.bt_bib.specs.Items.{PlacedItem, items_of}
use Rattle.bt_bib.specs.Splice.{IsItemsEdit}
use Rattle.bt_bib.specs.declared.placed_pieces.PlacedPiece.{PlacedPiece}
use Rattle.bt_bib.specs.declared.splice.ItemsEdit.{ItemsEdit}
use Rattle.bt_text.specs.ByName.{known}
use Rattle.bt_text.specs.NameList.{are_apart}
use Rattle.bt_resolve.specs.declared.asked.Asked.{Asked}
use Rattle.bt_resolve.specs.declared.entry.Entry.{Entry}
use Rattle.bt_resolve.specs.declared.entry.Resolved.{Resolved}
use Rattle.bt_resolve.specs.declared.kept.Around.{Around}
use Rattle.bt_resolve.specs.declared.kept.Found.{Found}
use Rattle.bt_resolve.specs.declared.kept.ResolvedEdit.{ResolvedEdit}
use Rattle.bt_resolve.specs.declared.question.Question.{Question}
use Rattle.bt_resolve.specs.declared.reading.Reach.{Reach}
use Rattle.bt_resolve.specs.declared.reading.Reading.{Reading}
use Rattle.bt_resolve.specs.declared.heirs.NewValues.{NewValues}
use Rattle.bt_resolve.specs.declared.seen_edit.OtherEntries.{OtherEntries}
use Rattle.bt_resolve.specs.declared.seen_edit.SeenEdit.{SeenEdit}
use Rattle.bt_resolve.specs.declared.seen_edit.SeenEdit.TheVariants.{Same, Others}
use Rattle.bt_resolve.specs.declared.span.Mark.{Mark}
use Rattle.bt_resolve.specs.declared.span.Span.{Span}
use Rattle.bt_resolve.specs.declared.stored.Stored.{Stored}
use Rattle.bt_resolve.specs.declared.view.Seen.{Seen}
use Rattle.bt_resolve.specs.Listed.{listed}
use Rattle.bt_resolve.specs.Macros.{macro_before}
use Rattle.bt_resolve.specs.Resolved.{all_items, resolved, stored_entries}
use Rattle.bt_resolve.specs.Skeletons.{AreAlike, PairOff, shown}
use Rattle.bt_resolve.specs.Values.{MacroTexts}
use Rattle.bt_resolve.specs.inner.Cases.{asked}
use Rattle.bt_resolve.specs.inner.Databases.{DefineNothing, nothing_read}
use Rattle.bt_resolve.specs.inner.Heirs.{entries_made, heirs_of, is_marked, made_at, stays_among, with_made}
use Rattle.bt_resolve.specs.inner.Inheritance.{values_read}
use Rattle.bt_resolve.specs.inner.Patches.{patched}
use Rattle.bt_resolve.specs.inner.Reaches.{database_reaches}
use Rattle.bt_resolve.specs.inner.Spans.{span_of, tells_of}

-- ---- what is resolved

abbrev pub asked_by : Question → Asked
asked_by q = asked q.declared q.cites

abbrev pub items_in : Question → List (List PlacedItem)
items_in q = map items_of q.databases

-- what the style sees
abbrev pub resolved_for : Question → Resolved
resolved_for q = resolved q.declared q.cites (items_in q) q.min

-- the macros after all items, the stored entries, how far the reading is, and the places that are shown
abbrev pub macros_behind : Question → MacroTexts
macros_behind q = macro_before q.declared.macros (reverse (all_items (items_in q)))

abbrev pub stored_for : Question → List Stored
stored_for q = stored_entries (asked_by q) q.declared.macros (items_in q)

abbrev pub reaches_for : Question → List (List Reach)
reaches_for q = database_reaches (asked_by q) 1 (nothing_read q.declared.macros) q.databases

abbrev pub places_for : Question → List ℕ
places_for q = shown (asked_by q) q.min (stored_for q)

-- what is kept for a question; the stored entries may have older values, but `values` are right
pub record IsFound (q : Question) (f : Found) : Type 0 where
  pub fields_apart : IsTrue (are_apart q.declared.fields)
  pub macros_known : known f.macros ≡ macros_behind q
  pub stored_alike : AreAlike f.store (stored_for q)
  pub values_read : f.values ≡ values_read (stored_for q)
  pub list : f.listed ≡ listed (asked_by q) (stored_for q)
  pub reached : f.reaches ≡ reaches_for q
  pub placed : f.places ≡ places_for q
  pub resolved_so : f.all ≡ resolved_for q

abbrev pub found_of : Reading → List (List Reach) → Seen → Found
found_of read reaches seen = record {
  macros = read.macros;
  store = read.store;
  values = values_read read.store;
  listed = seen.listed;
  reaches = reaches;
  places = seen.places;
  all = record { entries = seen.entries; preamble = read.preamble; messages = read.messages };
}

-- no database after a number has a string
abbrev pub AreStringless : ℕ → Question → Type 0
AreStringless n q = (k : ℕ) → n < k → DefineNothing (all_items (map items_of (drop k q.databases)))

-- ---- an edit of a database

-- with other pieces of a database
abbrev pub with_database : ℕ → List PlacedPiece → Question → Question
with_database number pieces q = record q { databases = slice_set q.databases number pieces }

-- an edit of the database of this number, which has these pieces after it
pub record IsEditOf (q : Question) (number : ℕ) (pieces : List PlacedPiece) (e : ItemsEdit) : Type 0 where
  pub old : List PlacedPiece
  pub here : slice_get q.databases number ≡ Some old
  pub edit : IsItemsEdit old pieces e

-- a place among the pieces of the database of this number
pub record IsPlace (q : Question) (number before : ℕ) : Type 0 where
  pub pieces : List PlacedPiece
  pub here : slice_get q.databases number ≡ Some pieces
  pub inside : before ≤ length pieces

-- the macros before the items from such a place on
abbrev pub macros_before : Question → ℕ → ℕ → List PlacedPiece → MacroTexts
macros_before q number before ps =
    macro_before q.declared.macros (reverse (items_of (take before ps)) ++ reverse (all_items (map items_of (take number q.databases))))

abbrev pub AreBefore : Question → ℕ → ℕ → MacroTexts → Type 0
AreBefore q number before macros =
    (ps : List PlacedPiece) → slice_get q.databases number ≡ Some ps → macros ≡ macros_before q number before ps

abbrev pub replaced : List PlacedPiece → ItemsEdit → List PlacedPiece
replaced old e = take (e.upto - e.before) (drop e.before old)

-- At most one piece is replaced, by one that is like it.
pub record IsShort (old : List PlacedPiece) (e : ItemsEdit) : Type 0 where
  pub few : length e.new ≤ 1
  pub even : length (replaced old e) ≡ length e.new
  pub pairs : PairOff (replaced old e) e.new

-- how far the reading was before the span, after it, and at the end of the database
pub record IsAround (reaches : List Reach) (before upto : ℕ) (r : Around) : Type 0 where
  pub at_first : slice_get reaches before ≡ Some r.first
  pub at_past : slice_get reaches upto ≡ Some r.past
  pub at_last : slice_get reaches (length reaches - 1) ≡ Some r.last

-- what the items of the span gave
abbrev pub mark_of : Around → Mark
mark_of r = record { stored = nat_lt r.first.stored r.past.stored; told = r.past.told - r.first.told }

-- ---- the entries that are seen

abbrev pub with_seen : SeenEdit → List Entry → List Entry
with_seen Same es = es
with_seen (Others o) es = with_made o.made es

-- the stored entries' own values after an edit
abbrev pub with_own : SeenEdit → List (List (Option (List ℕ))) → List (List (Option (List ℕ)))
with_own Same values = values
with_own (Others o) values = slice_set values o.own.place o.own.values

abbrev pub IsWithin : SeenEdit → ℕ → Type 0
IsWithin Same n = ⊤
IsWithin (Others o) n = o.own.place < n

-- The entry at an index is known to be the same after an edit.
abbrev pub IsSpared : SeenEdit → ℕ → Type 0
IsSpared Same k = ⊤
IsSpared (Others o) k = slice_get o.stays k ≡ Some true

-- the entries that are seen with new values of a stored entry
abbrev pub entries_with : Asked → ℕ → Found → NewValues → List Entry
entries_with a min f own =
    let heirs = heirs_of f.store f.listed f.values own in
    entries_made (made_at a min f.store heirs.values) (is_marked heirs.marks) f.places f.all.entries

-- what is seen with new values of a stored entry
pub record AreOthers (a : Asked) (min : ℕ) (f : Found) (own : NewValues) (o : OtherEntries) : Type 0 where
  pub is_own : o.own ≡ own
  pub entries : with_made o.made f.all.entries ≡ entries_with a min f own
  pub stays : o.stays ≡ stays_among (heirs_of f.store f.listed f.values own).marks f.places

abbrev pub new_values : ℕ → Stored → NewValues
new_values place t = record { place = place; values = t.values }

-- what becomes of the entries if this one is stored at a place
abbrev pub IsStoredEdit : Asked → ℕ → ℕ → Found → Stored → SeenEdit → Type 0
IsStoredEdit a min place f t Same = slice_get f.values place ≡ Some t.values
IsStoredEdit a min place f t (Others o) = AreOthers a min f (new_values place t) o

abbrev pub IsSeenEdit : Asked → ℕ → ℕ → Found → List Stored → SeenEdit → Type 0
IsSeenEdit a min place f [] e = e ≡ Same
IsSeenEdit a min place f (t ∷ []) e = IsStoredEdit a min place f t e
IsSeenEdit a min place f (t ∷ u ∷ ts) e = ⊥

-- ---- what an edit changes

abbrev pub span_by : Asked → MacroTexts → ℕ → Around → ItemsEdit → Span
span_by a macros number r e = span_of a macros (number + 1) (mark_of r) (items_of e.new)

pub record IsNewSpan (a : Asked) (macros : MacroTexts) (number : ℕ) (e : ItemsEdit) (r : Around) (span : Span) : Type 0 where
  pub is : span ≡ span_by a macros number r e
  pub known_of : IsTrue (tells_of (mark_of r) (items_of e.new))
  pub count : length span.messages ≡ (mark_of r).told

pub record IsSpanEdit (a : Asked) (min : ℕ) (f : Found) (span : Span) (e : ItemsEdit) (r : Around) (made : ResolvedEdit) : Type 0 where
  pub seen : IsSeenEdit a min r.first.stored f span.stored made.seen
  pub told : made.messages ≡ patched f.all.messages r.first.told r.past.told r.last.told span.messages e.stood e.stand

-- what stays as it was
pub record AreKept (q r : Question) : Type 0 where
  pub macros : macros_behind q ≡ macros_behind r
  pub alike : AreAlike (stored_for q) (stored_for r)
  pub list : listed (asked_by q) (stored_for q) ≡ listed (asked_by r) (stored_for r)
  pub reaches : reaches_for q ≡ reaches_for r
  pub places : places_for q ≡ places_for r
  pub preamble : (resolved_for q).preamble ≡ (resolved_for r).preamble

-- an edit of what is resolved, once the database of this number has these pieces
pub record IsResolvedEdit (q : Question) (number : ℕ) (pieces : List PlacedPiece) (made : ResolvedEdit) : Type 0 where
  pub database : number < length q.databases
  pub place : IsWithin made.seen (length (stored_for q))
  pub entries : (resolved_for (with_database number pieces q)).entries ≡ with_seen made.seen (resolved_for q).entries
  pub spared : (k : ℕ) → IsSpared made.seen k →
      slice_get (resolved_for q).entries k ≡ slice_get (resolved_for (with_database number pieces q)).entries k
  pub values : values_read (stored_for (with_database number pieces q)) ≡ with_own made.seen (values_read (stored_for q))
  pub messages : (resolved_for (with_database number pieces q)).messages ≡ made.messages
  pub kept : AreKept q (with_database number pieces q)
