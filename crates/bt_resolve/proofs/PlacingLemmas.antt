-- Reading items one after another yields what the definitions say about each of them at its place.
use Rattle.std.proofs.Common.{◌≡◌, ◌∙◌, ap, sym, refl, subst, ℕ, ◌+◌, List, [], ◌∷◌, ◌++◌, reverse, append_assoc, append-nil, Option, Result, Ok, Err, OnOk}
use Rattle.std.proofs.lemmas.List.{reverse-append}
use Rattle.std.proofs.lemmas.Grind.{reverse_onto}
use Rattle.bt_bib.specs.declared.spot.Spot.{Spot}
use Rattle.bt_bib.specs.declared.item.Piece.{Piece}
use Rattle.bt_bib.specs.declared.item.Piece.TheVariants as pieces
use Rattle.bt_bib.specs.declared.placed_pieces.PlacedPiece.{PlacedPiece}
use Rattle.bt_bib.specs.Items.{PlacedItem, items_of}
use Rattle.bt_bib.specs.declared.item.Entry.{Entry}
use Rattle.bt_resolve.specs.declared.place.Origin.{Origin}
use Rattle.bt_resolve.specs.Names.{place_of_name}
use Rattle.bt_resolve.specs.Fields.{fields_messages}
use Rattle.bt_resolve.specs.declared.asked.Asked.{Asked}
use Rattle.bt_resolve.specs.declared.declared.Cites.{Cites}
use Rattle.bt_resolve.specs.declared.declared.Declared.{Declared}
use Rattle.bt_resolve.specs.declared.declared.Macro.{Macro}
use Rattle.bt_resolve.specs.declared.entry.Resolved.{Resolved}
use Rattle.bt_resolve.specs.Inherited.{entries_seen}
use Rattle.bt_log.specs.declared.message.Message.{Message}
use Rattle.bt_resolve.specs.declared.stored.Stored.{Stored}
use Rattle.bt_resolve.specs.Values.{MacroTexts}
use Rattle.bt_resolve.specs.Macros.{macro_before}
use Rattle.bt_resolve.specs.inner.Cases.{type_messages, with_content, preamble_at, preamble_of, messages_at, with_item, asked, origin_of}
use Rattle.bt_resolve.specs.Stored.{kind_of, stored_among}
use Rattle.bt_resolve.specs.Warnings.{line_at}
use Rattle.bt_resolve.specs.Messages.{for_each, stored_messages, item_messages, database_messages}
use Rattle.bt_resolve.specs.inner.Databases.{State, resolved_of, resolved_after, after_placed, after_items, after_databases, nothing_read}
use Rattle.bt_resolve.specs.Resolved.{all_items, stored_entries, preamble, messages, resolved}

-- the state is the one after these items, given from the last one back
pub record StandsBehind (a : Asked) (ms : List Macro) (before : List PlacedItem) (s : State) : Type 0 where
  pub macros : s.macros ≡ macro_before ms before
  pub stored : s.stored ≡ stored_among a ms before

pub stands_first : (a : Asked) (ms : List Macro) → StandsBehind a ms [] (nothing_read ms)
unfolding macro_before stored_among
stands_first a ms = record { macros = refl; stored = refl }

pub stands_next : (a : Asked) (ms : List Macro) (database : ℕ) (before : List PlacedItem) (s : State) (item : PlacedItem) → StandsBehind a ms before s → StandsBehind a ms (item ∷ before) (after_placed a database item s)
unfolding macro_before stored_among
stands_next a ms database before s item at = record {
  macros = ap (λ (macros : MacroTexts). with_content item.item.fault item.item.content macros) at.macros;
  stored = ap (λ (macros : MacroTexts). with_item a macros item.item.content s.stored) at.macros ∙ ap (λ (stored : List Stored). with_item a (macro_before ms before) item.item.content stored) at.stored;
}

preamble_next : (a : Asked) (ms : List Macro) (database : ℕ) (before : List PlacedItem) (s : State) (item : PlacedItem) → StandsBehind a ms before s → (after_placed a database item s).preamble ≡ s.preamble ++ preamble_at ms before item
preamble_next a ms database before s item at = ap (λ (macros : MacroTexts). s.preamble ++ preamble_of macros item.item.fault item.item.content) at.macros

pub messages_next : (a : Asked) (ms : List Macro) (database : ℕ) (before : List PlacedItem) (s : State) (item : PlacedItem) → StandsBehind a ms before s → (after_placed a database item s).messages ≡ s.messages ++ messages_at a ms database before item
messages_next a ms database before s item at =
    ap (λ (macros : MacroTexts). s.messages ++ item_messages a macros s.stored (origin_of database item) item.end item.item) at.macros
    ∙ ap (λ (stored : List Stored). s.messages ++ item_messages a (macro_before ms before) stored (origin_of database item) item.end item.item) at.stored

-- the same with one more item first
pub behind_next : (item : PlacedItem) (rest before : List PlacedItem) → reverse (item ∷ rest) ++ before ≡ reverse rest ++ item ∷ before
behind_next item rest before = ap (λ (is : List PlacedItem). is ++ before) (reverse_onto rest item []) ∙ append_assoc (reverse rest) (item ∷ []) before

-- a reading that adds what the definitions say of the items
pub record Adds (a : Asked) (ms : List Macro) (before : List PlacedItem) (r : State) (behind : List PlacedItem) (text : List ℕ) (told : List Message) (s : State) : Type 0 where
  pub stands : StandsBehind a ms behind s
  pub preamble : s.preamble ≡ r.preamble ++ text
  pub messages : s.messages ≡ r.messages ++ told

pub items_add : (a : Asked) (ms : List Macro) (number : ℕ) (before : List PlacedItem) (r : State) (these : List PlacedItem) → StandsBehind a ms before r →
    Adds a ms before r (reverse these ++ before) (for_each (preamble_at ms) before these) (for_each (messages_at a ms number) before these) (after_items a number r these)
items_add a ms number before r [] at = record { stands = at; preamble = sym (append-nil r.preamble); messages = sym (append-nil r.messages) }
items_add a ms number before r (item ∷ rest) at =
    let next = after_placed a number item r in
    let later = items_add a ms number (item ∷ before) next rest (stands_next a ms number before r item at) in record {
      stands = subst (λ (behind : List PlacedItem). StandsBehind a ms behind (after_items a number next rest)) (sym (behind_next item rest before)) later.stands;
      preamble = later.preamble ∙ ap (λ (t : List ℕ). t ++ for_each (preamble_at ms) (item ∷ before) rest) (preamble_next a ms number before r item at) ∙ append_assoc r.preamble (preamble_at ms before item) (for_each (preamble_at ms) (item ∷ before) rest);
      messages = later.messages ∙ ap (λ (t : List Message). t ++ for_each (messages_at a ms number) (item ∷ before) rest) (messages_next a ms number before r item at) ∙ append_assoc r.messages (messages_at a ms number before item) (for_each (messages_at a ms number) (item ∷ before) rest);
    }

pub for_each-append : {A : Type 0} (f : List PlacedItem → PlacedItem → List A) (before these those : List PlacedItem) → for_each f before (these ++ those) ≡ for_each f before these ++ for_each f (reverse these ++ before) those
for_each-append f before [] those = refl
for_each-append {A} f before (item ∷ rest) those =
    ap (λ (t : List A). f before item ++ t) (for_each-append f (item ∷ before) rest those)
    ∙ sym (append_assoc (f before item) (for_each f (item ∷ before) rest) (for_each f (reverse rest ++ item ∷ before) those))
    ∙ ap (λ (behind : List PlacedItem). (f before item ++ for_each f (item ∷ before) rest) ++ for_each f behind those) (sym (behind_next item rest before))

pub behind_both : (these those before : List PlacedItem) → reverse those ++ (reverse these ++ before) ≡ reverse (these ++ those) ++ before
behind_both these those before = sym (append_assoc (reverse those) (reverse these) before) ∙ ap (λ (is : List PlacedItem). is ++ before) (sym (reverse-append these those))

pub databases_add : (a : Asked) (ms : List Macro) (number : ℕ) (before : List PlacedItem) (r : State) (databases : List (List PlacedItem)) → StandsBehind a ms before r →
    Adds a ms before r (reverse (all_items databases) ++ before) (for_each (preamble_at ms) before (all_items databases)) (database_messages a ms number before databases) (after_databases a number r databases)
databases_add a ms number before r [] at = record { stands = at; preamble = sym (append-nil r.preamble); messages = sym (append-nil r.messages) }
databases_add a ms number before r (these ∷ rest) at =
    let next = after_items a number r these in
    let now = items_add a ms number before r these at in
    let later = databases_add a ms (number + 1) (reverse these ++ before) next rest now.stands in record {
      stands = subst (λ (behind : List PlacedItem). StandsBehind a ms behind (after_databases a (number + 1) next rest)) (behind_both these (all_items rest) before) later.stands;
      preamble = later.preamble ∙ ap (λ (t : List ℕ). t ++ for_each (preamble_at ms) (reverse these ++ before) (all_items rest)) now.preamble ∙ append_assoc r.preamble (for_each (preamble_at ms) before these) (for_each (preamble_at ms) (reverse these ++ before) (all_items rest)) ∙ ap (λ (t : List ℕ). r.preamble ++ t) (sym (for_each-append (preamble_at ms) before these (all_items rest)));
      messages = later.messages ∙ ap (λ (t : List Message). t ++ database_messages a ms (number + 1) (reverse these ++ before) rest) now.messages ∙ append_assoc r.messages (for_each (messages_at a ms number) before these) (database_messages a ms (number + 1) (reverse these ++ before) rest);
    }

-- all databases, from nothing
pub all_add : (a : Asked) (ms : List Macro) (databases : List (List PlacedItem)) → Adds a ms [] (nothing_read ms) (reverse (all_items databases)) (for_each (preamble_at ms) [] (all_items databases)) (database_messages a ms 1 [] databases) (after_databases a 1 (nothing_read ms) databases)
all_add a ms databases =
    let all = databases_add a ms 1 [] (nothing_read ms) databases (stands_first a ms) in record {
      stands = subst (λ (behind : List PlacedItem). StandsBehind a ms behind (after_databases a 1 (nothing_read ms) databases)) (append-nil (reverse (all_items databases))) all.stands;
      preamble = all.preamble;
      messages = all.messages;
    }

pub stored_is : (a : Asked) (ms : List Macro) (databases : List (List PlacedItem)) → (after_databases a 1 (nothing_read ms) databases).stored ≡ stored_entries a ms databases
unfolding stored_entries
stored_is a ms databases = (all_add a ms databases).stands.stored

preamble_is : (a : Asked) (ms : List Macro) (databases : List (List PlacedItem)) → (after_databases a 1 (nothing_read ms) databases).preamble ≡ preamble ms databases
unfolding preamble
preamble_is a ms databases = (all_add a ms databases).preamble

messages_are : (a : Asked) (ms : List Macro) (databases : List (List PlacedItem)) → (after_databases a 1 (nothing_read ms) databases).messages ≡ database_messages a ms 1 [] databases
messages_are a ms databases = (all_add a ms databases).messages

-- what is resolved, once no database is left
resolved_by : (a : Asked) (ms : List Macro) (min : ℕ) (databases : List (List PlacedItem)) (s : State) → s ≡ after_databases a 1 (nothing_read ms) databases →
    resolved_after a min s
    ≡ record { entries = entries_seen a min (stored_entries a ms databases); preamble = preamble ms databases; messages = messages a ms databases }
unfolding messages
resolved_by a ms min databases s is =
    let read = after_databases a 1 (nothing_read ms) databases in
    ap (resolved_after a min) is
    ∙ ap (λ (stored : List Stored). resolved_of a min stored read.preamble read.messages) (stored_is a ms databases)
    ∙ ap (λ (text : List ℕ). resolved_of a min (stored_entries a ms databases) text read.messages) (preamble_is a ms databases)
    ∙ ap (λ (told : List Message). resolved_of a min (stored_entries a ms databases) (preamble ms databases) told) (messages_are a ms databases)

pub resolved_is : (d : Declared) (c : Cites) (min : ℕ) (databases : List (List PlacedItem)) (a : Asked) (before s : State) (all : Resolved) → a ≡ asked d c → before ≡ nothing_read d.macros →
    s ≡ after_databases a 1 before databases → all ≡ resolved_after a min s → all ≡ resolved d c databases min
unfolding resolved
resolved_is d c min databases a before s all is_asked nothing read is =
    is ∙ ap (λ (b : Asked). resolved_after b min s) is_asked
    ∙ resolved_by (asked d c) d.macros min databases s (read ∙ ap (λ (b : Asked). after_databases b 1 before databases) is_asked ∙ ap (λ (t : State). after_databases (asked d c) 1 t databases) nothing)

-- one piece after others: an item is read, and a comment word is skipped
more_by : (a : Asked) (number : ℕ) (s : State) (from end : Spot) (x : Piece) (rest : List PlacedItem) →
    after_items a number (after_items a number s (elim x [ pieces.Comment ↦ [] | pieces.Item item ↦ record { start = from; end = end; item = item } ∷ [] ])) rest
    ≡ after_items a number s (elim x [ pieces.Comment ↦ rest | pieces.Item item ↦ record { start = from; end = end; item = item } ∷ rest ])
more_by a number s from end pieces.Comment rest = refl
more_by a number s from end (pieces.Item item) rest = refl

pub items_more : (a : Asked) (number : ℕ) (s : State) (p : PlacedPiece) (ps : List PlacedPiece) → after_items a number (after_items a number s (items_of (p ∷ []))) (items_of ps) ≡ after_items a number s (items_of (p ∷ ps))
items_more a number s p ps = more_by a number s p.start p.end p.piece (items_of ps)

-- the messages of an entry that is stored: that of its type, then those of its fields
pub stored_told : (a : Asked) (macros : MacroTexts) (origin : Origin) (line : ℕ) (e : Entry) (key one two kind : List ℕ) (function : Option ℕ) (old mid new : List Message) →
    kind ≡ kind_of e → function ≡ place_of_name a.types kind → one ≡ key → two ≡ key → mid ≡ old ++ type_messages function (line_at origin line) one → new ≡ mid ++ fields_messages a.fields macros origin two [] e.fields →
    new ≡ old ++ stored_messages a macros origin line e key
unfolding stored_messages
stored_told a macros origin line e key one two kind function old mid new is_kind is_function is_one is_two first later =
    later ∙ ap (λ (m : List Message). m ++ fields_messages a.fields macros origin two [] e.fields) first
    ∙ ap (λ (f : Option ℕ). (old ++ type_messages f (line_at origin line) one) ++ fields_messages a.fields macros origin two [] e.fields) (is_function ∙ ap (place_of_name a.types) is_kind)
    ∙ ap (λ (k : List ℕ). (old ++ type_messages (place_of_name a.types (kind_of e)) (line_at origin line) k) ++ fields_messages a.fields macros origin two [] e.fields) is_one
    ∙ ap (λ (k : List ℕ). (old ++ type_messages (place_of_name a.types (kind_of e)) (line_at origin line) key) ++ fields_messages a.fields macros origin k [] e.fields) is_two
    ∙ append_assoc old (type_messages (place_of_name a.types (kind_of e)) (line_at origin line) key) (fields_messages a.fields macros origin key [] e.fields)

pub always : {T E : Type 0} (r : Result T E) (P : Type 0) → P → OnOk r P
always (Ok x) P p = p
always (Err e) P p = tt
