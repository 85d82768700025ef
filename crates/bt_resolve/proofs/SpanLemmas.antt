-- Items in the place of others with the same skeletons.
use Rattle.std.proofs.Common.{◌≡◌, ◌∙◌, ap, sym, refl, append_assoc, append-nil, ℕ, Bool, true, false, List, [], ◌∷◌, ◌++◌, reverse, map, Option, Some, None}
use Rattle.std.specs.Prelude.{◌&&◌, not, codes, cond, filter, if◌then◌else◌}
use Rattle.bt_text.specs.CaseFolding.{folded}
use Rattle.bt_bib.specs.declared.fault.ItemFault.{ItemFault}
use Rattle.bt_bib.specs.Items.{PlacedItem}
use Rattle.bt_bib.specs.declared.spot.Spot.{Spot}
use Rattle.bt_bib.specs.declared.item.Closing.{Closing}
use Rattle.bt_bib.specs.declared.item.Part.{Part}
use Rattle.bt_bib.specs.declared.item.Item.{Item}
use Rattle.bt_bib.specs.declared.item.Content.{Content}
use Rattle.bt_bib.specs.declared.item.Content.TheVariants as contents
use Rattle.bt_bib.specs.declared.item.Entry.{Entry}
use Rattle.bt_log.specs.declared.message.Message.{Message}
use Rattle.bt_resolve.specs.declared.asked.Asked.{Asked}
use Rattle.bt_resolve.specs.declared.declared.Macro.{Macro}
use Rattle.bt_resolve.specs.declared.stored.Stored.{Stored}
use Rattle.bt_resolve.specs.declared.place.Origin.{Origin}
use Rattle.bt_resolve.specs.Names.{place_of_name}
use Rattle.bt_resolve.specs.Values.{MacroTexts, value_warnings}
use Rattle.bt_resolve.specs.Macros.{faultless, macro_before}
use Rattle.bt_resolve.specs.Stored.{stored_of, is_wanted, is_stored, stored_among}
use Rattle.bt_resolve.specs.Warnings.{line_at}
use Rattle.bt_resolve.specs.inner.Cases.{origin_of, string_messages, preamble_messages, with_content, with_entry, with_item, fault_messages, key_messages, content_messages, messages_at, preamble_of, preamble_at}
use Rattle.bt_resolve.specs.Faults.{fault_error, repeated}
use Rattle.bt_resolve.specs.Messages.{stored_messages, item_messages, for_each}
use Rattle.bt_resolve.specs.Skeletons.{is_entry, is_string, MacrosAreOfStrings, skeleton, AreAlike, HaveOneSkeleton, IsLike, AreInPlace, entry_added, added, added_at, AreOneBefore, GiveTheSame, StoredInParts, LaterItemsAreTheSame}
use Rattle.std.proofs.lemmas.List.{map-append}
use Rattle.bt_resolve.proofs.PlacingLemmas.{behind_next}
use Rattle.bt_resolve.proofs.SkeletonLemmas.{same_wanted, same_stored}

-- ---- what an item adds

added_if : (b : Bool) (stored : List Stored) (s : Stored) → (if b then stored ++ s ∷ [] else stored) ≡ stored ++ (if b then s ∷ [] else [])
added_if true stored s = refl
added_if false stored s = sym (append-nil stored)

with_added_entry : (a : Asked) (macros : MacroTexts) (e : Entry) (key : Option (List ℕ)) (stored : List Stored) → with_entry a macros e key stored ≡ stored ++ entry_added a macros stored e key
with_added_entry a macros e None stored = sym (append-nil stored)
with_added_entry a macros e (Some key) stored = added_if (is_wanted a stored key && not (is_stored stored key)) stored (stored_of a macros e key)

with_added : (a : Asked) (macros : MacroTexts) (c : Content) (stored : List Stored) → with_item a macros c stored ≡ stored ++ added a macros stored c
with_added a macros (contents.Entry e) stored = with_added_entry a macros e e.key stored
with_added a macros (contents.Define d) stored = sym (append-nil stored)
with_added a macros (contents.Preamble parts) stored = sym (append-nil stored)

-- what is added depends on skeletons alone
entry_added_over : (a : Asked) (macros : MacroTexts) (e : Entry) (key : Option (List ℕ)) (stored others : List Stored) → AreAlike stored others → entry_added a macros stored e key ≡ entry_added a macros others e key
entry_added_over a macros e None stored others alike = refl
entry_added_over a macros e (Some key) stored others alike =
    λ j. if same_wanted a stored others alike key j && not (same_stored stored others alike key j) then stored_of a macros e key ∷ [] else []

added_over : (a : Asked) (macros : MacroTexts) (c : Content) (stored others : List Stored) → AreAlike stored others → added a macros stored c ≡ added a macros others c
added_over a macros (contents.Entry e) stored others alike = entry_added_over a macros e e.key stored others alike
added_over a macros (contents.Define d) stored others alike = refl
added_over a macros (contents.Preamble parts) stored others alike = refl

-- entries of one skeleton are added alike
bare_if : (b : Bool) (s t : Stored) → skeleton s ≡ skeleton t → AreAlike (if b then s ∷ [] else []) (if b then t ∷ [] else [])
bare_if true s t is = λ j. is j ∷ []
bare_if false s t is = refl

bare_of : (a : Asked) (macros : MacroTexts) (e f : Entry) (key : List ℕ) → HaveOneSkeleton macros e f → skeleton (stored_of a macros e key) ≡ skeleton (stored_of a macros f key)
unfolding stored_of
bare_of a macros e f key is = λ j. record {
  key = key;
  kind = folded (is.kind j);
  function = place_of_name a.types (is.kind j);
  crossref = is.reference j;
  values = [];
}

entry_like : (a : Asked) (macros : MacroTexts) (e f : Entry) (key : Option (List ℕ)) (stored : List Stored) → HaveOneSkeleton macros e f → AreAlike (entry_added a macros stored e key) (entry_added a macros stored f key)
entry_like a macros e f None stored is = refl
entry_like a macros e f (Some key) stored is =
    bare_if (is_wanted a stored key && not (is_stored stored key)) (stored_of a macros e key) (stored_of a macros f key) (bare_of a macros e f key is)

added_like : (a : Asked) (macros : MacroTexts) (x y : Content) (stored : List Stored) → IsLike macros x y → AreAlike (added a macros stored x) (added a macros stored y)
added_like a macros (contents.Entry e) (contents.Entry f) stored is =
    entry_like a macros e f e.key stored is ∙ ap (λ (key : Option (List ℕ)). map skeleton (entry_added a macros stored f key)) is.key
added_like a macros (contents.Entry e) (contents.Define d) stored is = absurd is
added_like a macros (contents.Entry e) (contents.Preamble parts) stored is = absurd is
added_like a macros (contents.Define d) y stored is = ap (λ (c : Content). map skeleton (added a macros stored c)) is
added_like a macros (contents.Preamble parts) y stored is = ap (λ (c : Content). map skeleton (added a macros stored c)) is

defined_like : (macros : MacroTexts) (fault other : Option ItemFault) (x y : Content) → IsLike macros x y → (is_entry x ≡ false → fault ≡ other) → with_content fault x macros ≡ with_content other y macros
defined_like macros fault other (contents.Entry e) (contents.Entry f) is same = refl
defined_like macros fault other (contents.Entry e) (contents.Define d) is same = absurd is
defined_like macros fault other (contents.Entry e) (contents.Preamble parts) is same = absurd is
defined_like macros fault other (contents.Define d) y is same = λ j. with_content (same refl j) (is j) macros
defined_like macros fault other (contents.Preamble parts) y is same = λ j. with_content (same refl j) (is j) macros

-- ---- one item more

-- what is added to lists that are alike
alike_with : (a : Asked) (macros : MacroTexts) (x y : Content) (stored others : List Stored) → AreAlike stored others → IsLike macros x y → AreAlike (added a macros stored x) (added a macros others y)
alike_with a macros x y stored others alike like =
    added_like a macros x y stored like ∙ ap (λ (ss : List Stored). map skeleton ss) (added_over a macros y stored others alike)

-- the same item, and an item in the place of another
added_next : (a : Asked) (ms : List Macro) (before others : List PlacedItem) (x y : PlacedItem) → AreOneBefore a ms before others → IsLike (macro_before ms before) x.item.content y.item.content → AreAlike (added_at a ms before x) (added_at a ms others y)
added_next a ms before others x y one like =
    alike_with a (macro_before ms before) x.item.content y.item.content (stored_among a ms before) (stored_among a ms others) one.stored like
    ∙ ap (λ (m : MacroTexts). map skeleton (added a m (stored_among a ms others) y.item.content)) one.defined

pub alike_append : (ss ts us vs : List Stored) → AreAlike ss ts → AreAlike us vs → AreAlike (ss ++ us) (ts ++ vs)
alike_append ss ts us vs first second =
    map-append skeleton ss us ∙ (λ j. first j ++ second j) ∙ sym (map-append skeleton ts vs)

pub stored_next_is : (a : Asked) (ms : List Macro) (before : List PlacedItem) (x : PlacedItem) → stored_among a ms (x ∷ before) ≡ stored_among a ms before ++ added_at a ms before x
unfolding stored_among
stored_next_is a ms before x = with_added a (macro_before ms before) x.item.content (stored_among a ms before)

pub one_next : (a : Asked) (ms : List Macro) (before others : List PlacedItem) (x y : PlacedItem) → AreOneBefore a ms before others → IsLike (macro_before ms before) x.item.content y.item.content → (is_entry x.item.content ≡ false → x.item.fault ≡ y.item.fault) → AreOneBefore a ms (x ∷ before) (y ∷ others)
unfolding macro_before
one_next a ms before others x y one like fault = record {
  defined = defined_like (macro_before ms before) x.item.fault y.item.fault x.item.content y.item.content like fault ∙ ap (λ (m : MacroTexts). with_content y.item.fault y.item.content m) one.defined;
  stored =
      ap (λ (ss : List Stored). map skeleton ss) (stored_next_is a ms before x)
      ∙ alike_append (stored_among a ms before) (stored_among a ms others) (added_at a ms before x) (added_at a ms others y) one.stored (added_next a ms before others x y one like)
      ∙ sym (ap (λ (ss : List Stored). map skeleton ss) (stored_next_is a ms others y));
}

-- an item is like itself
pub itself : (macros : MacroTexts) (c : Content) → IsLike macros c c
itself macros (contents.Entry e) = record { key = refl; kind = refl; reference = refl }
itself macros (contents.Define d) = refl
itself macros (contents.Preamble parts) = refl

pub one_more : (a : Asked) (ms : List Macro) (before others : List PlacedItem) (x : PlacedItem) → AreOneBefore a ms before others → AreOneBefore a ms (x ∷ before) (x ∷ others)
one_more a ms before others x one = one_next a ms before others x x one (itself (macro_before ms before) x.item.content) (λ other. refl)

-- ---- an item's messages, by what it holds

key_given : (a : Asked) (macros : MacroTexts) (stored : List Stored) (o : Origin) (line : ℕ) (e : Entry) (key : Option (List ℕ)) →
    (let told : List Message = elim key [ None ↦ [] | Some k ↦ if is_wanted a stored k then (if is_stored stored k then repeated (line_at o line) k ∷ [] else stored_messages a macros o line e k) else [] ] in told ≡ key_messages a macros stored o line e key)
key_given a macros stored o line e None = refl
key_given a macros stored o line e (Some k) = refl

string_given : (macros : MacroTexts) (o : Origin) (line : ℕ) (name : Option (List ℕ)) (parts : Option (List Part)) →
    (let told : List Message = elim name [ None ↦ [] | Some n ↦ elim parts [ None ↦ [] | Some these ↦ value_warnings (Some n) macros o line n these ] ] in told ≡ string_messages macros o line name parts)
string_given macros o line None parts = refl
string_given macros o line (Some n) None = refl
string_given macros o line (Some n) (Some these) = refl

preamble_given : (macros : MacroTexts) (o : Origin) (line : ℕ) (parts : Option (List Part)) →
    (let told : List Message = elim parts [ None ↦ [] | Some these ↦ value_warnings None macros o line (codes "preamble") these ] in told ≡ preamble_messages macros o line parts)
preamble_given macros o line None = refl
preamble_given macros o line (Some these) = refl

fault_given : (number : ℕ) (end : Spot) (c : Content) (close : Option Closing) (fault : Option ItemFault) →
    (let told : List Message = elim fault [ None ↦ [] | Some f ↦ fault_error number end c close f ∷ [] ] in told ≡ fault_messages number end c close fault)
fault_given number end c close None = refl
fault_given number end c close (Some f) = refl

messages_given : (a : Asked) (macros : MacroTexts) (stored : List Stored) (o : Origin) (end : Spot) (line : ℕ) (c : Content) (close : Option Closing) (fault : Option ItemFault) → item_messages a macros stored o end (record { line = line; content = c; close = close; fault = fault }) ≡ content_messages a macros stored o line fault c ++ fault_messages o.database end c close fault
unfolding item_messages
messages_given a macros stored o end line (contents.Entry e) close fault = λ j. key_given a macros stored o line e e.key j ++ fault_given o.database end (contents.Entry e) close fault j
messages_given a macros stored o end line (contents.Define d) close fault = λ j. string_given macros o line d.name (faultless fault d.value) j ++ fault_given o.database end (contents.Define d) close fault j
messages_given a macros stored o end line (contents.Preamble parts) close fault = λ j. preamble_given macros o line (faultless fault parts) j ++ fault_given o.database end (contents.Preamble parts) close fault j

pub messages_are : (a : Asked) (macros : MacroTexts) (stored : List Stored) (o : Origin) (end : Spot) (item : Item) → item_messages a macros stored o end item ≡ content_messages a macros stored o item.line item.fault item.content ++ fault_messages o.database end item.content item.close item.fault
messages_are a macros stored o end item = messages_given a macros stored o end item.line item.content item.close item.fault

-- ---- what later items give

key_told : (a : Asked) (macros : MacroTexts) (stored others : List Stored) (o : Origin) (line : ℕ) (e : Entry) (key : Option (List ℕ)) → AreAlike stored others → key_messages a macros stored o line e key ≡ key_messages a macros others o line e key
key_told a macros stored others o line e None alike = refl
key_told a macros stored others o line e (Some key) alike =
    λ j. if same_wanted a stored others alike key j then (if same_stored stored others alike key j then repeated (line_at o line) key ∷ [] else stored_messages a macros o line e key) else []

content_told : (a : Asked) (macros : MacroTexts) (stored others : List Stored) (o : Origin) (line : ℕ) (fault : Option ItemFault) (c : Content) → AreAlike stored others → content_messages a macros stored o line fault c ≡ content_messages a macros others o line fault c
content_told a macros stored others o line fault (contents.Entry e) alike = key_told a macros stored others o line e e.key alike
content_told a macros stored others o line fault (contents.Define d) alike = refl
content_told a macros stored others o line fault (contents.Preamble parts) alike = refl

pub item_told : (a : Asked) (ms : List Macro) (before others : List PlacedItem) (number : ℕ) (x : PlacedItem) → AreOneBefore a ms before others → messages_at a ms number before x ≡ messages_at a ms number others x
item_told a ms before others number x one =
    let o = origin_of number x in
    let last = fault_messages number x.end x.item.content x.item.close x.item.fault in
    messages_are a (macro_before ms before) (stored_among a ms before) o x.end x.item
    ∙ (λ j. content_messages a (one.defined j) (stored_among a ms before) o x.item.line x.item.fault x.item.content ++ last)
    ∙ ap (λ (told : List Message). told ++ last) (content_told a (macro_before ms others) (stored_among a ms before) (stored_among a ms others) o x.item.line x.item.fault x.item.content one.stored)
    ∙ sym (messages_are a (macro_before ms others) (stored_among a ms others) o x.end x.item)

pub item_added : (a : Asked) (ms : List Macro) (before others : List PlacedItem) (item : PlacedItem) → AreOneBefore a ms before others → added_at a ms before item ≡ added_at a ms others item
item_added a ms before others item one =
    ap (λ (m : MacroTexts). added a m (stored_among a ms before) item.item.content) one.defined
    ∙ added_over a (macro_before ms others) item.item.content (stored_among a ms before) (stored_among a ms others) one.stored

pub item_said : (a : Asked) (ms : List Macro) (before others : List PlacedItem) (item : PlacedItem) → AreOneBefore a ms before others → preamble_at ms before item ≡ preamble_at ms others item
item_said a ms before others item one = ap (λ (m : MacroTexts). preamble_of m item.item.fault item.item.content) one.defined

-- what each of these items gives is the same after both
same_each : {A : Type 0} (a : Asked) (ms : List Macro) (f : List PlacedItem → PlacedItem → List A) → ((before others : List PlacedItem) (item : PlacedItem) → AreOneBefore a ms before others → f before item ≡ f others item) → (before others items : List PlacedItem) → AreOneBefore a ms before others → for_each f before items ≡ for_each f others items
same_each a ms f same before others [] one = refl
same_each a ms f same before others (x ∷ items) one =
    let rest = same_each a ms f same (x ∷ before) (x ∷ others) items (one_more a ms before others x one) in
    λ j. same before others x one j ++ rest j

one_after : (a : Asked) (ms : List Macro) (before others items : List PlacedItem) → AreOneBefore a ms before others → AreOneBefore a ms (reverse items ++ before) (reverse items ++ others)
one_after a ms before others [] one = one
one_after a ms before others (x ∷ items) one =
    let later = one_after a ms (x ∷ before) (x ∷ others) items (one_more a ms before others x one) in
    rw (behind_next x items before, behind_next x items others) later

pub give_the_same : (a : Asked) (ms : List Macro) (before others items : List PlacedItem) → AreOneBefore a ms before others → GiveTheSame a ms before others items
give_the_same a ms before others items one = record {
  storing = same_each a ms (added_at a ms) (λ b o item is. item_added a ms b o item is) before others items one;
  telling = λ number. same_each a ms (messages_at a ms number) (λ b o item is. item_told a ms b o number item is) before others items one;
  saying = same_each a ms (preamble_at ms) (λ b o item is. item_said a ms b o item is) before others items one;
  after = one_after a ms before others items one;
}

-- ---- a span

pub stored_in_parts : StoredInParts
stored_in_parts a ms before [] = sym (append-nil (stored_among a ms before))
stored_in_parts a ms before (x ∷ items) =
    ap (stored_among a ms) (behind_next x items before)
    ∙ stored_in_parts a ms (x ∷ before) items
    ∙ ap (λ (ss : List Stored). ss ++ for_each (added_at a ms) (x ∷ before) items) (stored_next_is a ms before x)
    ∙ append_assoc (stored_among a ms before) (added_at a ms before x) (for_each (added_at a ms) (x ∷ before) items)

-- what items in the place of others give, and what is before the items after them
record Spanned (a : Asked) (ms : List Macro) (before others xs ys : List PlacedItem) : Type 0 where
  alike : AreAlike (for_each (added_at a ms) before xs) (for_each (added_at a ms) others ys)
  one : AreOneBefore a ms (reverse xs ++ before) (reverse ys ++ others)

spanned : (a : Asked) (ms : List Macro) (before others xs ys : List PlacedItem) → AreOneBefore a ms before others → AreInPlace ms before xs ys → Spanned a ms before others xs ys
spanned a ms before others [] [] one in_place = record { alike = refl; one = one }
spanned a ms before others [] (y ∷ ys) one in_place = absurd in_place
spanned a ms before others (x ∷ xs) [] one in_place = absurd in_place
spanned a ms before others (x ∷ xs) (y ∷ ys) one in_place =
    let rest = spanned a ms (x ∷ before) (y ∷ others) xs ys (one_next a ms before others x y one in_place.0 in_place.1) in_place.2 in
    record {
      alike = alike_append (added_at a ms before x) (added_at a ms others y) (for_each (added_at a ms) (x ∷ before) xs) (for_each (added_at a ms) (y ∷ others) ys) (added_next a ms before others x y one in_place.0) rest.alike;
      one = rw (behind_next x xs before, behind_next y ys others) rest.one;
    }

pub later_the_same : LaterItemsAreTheSame
later_the_same a ms before xs ys items in_place =
    let span = spanned a ms before before xs ys (record { defined = refl; stored = refl }) in_place in
    (span.alike, span.one, give_the_same a ms (reverse xs ++ before) (reverse ys ++ before) items span.one)

-- ---- macros

defined_if : (ms : List Macro) (fault : Option ItemFault) (c : Content) (b : Bool) (x : PlacedItem) (rest : List PlacedItem) (macros : MacroTexts) → b ≡ is_string c → x.item.content ≡ c → x.item.fault ≡ fault → macros ≡ macro_before ms rest →
    with_content fault c macros ≡ macro_before ms (cond b (x ∷ rest) rest)
unfolding macro_before
defined_if ms fault (contents.Entry e) true x rest macros b_is c_is f_is m_is = absurd cc
defined_if ms fault (contents.Entry e) false x rest macros b_is c_is f_is m_is = m_is
defined_if ms fault (contents.Define d) true x rest macros b_is c_is f_is m_is = λ j. with_content (sym f_is j) (sym c_is j) (m_is j)
defined_if ms fault (contents.Define d) false x rest macros b_is c_is f_is m_is = absurd cc
defined_if ms fault (contents.Preamble parts) true x rest macros b_is c_is f_is m_is = absurd cc
defined_if ms fault (contents.Preamble parts) false x rest macros b_is c_is f_is m_is = m_is

pub macros_are_of_strings : MacrosAreOfStrings
unfolding macro_before
macros_are_of_strings ms [] = refl
macros_are_of_strings ms (x ∷ before) =
    defined_if ms x.item.fault x.item.content (is_string x.item.content) x (filter (λ (i : PlacedItem). is_string i.item.content) before) (macro_before ms before) refl refl refl (macros_are_of_strings ms before)
