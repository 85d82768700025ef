-- What marks tell of the items in whose place others stand.
use Rattle.std.proofs.Common.{◌≡◌, ◌≢◌, ◌∙◌, ap, sym, refl, append_assoc, append-nil, ℕ, ◌≤◌, Bool, true, false, IsTrue, List, [], ◌∷◌, ◌++◌, length, length-append, reverse, get_or, Option, Some, None, arith}
use Rattle.std.specs.Prelude.{◌||◌, ◌&&◌, ◌==◌, not, nat_lt, if◌then◌else◌}
use Rattle.std.proofs.lemmas.Bool.{lt-ltb, le-ltb}
use Rattle.std.proofs.lemmas.Bool.Decides.{Decides-eqb}
use Rattle.bt_bib.specs.Items.{PlacedItem}
use Rattle.bt_bib.specs.declared.placed_pieces.PlacedPiece.{PlacedPiece}
use Rattle.bt_bib.specs.declared.spot.Spot.{Spot}
use Rattle.bt_bib.specs.declared.fault.ItemFault.{ItemFault}
use Rattle.bt_bib.specs.declared.item.Closing.{Closing}
use Rattle.bt_bib.specs.declared.item.Content.{Content}
use Rattle.bt_bib.specs.declared.item.Content.TheVariants as contents
use Rattle.bt_bib.specs.declared.item.Entry.{Entry}
use Rattle.bt_bib.specs.declared.item.Item.{Item}
use Rattle.bt_log.specs.declared.message.Message.{Message}
use Rattle.bt_resolve.specs.declared.asked.Asked.{Asked}
use Rattle.bt_resolve.specs.declared.declared.Macro.{Macro}
use Rattle.bt_resolve.specs.declared.place.Origin.{Origin}
use Rattle.bt_resolve.specs.declared.span.Mark.{Mark}
use Rattle.bt_resolve.specs.declared.span.Span.{Span}
use Rattle.bt_resolve.specs.declared.stored.Stored.{Stored}
use Rattle.bt_resolve.specs.Values.{MacroTexts}
use Rattle.bt_resolve.specs.Macros.{faultless, macro_before}
use Rattle.bt_resolve.specs.Stored.{stored_of, is_wanted, is_stored, stored_among}
use Rattle.bt_resolve.specs.Warnings.{line_at}
use Rattle.bt_resolve.specs.inner.Cases.{origin_of, with_entry, with_item, key_messages, string_messages, preamble_messages, fault_messages, messages_at}
use Rattle.bt_resolve.specs.Faults.{repeated}
use Rattle.bt_resolve.specs.Messages.{stored_messages, item_messages, for_each}
use Rattle.bt_resolve.specs.inner.Spans.{tells, stored_if, told_if, nothing, with_item_by, span_of, tells_of}
use Rattle.bt_resolve.specs.Skeletons.{is_entry, AreAlike, IsLike, AreInPlace, entry_added, added, added_at}
use Rattle.bt_resolve.proofs.SkeletonLemmas.{same_wanted, same_stored}
use Rattle.bt_resolve.proofs.SpanLemmas.{messages_are}

-- ---- one entry

not_more : (n : ℕ) (b : Bool) → b ≡ nat_lt n n → b ≡ false
not_more n b is = is ∙ le-ltb n n (omega arith)

one_more : (ss : List Stored) (s : Stored) → nat_lt (length ss) (length (ss ++ s ∷ [])) ≡ true
one_more ss s = lt-ltb (length ss) (length (ss ++ s ∷ [])) (omega (arith, length-append ss (s ∷ [])))

-- the entry is stored exactly if it is wanted and not repeated
told_by : (wanted again stored : Bool) (told : ℕ) (ss : List Stored) (s t : Stored) (was is : Message) (old new faults : List Message) →
    stored ≡ nat_lt (length ss) (length (if wanted && not again then ss ++ s ∷ [] else ss)) → told ≡ length ((if wanted then (if again then was ∷ [] else old) else []) ++ faults) → IsTrue (stored || told == 0) →
    ((if stored then t ∷ [] else []) ≡ (if wanted && not again then t ∷ [] else [])) × ((if stored then new else []) ≡ (if wanted then (if again then is ∷ [] else new) else []))
told_by true true true told ss s t was is old new faults marked count h = let wrong : true ≡ false = not_more (length ss) true marked in cc
told_by true true false told ss s t was is old new faults marked count h =
    let none : told ≡ 0 = (Decides-eqb told 0).0 h in
    absurd (omega (arith, count, none))
told_by true false true told ss s t was is old new faults marked count h = (refl, refl)
told_by true false false told ss s t was is old new faults marked count h = let wrong : false ≡ true = marked ∙ one_more ss s in cc
told_by false again true told ss s t was is old new faults marked count h = let wrong : true ≡ false = not_more (length ss) true marked in cc
told_by false again false told ss s t was is old new faults marked count h = (refl, refl)

-- an entry of this key in the place of another, after stored entries of the same skeletons
entry_tells : (a : Asked) (before macros : MacroTexts) (ss ts : List Stored) (o p : Origin) (line next : ℕ) (e f : Entry) (key : Option (List ℕ)) (faults : List Message) (stored : Bool) (told : ℕ) → AreAlike ss ts →
    stored ≡ nat_lt (length ss) (length (with_entry a before e key ss)) → told ≡ length (key_messages a before ss o line e key ++ faults) → IsTrue (stored || told == 0) →
    (stored_if a macros stored f key ≡ entry_added a macros ts f key) × (told_if a macros stored p next f key ≡ key_messages a macros ts p next f key)
entry_tells a before macros ss ts o p line next e f None faults stored told alike marked count h = (refl, refl)
entry_tells a before macros ss ts o p line next e f (Some key) faults stored told alike marked count h =
    let both = told_by (is_wanted a ss key) (is_stored ss key) stored told ss (stored_of a before e key) (stored_of a macros f key) (repeated (line_at o line) key) (repeated (line_at p next) key)
    (stored_messages a before o line e key) (stored_messages a macros p next f key) faults marked count h in (
      both.0 ∙ (λ j. if same_wanted a ss ts alike key j && not (same_stored ss ts alike key j) then stored_of a macros f key ∷ [] else []),
      both.1 ∙ (λ j. if same_wanted a ss ts alike key j then (if same_stored ss ts alike key j then repeated (line_at p next) key ∷ [] else stored_messages a macros p next f key) else []),
    )

-- what comes with an item
abbrev given : Asked → MacroTexts → List Stored → Origin → Spot → Item → Span → Span
given a macros ts o end y s = record {
  stored = s.stored ++ added a macros ts y.content;
  messages = s.messages ++ item_messages a macros ts o end y;
}

abbrev item_of : ℕ → Content → Option Closing → Option ItemFault → Item
item_of line c close fault = record { line = line; content = c; close = close; fault = fault }

item_tells : (a : Asked) (before macros : MacroTexts) (ss ts : List Stored) (o p : Origin) (stop end : Spot) (line next : ℕ) (x y : Content) (closed close : Option Closing) (wrong fault : Option ItemFault) (m : Mark) (s : Span) → AreAlike ss ts → IsLike before x y →
    m.stored ≡ nat_lt (length ss) (length (with_item a before x ss)) → m.told ≡ length (item_messages a before ss o stop (item_of line x closed wrong)) → IsTrue (not (is_entry y) || tells m) →
    with_item_by a macros m p end (item_of next y close fault) s ≡ given a macros ts p end (item_of next y close fault) s
unfolding item_messages
item_tells a before macros ss ts o p stop end line next (contents.Entry e) (contents.Entry f) closed close wrong fault m s alike like marked count h =
    let last = fault_messages p.database end (contents.Entry f) close fault in
    let same : e.key ≡ f.key = like.key in
    let both = entry_tells a before macros ss ts o p line next e f f.key (fault_messages o.database stop (contents.Entry e) closed wrong) m.stored m.told alike
    (marked ∙ ap (λ (k : Option (List ℕ)). nat_lt (length ss) (length (with_entry a before e k ss))) same)
    (count ∙ ap (λ (k : Option (List ℕ)). length (key_messages a before ss o line e k ++ fault_messages o.database stop (contents.Entry e) closed wrong)) same) h in
    (λ j. record {
      stored = s.stored ++ both.0 j;
      messages = append_assoc s.messages (both.1 j) last j;
    })
item_tells a before macros ss ts o p stop end line next (contents.Entry e) (contents.Define d) closed close wrong fault m s alike like marked count h = absurd like
item_tells a before macros ss ts o p stop end line next (contents.Entry e) (contents.Preamble parts) closed close wrong fault m s alike like marked count h = absurd like
item_tells a before macros ss ts o p stop end line next (contents.Define d) (contents.Entry f) closed close wrong fault m s alike like marked count h = let wrong_is : contents.Define d ≡ contents.Entry f = like in cc
item_tells a before macros ss ts o p stop end line next (contents.Define d) (contents.Define g) closed close wrong fault m s alike like marked count h =
    let told = string_messages macros p next g.name (faultless fault g.value) in
    (λ j. record {
      stored = sym (append-nil s.stored) j;
      messages = (append_assoc s.messages told (fault_messages p.database end (contents.Define g) close fault) ∙ ap (λ (ms : List Message). s.messages ++ ms) (sym (messages_are a macros ts p end (item_of next (contents.Define g) close fault)))) j;
    })
item_tells a before macros ss ts o p stop end line next (contents.Define d) (contents.Preamble parts) closed close wrong fault m s alike like marked count h = let wrong_is : contents.Define d ≡ contents.Preamble parts = like in cc
item_tells a before macros ss ts o p stop end line next (contents.Preamble q) (contents.Entry f) closed close wrong fault m s alike like marked count h = let wrong_is : contents.Preamble q ≡ contents.Entry f = like in cc
item_tells a before macros ss ts o p stop end line next (contents.Preamble q) (contents.Define g) closed close wrong fault m s alike like marked count h = let wrong_is : contents.Preamble q ≡ contents.Define g = like in cc
item_tells a before macros ss ts o p stop end line next (contents.Preamble q) (contents.Preamble parts) closed close wrong fault m s alike like marked count h =
    let told = preamble_messages macros p next (faultless fault parts) in
    (λ j. record {
      stored = sym (append-nil s.stored) j;
      messages = (append_assoc s.messages told (fault_messages p.database end (contents.Preamble parts) close fault) ∙ ap (λ (ms : List Message). s.messages ++ ms) (sym (messages_are a macros ts p end (item_of next (contents.Preamble parts) close fault)))) j;
    })

-- ---- at most one item

-- what comes by an item's mark is what the definitions say of the items in its place
pub span_is : (a : Asked) (ms : List Macro) (number : ℕ) (before xs ys : List PlacedItem) (macros : MacroTexts) (m : Mark) → AreInPlace ms before xs ys → length ys ≤ 1 →
    m.stored ≡ nat_lt (length (stored_among a ms before)) (length (stored_among a ms (reverse xs ++ before))) → m.told ≡ length (for_each (messages_at a ms number) before xs) →
    IsTrue (tells_of m ys) → macros ≡ macro_before ms before →
    span_of a macros number m ys ≡ record { stored = for_each (added_at a ms) before ys; messages = for_each (messages_at a ms number) before ys }
unfolding stored_among
span_is a ms number before [] [] macros m in_place few marked count told is = refl
span_is a ms number before [] (y ∷ ys) macros m in_place few marked count told is = absurd in_place
span_is a ms number before (x ∷ xs) [] macros m in_place few marked count told is = absurd in_place
span_is a ms number before (x ∷ xs) (y ∷ z ∷ ys) macros m in_place few marked count told is = absurd (omega (arith, few))
span_is a ms number before (x ∷ w ∷ xs) (y ∷ []) macros m in_place few marked count told is = absurd in_place.2
span_is a ms number before (x ∷ []) (y ∷ []) macros m in_place few marked count told is =
    let p = origin_of number y in
    let ss = stored_among a ms before in
    let told_x = messages_at a ms number before x in
    item_tells a (macro_before ms before) macros ss ss (origin_of number x) p x.end y.end x.item.line y.item.line x.item.content y.item.content x.item.close y.item.close x.item.fault y.item.fault m nothing refl in_place.0
    marked (count ∙ ap (λ (ts : List Message). length ts) (append-nil told_x)) told
    ∙ ap (λ (known : MacroTexts). given a known ss p y.end y.item nothing) is
    ∙ (λ j. record { stored = sym (append-nil (added_at a ms before y)) j; messages = sym (append-nil (messages_at a ms number before y)) j })

pub no_pieces : (ps : List PlacedPiece) → length ps ≡ 0 → ps ≡ []
no_pieces [] none = refl
no_pieces (p ∷ ps) none = absurd (omega (arith, none))

pub only_piece : (ps : List PlacedPiece) (p : PlacedPiece) → length ps ≤ 1 → length ps ≢ 0 → p ≡ get_or ps 0 p → ps ≡ p ∷ []
only_piece [] p few some is = absurd (some refl)
only_piece (x ∷ []) p few some is = λ j. sym is j ∷ []
only_piece (x ∷ y ∷ ps) p few some is = absurd (omega (arith, few))
