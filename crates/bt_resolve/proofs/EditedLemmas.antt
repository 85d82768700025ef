-- An edit of values patches what is resolved.
use Rattle.std.proofs.Common.{◌≡◌, ◌∙◌, ap, sym, refl, append_assoc, append-nil, ℕ, ◌+◌, false, Bool, List, [], ◌∷◌, ◌++◌, length, reverse, map, Option, Some, arith}
use Rattle.std.specs.Prelude.{slice_get, option_and_then}
use Rattle.std.proofs.lemmas.Grind.{flat_map-append}
use Rattle.bt_bib.specs.declared.spot.Spot.{Spot}
use Rattle.bt_bib.specs.declared.fault.ItemFault.{ItemFault}
use Rattle.bt_bib.specs.Items.{PlacedItem}
use Rattle.bt_bib.specs.declared.item.Content.{Content}
use Rattle.bt_bib.specs.declared.item.Content.TheVariants as contents
use Rattle.bt_resolve.specs.Values.{MacroTexts}
use Rattle.bt_resolve.specs.Macros.{macro_before}
use Rattle.bt_log.specs.declared.message.Message.{Message}
use Rattle.bt_resolve.specs.declared.asked.Asked.{Asked}
use Rattle.bt_resolve.specs.declared.declared.Macro.{Macro}
use Rattle.bt_resolve.specs.declared.stored.Stored.{Stored}
use Rattle.bt_resolve.specs.Messages.{for_each, database_messages}
use Rattle.bt_resolve.specs.Stored.{stored_among}
use Rattle.bt_resolve.specs.Listed.{listed}
use Rattle.bt_resolve.specs.Inherited.{entries_seen}
use Rattle.bt_resolve.specs.inner.Cases.{values_of, messages_at, preamble_of, preamble_at}
use Rattle.bt_resolve.specs.References.{list_messages}
use Rattle.bt_resolve.specs.Resolved.{all_items, stored_entries, preamble, messages}
use Rattle.bt_resolve.specs.Skeletons.{is_entry, AreAlike, IsLike, AreInPlace, added_at, placed_from, AreOneBefore, skeleton, moved_message, DifferAt, is_heir, is_within, shown, seen_at}
use Rattle.bt_resolve.specs.Edited.{Edit, databases_with, databases_before, databases_after, items_before, number_of, before_others, stored_by, told_by, told_first, told_next, told_last, EditIsPatched}
use Rattle.bt_resolve.proofs.SkeletonLemmas.{one_list}
use Rattle.bt_resolve.proofs.PlacingLemmas.{for_each-append, behind_both}
use Rattle.bt_resolve.proofs.SpanLemmas.{stored_in_parts, give_the_same, later_the_same, one_next}
use Rattle.bt_resolve.proofs.HeirLemmas.{heirs_alone, seen_as_shown, span_differs}
use Rattle.bt_resolve.proofs.MovedItemLemmas.{moved_the_same}

-- ---- items in parts

reversed_onto : (xs ys r : List PlacedItem) → reverse (xs ++ ys) ++ r ≡ reverse ys ++ (reverse xs ++ r)
reversed_onto xs ys r = sym (behind_both xs ys r)

module _ {A : Type 0} (f : List PlacedItem → PlacedItem → List A) where
  -- the items of a database, in three parts
  each_three : (r pre zs post : List PlacedItem) → for_each f r (pre ++ zs ++ post) ≡ for_each f r pre ++ for_each f (reverse pre ++ r) zs ++ for_each f (reverse zs ++ (reverse pre ++ r)) post
  each_three r pre zs post =
      for_each-append f r (pre ++ zs) post
      ∙ (λ j. for_each-append f r pre zs j ++ for_each f (reversed_onto pre zs r j) post)

  -- all items, in five
  each_five : (front pre zs post rest : List PlacedItem) → for_each f [] (front ++ ((pre ++ zs ++ post) ++ rest)) ≡
      (for_each f [] front ++ for_each f (reverse front) pre) ++ for_each f (reverse pre ++ reverse front) zs
      ++ (for_each f (reverse zs ++ (reverse pre ++ reverse front)) post ++ for_each f (reverse post ++ (reverse zs ++ (reverse pre ++ reverse front))) rest)
  each_five front pre zs post rest =
      let r = reverse front in
      let p = for_each f r pre in
      let z = for_each f (reverse pre ++ r) zs in
      let q = for_each f (reverse zs ++ (reverse pre ++ r)) post in
      let s = for_each f (reverse post ++ (reverse zs ++ (reverse pre ++ r))) rest in
      let first = for_each f [] front in
      for_each-append f [] front ((pre ++ zs ++ post) ++ rest)
      ∙ (λ j. first ++ for_each f (append-nil r j) ((pre ++ zs ++ post) ++ rest))
      ∙ ap (λ (made : List A). first ++ made) (for_each-append f r (pre ++ zs ++ post) rest)
      ∙ (λ j. first ++ (each_three r pre zs post j ++ for_each f ((reversed_onto (pre ++ zs) post r ∙ ap (λ (is : List PlacedItem). reverse post ++ is) (reversed_onto pre zs r)) j) rest))
      ∙ ap (λ (made : List A). first ++ made) (append_assoc (p ++ z) q s ∙ append_assoc p z (q ++ s))
      ∙ sym (append_assoc first p (z ++ (q ++ s)))
      ∙ sym (append_assoc (first ++ p) z (q ++ s))

pub items_split : (ds es : List (List PlacedItem)) (d : List PlacedItem) → all_items (ds ++ d ∷ es) ≡ all_items ds ++ (d ++ all_items es)
items_split ds es d = flat_map-append (λ (these : List PlacedItem). these) ds (d ∷ es)

pub stored_each : (a : Asked) (ms : List Macro) (databases : List (List PlacedItem)) → stored_entries a ms databases ≡ for_each (added_at a ms) [] (all_items databases)
unfolding stored_entries stored_among
stored_each a ms databases =
    ap (stored_among a ms) (sym (append-nil (reverse (all_items databases)))) ∙ stored_in_parts a ms [] (all_items databases)

-- ---- databases in parts

databases_append : (a : Asked) (ms : List Macro) (number : ℕ) (before : List PlacedItem) (ds es : List (List PlacedItem)) → database_messages a ms number before (ds ++ es) ≡ database_messages a ms number before ds ++ database_messages a ms (number + length ds) (reverse (all_items ds) ++ before) es
databases_append a ms number before [] es = ap (λ (n : ℕ). database_messages a ms n before es) (omega arith)
databases_append a ms number before (d ∷ ds) es =
    let told = for_each (messages_at a ms number) before d in
    let more = database_messages a ms (number + 1) (reverse d ++ before) ds in
    let count : (number + 1) + length ds ≡ number + length (d ∷ ds) = omega arith in
    ap (λ (ts : List Message). told ++ ts) (databases_append a ms (number + 1) (reverse d ++ before) ds es)
    ∙ (λ j. told ++ (more ++ database_messages a ms (count j) (sym (reversed_onto d (all_items ds) before) j) es))
    ∙ sym (append_assoc told more (database_messages a ms (number + length (d ∷ ds)) (reverse (all_items (d ∷ ds)) ++ before) es))

databases_same : (a : Asked) (ms : List Macro) (number : ℕ) (before others : List PlacedItem) (es : List (List PlacedItem)) → AreOneBefore a ms before others → database_messages a ms number before es ≡ database_messages a ms number others es
databases_same a ms number before others [] one = refl
databases_same a ms number before others (e ∷ es) one =
    let give = give_the_same a ms before others e one in
    let rest = databases_same a ms (number + 1) (reverse e ++ before) (reverse e ++ others) es give.after in
    λ j. give.telling number j ++ rest j

-- ---- one side of an edit: these items in the place, those behind moved so far

abbrev front_of : {A : Type 0} → (List PlacedItem → PlacedItem → List A) → Edit → List A
front_of f e = for_each f [] (all_items e.databases) ++ for_each f (reverse (all_items e.databases)) e.before

abbrev rest_of : {A : Type 0} → (List PlacedItem → PlacedItem → List A) → Edit → List A
rest_of f e = for_each f (reverse e.old ++ items_before e) e.behind ++ for_each f (before_others e) (all_items e.others)

side_stored : (a : Asked) (ms : List Macro) (e : Edit) (zs : List PlacedItem) (k : Spot) → AreOneBefore a ms (reverse zs ++ items_before e) (reverse e.old ++ items_before e) →
    stored_entries a ms (databases_with e zs k) ≡ front_of (added_at a ms) e ++ stored_by a ms e zs ++ rest_of (added_at a ms) e
side_stored a ms e zs k one =
    let f = added_at a ms in
    let b = items_before e in
    let moving = moved_the_same a ms k (reverse zs ++ b) (reverse e.old ++ b) e.behind one in
    let give = give_the_same a ms (reverse (map (placed_from k) e.behind) ++ (reverse zs ++ b)) (before_others e) (all_items e.others) moving.after in
    stored_each a ms (databases_with e zs k)
    ∙ ap (for_each f []) (items_split e.databases e.others (e.before ++ zs ++ map (placed_from k) e.behind))
    ∙ each_five f (all_items e.databases) e.before zs (map (placed_from k) e.behind) (all_items e.others)
    ∙ (λ j. front_of f e ++ for_each f b zs ++ (moving.storing j ++ give.storing j))

side_said : (a : Asked) (ms : List Macro) (e : Edit) (zs : List PlacedItem) (k : Spot) → AreOneBefore a ms (reverse zs ++ items_before e) (reverse e.old ++ items_before e) →
    preamble ms (databases_with e zs k) ≡ front_of (preamble_at ms) e ++ for_each (preamble_at ms) (items_before e) zs ++ rest_of (preamble_at ms) e
unfolding preamble
side_said a ms e zs k one =
    let f = preamble_at ms in
    let b = items_before e in
    let moving = moved_the_same a ms k (reverse zs ++ b) (reverse e.old ++ b) e.behind one in
    let give = give_the_same a ms (reverse (map (placed_from k) e.behind) ++ (reverse zs ++ b)) (before_others e) (all_items e.others) moving.after in
    ap (for_each f []) (items_split e.databases e.others (e.before ++ zs ++ map (placed_from k) e.behind))
    ∙ each_five f (all_items e.databases) e.before zs (map (placed_from k) e.behind) (all_items e.others)
    ∙ (λ j. front_of f e ++ for_each f b zs ++ (moving.saying j ++ give.saying j))

regrouped : (t p z q s l : List Message) → (t ++ ((p ++ z ++ q) ++ s)) ++ l ≡ (t ++ p) ++ z ++ q ++ (s ++ l)
regrouped t p z q s l =
    append_assoc t ((p ++ z ++ q) ++ s) l
    ∙ ap (λ (m : List Message). t ++ m) (append_assoc (p ++ z ++ q) s l ∙ append_assoc (p ++ z) q (s ++ l) ∙ append_assoc p z (q ++ (s ++ l)))
    ∙ sym (append_assoc t p (z ++ (q ++ (s ++ l))))
    ∙ sym (append_assoc (t ++ p) z (q ++ (s ++ l)))
    ∙ sym (append_assoc ((t ++ p) ++ z) q (s ++ l))

side_told : (a : Asked) (ms : List Macro) (e : Edit) (zs : List PlacedItem) (k : Spot) → AreOneBefore a ms (reverse zs ++ items_before e) (reverse e.old ++ items_before e) →
    list_messages a (stored_entries a ms (databases_with e zs k)) ≡ list_messages a (stored_entries a ms (databases_before e)) →
    messages a ms (databases_with e zs k) ≡ told_first a ms e ++ told_by a ms e zs ++ map (moved_message k) (told_next a ms e) ++ told_last a ms e
unfolding messages
side_told a ms e zs k one listed_same =
    let n = number_of e in
    let f = messages_at a ms n in
    let r = reverse (all_items e.databases) in
    let b = items_before e in
    let post = map (placed_from k) e.behind in
    let d = e.before ++ zs ++ post in
    let told = database_messages a ms 1 [] e.databases in
    let moving = moved_the_same a ms k (reverse zs ++ b) (reverse e.old ++ b) e.behind one in
    let later = databases_same a ms (n + 1) (reverse post ++ (reverse zs ++ b)) (before_others e) e.others moving.after in
    let onto = reversed_onto (e.before ++ zs) post r ∙ ap (λ (is : List PlacedItem). reverse post ++ is) (reversed_onto e.before zs r) in
    ap (λ (ts : List Message). ts ++ list_messages a (stored_entries a ms (databases_with e zs k)))
    (databases_append a ms 1 [] e.databases (d ∷ e.others)
    ∙ (λ j. told ++ database_messages a ms n (append-nil r j) (d ∷ e.others))
    ∙ (λ j. told ++ (each_three f r e.before zs post j ++ database_messages a ms (n + 1) (onto j) e.others))
    ∙ (λ j. told ++ ((for_each f r e.before ++ for_each f b zs ++ moving.telling n j) ++ later j)))
    ∙ (λ j. (told ++ ((for_each f r e.before ++ for_each f b zs ++ map (moved_message k) (told_next a ms e)) ++ database_messages a ms (n + 1) (before_others e) e.others)) ++ listed_same j)
    ∙ regrouped told (for_each f r e.before) (for_each f b zs) (map (moved_message k) (told_next a ms e)) (database_messages a ms (n + 1) (before_others e) e.others) (list_messages a (stored_entries a ms (databases_before e)))

-- ---- both sides

seen_there : (a : Asked) (min : ℕ) (changed : ℕ → Bool) (stored others : List Stored) → AreAlike stored others → DifferAt changed stored others → (k p : ℕ) → slice_get (shown a min stored) k ≡ Some p → is_heir stored changed (reverse (listed a stored)) p ≡ false →
    slice_get (entries_seen a min stored) k ≡ slice_get (entries_seen a min others) k
seen_there a min changed stored others alike differ k p there none =
    let both = heirs_alone a min changed stored others alike differ in
    let still : slice_get (shown a min others) k ≡ Some p = ap (λ (ps : List ℕ). slice_get ps k) (sym both.places) ∙ there in
    seen_as_shown a min stored k
    ∙ ap (option_and_then (seen_at a min stored)) there
    ∙ both.unchanged p none
    ∙ sym (ap (option_and_then (seen_at a min others)) still)
    ∙ sym (seen_as_shown a min others k)

sym_one : (a : Asked) (ms : List Macro) (b c : List PlacedItem) → AreOneBefore a ms b c → AreOneBefore a ms c b
sym_one a ms b c one = record { defined = sym one.defined; stored = sym one.stored }

-- items in the place of others say the same
said_like : (macros : MacroTexts) (fault other : Option ItemFault) (x y : Content) → IsLike macros x y → (is_entry x ≡ false → fault ≡ other) → preamble_of macros fault x ≡ preamble_of macros other y
said_like macros fault other (contents.Entry e) (contents.Entry f) is same = refl
said_like macros fault other (contents.Entry e) (contents.Define d) is same = absurd is
said_like macros fault other (contents.Entry e) (contents.Preamble parts) is same = absurd is
said_like macros fault other (contents.Define d) y is same = λ j. preamble_of macros (same refl j) (is j)
said_like macros fault other (contents.Preamble parts) y is same = λ j. preamble_of macros (same refl j) (is j)

said_same : (a : Asked) (ms : List Macro) (before others xs ys : List PlacedItem) → AreOneBefore a ms before others → AreInPlace ms before xs ys → for_each (preamble_at ms) before xs ≡ for_each (preamble_at ms) others ys
said_same a ms before others [] [] one in_place = refl
said_same a ms before others [] (y ∷ ys) one in_place = absurd in_place
said_same a ms before others (x ∷ xs) [] one in_place = absurd in_place
said_same a ms before others (x ∷ xs) (y ∷ ys) one in_place =
    let first = said_like (macro_before ms before) x.item.fault y.item.fault x.item.content y.item.content in_place.0 in_place.1 ∙ ap (λ (m : MacroTexts). preamble_of m y.item.fault y.item.content) one.defined in
    let rest = said_same a ms (x ∷ before) (y ∷ others) xs ys (one_next a ms before others x y one in_place.0 in_place.1) in_place.2 in
    λ j. first j ++ rest j

pub edit_is_patched : EditIsPatched
edit_is_patched a ms min e in_place =
    let b = items_before e in
    let span = later_the_same a ms b e.old e.new [] in_place in
    let self : AreOneBefore a ms (reverse e.old ++ b) (reverse e.old ++ b) = record { defined = refl; stored = refl } in
    let start : AreOneBefore a ms b b = record { defined = refl; stored = refl } in
    let other = sym_one a ms (reverse e.old ++ b) (reverse e.new ++ b) span.1 in
    let f = added_at a ms in
    let was = side_stored a ms e e.old e.stood self in
    let is = side_stored a ms e e.new e.stand other in
    let differ = span_differs (front_of f e) (stored_by a ms e e.old) (stored_by a ms e e.new) (rest_of f e) span.0 in
    let alike : AreAlike (stored_entries a ms (databases_before e)) (stored_entries a ms (databases_after e)) =
    ap (λ (ss : List Stored). map skeleton ss) was ∙ differ.0 ∙ sym (ap (λ (ss : List Stored). map skeleton ss) is) in
    let apart : DifferAt (is_within (length (front_of f e)) (length (stored_by a ms e e.old))) (stored_entries a ms (databases_before e)) (stored_entries a ms (databases_after e)) =
    λ p out. ap (λ (ss : List Stored). values_of (slice_get ss p)) was ∙ differ.1 p out ∙ sym (ap (λ (ss : List Stored). values_of (slice_get ss p)) is) in
    let one = one_list a min (stored_entries a ms (databases_before e)) (stored_entries a ms (databases_after e)) alike in
    record {
      stored_before = was;
      stored_after = is;
      alike = span.0;
      said =
          side_said a ms e e.old e.stood self
          ∙ ap (λ (t : List ℕ). front_of (preamble_at ms) e ++ t ++ rest_of (preamble_at ms) e) (said_same a ms b b e.old e.new start in_place)
          ∙ sym (side_said a ms e e.new e.stand other);
      told_before = side_told a ms e e.old e.stood self refl;
      told_after = side_told a ms e e.new e.stand other (sym one.told);
      places = (heirs_alone a min (is_within (length (front_of f e)) (length (stored_by a ms e e.old))) (stored_entries a ms (databases_before e)) (stored_entries a ms (databases_after e)) alike apart).places;
      seen = λ k p there none. seen_there a min (is_within (length (front_of f e)) (length (stored_by a ms e e.old))) (stored_entries a ms (databases_before e)) (stored_entries a ms (databases_after e)) alike apart k p there none;
    }
