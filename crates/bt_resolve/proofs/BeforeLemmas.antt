-- The macros before an item, read from the strings before it.
use Rattle.std.proofs.Common.{◌≡◌, ◌∙◌, ap, sym, refl, subst, ℕ, suc, ◌+◌, ◌<◌, ◌≤◌, List, [], ◌∷◌, ◌++◌, length, map, take, drop, reverse, get_or, append-nil, take-append-drop, Some, arith, inl, inr}
use Rattle.std.specs.Prelude.{slice_get}
use Rattle.std.proofs.lemmas.Bool.{cases_lt}
use Rattle.std.proofs.lemmas.List.{drop_all, drop_more, map-append}
use Rattle.bt_bib.specs.Items.{PlacedItem, items_of}
use Rattle.bt_bib.specs.declared.placed_pieces.PlacedPiece.{PlacedPiece}
use Rattle.bt_resolve.specs.declared.declared.Macro.{Macro}
use Rattle.bt_resolve.specs.Macros.{macro_before, style_macro}
use Rattle.bt_resolve.specs.Resolved.{all_items}
use Rattle.bt_resolve.specs.Values.{MacroTexts}
use Rattle.bt_resolve.specs.inner.Databases.{DefineNothing, macros_after}
use Rattle.bt_resolve.proofs.EditedLemmas.{items_split}
use Rattle.bt_resolve.proofs.ItemsEditLemmas.{items_append}
use Rattle.bt_resolve.proofs.KeptParts.{parts_of}
use Rattle.bt_resolve.proofs.PlacingLemmas.{behind_next}

macros_then : (ms : List Macro) (before items : List PlacedItem) → macros_after (macro_before ms before) items ≡ macro_before ms (reverse items ++ before)
unfolding macro_before
macros_then ms before [] = refl
macros_then ms before (x ∷ items) = macros_then ms (x ∷ before) items ∙ ap (macro_before ms) (sym (behind_next x items before))

macros_from : (ms : List Macro) (items : List PlacedItem) → macros_after (style_macro ms) items ≡ macro_before ms (reverse items)
unfolding macro_before
macros_from ms items = macros_then ms [] items ∙ ap (macro_before ms) (append-nil (reverse items))

-- after the databases before, and the first items of the next one
pub macros_are : (ms : List Macro) (first items : List PlacedItem) (one two three : MacroTexts) → one ≡ style_macro ms → two ≡ macros_after one first → three ≡ macros_after two items →
    three ≡ macro_before ms (reverse items ++ reverse first)
unfolding macro_before
macros_are ms first items one two three begin next last =
    last
    ∙ ap (λ (m : MacroTexts). macros_after m items) (next ∙ ap (λ (m : MacroTexts). macros_after m first) begin ∙ macros_from ms first)
    ∙ macros_then ms (reverse first) items

-- ---- one more

macros_both : (macros : MacroTexts) (xs ys : List PlacedItem) → macros_after macros (xs ++ ys) ≡ macros_after (macros_after macros xs) ys
macros_both macros [] ys = refl
macros_both macros (x ∷ xs) ys = macros_both (macros_after macros (x ∷ [])) xs ys

pub databases_more : (k : ℕ) (ds : List (List PlacedPiece)) (d : List PlacedPiece) (before after : MacroTexts) → k < length ds → d ≡ get_or ds k d → after ≡ macros_after before (items_of d) →
    macros_after after (all_items (map items_of (drop (k + 1) ds))) ≡ macros_after before (all_items (map items_of (drop k ds)))
databases_more k ds d before after less is next =
    let here : drop k ds ≡ d ∷ drop (k + 1) ds = drop_more ds k d less ∙ ap (λ (x : List PlacedPiece). x ∷ drop (k + 1) ds) (sym is) in
    let rest = all_items (map items_of (drop (k + 1) ds)) in
    ap (λ (m : MacroTexts). macros_after m rest) next
    ∙ sym (macros_both before (items_of d) rest)
    ∙ ap (λ (l : List (List PlacedPiece)). macros_after before (all_items (map items_of l))) (sym here)

-- ---- no strings

nothing_both : (xs ys : List PlacedItem) → DefineNothing xs → DefineNothing ys → DefineNothing (xs ++ ys)
nothing_both xs ys one rest macros = macros_both macros xs ys ∙ ap (λ (m : MacroTexts). macros_after m ys) (one macros) ∙ rest macros

pub nothing_at : (k : ℕ) (ps : List PlacedPiece) (p : PlacedPiece) → k < length ps → p ≡ get_or ps k p → DefineNothing (items_of (p ∷ [])) → DefineNothing (items_of (drop (k + 1) ps)) → DefineNothing (items_of (drop k ps))
nothing_at k ps p less is one rest =
    let here : drop k ps ≡ p ∷ drop (k + 1) ps = drop_more ps k p less ∙ ap (λ (x : PlacedPiece). x ∷ drop (k + 1) ps) (sym is) in
    subst DefineNothing (sym (items_append (p ∷ []) (drop (k + 1) ps)) ∙ ap items_of (sym here)) (nothing_both (items_of (p ∷ [])) (items_of (drop (k + 1) ps)) one rest)

pub nothing_end : (k : ℕ) (ps : List PlacedPiece) → length ps ≤ k → DefineNothing (items_of (drop k ps))
nothing_end k ps all = subst (λ (l : List PlacedPiece). DefineNothing (items_of l)) (sym (drop_all k ps all)) (λ macros. refl)

pub all_nothing_at : (k : ℕ) (ds : List (List PlacedPiece)) (d : List PlacedPiece) → k < length ds → d ≡ get_or ds k d → DefineNothing (items_of d) → DefineNothing (all_items (map items_of (drop (k + 1) ds))) →
    DefineNothing (all_items (map items_of (drop k ds)))
all_nothing_at k ds d less is one rest =
    let here : drop k ds ≡ d ∷ drop (k + 1) ds = drop_more ds k d less ∙ ap (λ (x : List PlacedPiece). x ∷ drop (k + 1) ds) (sym is) in
    subst (λ (l : List (List PlacedPiece)). DefineNothing (all_items (map items_of l))) (sym here) (nothing_both (items_of d) (all_items (map items_of (drop (k + 1) ds))) one rest)

pub all_nothing_end : (k : ℕ) (ds : List (List PlacedPiece)) → length ds ≤ k → DefineNothing (all_items (map items_of (drop k ds)))
all_nothing_end k ds all = subst (λ (l : List (List PlacedPiece)). DefineNothing (all_items (map items_of l))) (sym (drop_all k ds all)) (λ macros. refl)

-- If no string follows the first pieces of a database, the macros there are those after all items.
pub macros_kept : (ms : List Macro) (ds : List (List PlacedPiece)) (k n : ℕ) (d : List PlacedPiece) → slice_get ds k ≡ Some d → DefineNothing (items_of (drop n d)) → DefineNothing (all_items (map items_of (drop (k + 1) ds))) →
    macro_before ms (reverse (all_items (map items_of ds))) ≡ macro_before ms (reverse (items_of (take n d)) ++ reverse (all_items (map items_of (take k ds))))
macros_kept ms ds k n d here none later =
    let fronts = all_items (map items_of (take k ds)) in
    let first = items_of (take n d) in
    let last = items_of (drop n d) in
    let next : k + 1 ≡ suc k = omega arith in
    let backs = all_items (map items_of (drop (suc k) ds)) in
    let parts : items_of d ≡ first ++ last = ap items_of (sym (take-append-drop n d)) ∙ items_append (take n d) (drop n d) in
    let whole : all_items (map items_of ds) ≡ fronts ++ (items_of d ++ backs) =
    ap (λ (l : List (List PlacedPiece)). all_items (map items_of l)) (parts_of ds k d here)
    ∙ ap all_items (map-append items_of (take k ds) (d ∷ drop (suc k) ds))
    ∙ items_split (map items_of (take k ds)) (map items_of (drop (suc k) ds)) (items_of d) in
    let free : DefineNothing backs = subst (λ (i : ℕ). DefineNothing (all_items (map items_of (drop i ds)))) next later in
    let at = macro_before ms (reverse fronts) in
    ap (λ (xs : List PlacedItem). macro_before ms (reverse xs)) whole
    ∙ sym (macros_from ms (fronts ++ (items_of d ++ backs)))
    ∙ macros_both (style_macro ms) fronts (items_of d ++ backs)
    ∙ ap (λ (m : MacroTexts). macros_after m (items_of d ++ backs)) (macros_from ms fronts)
    ∙ macros_both at (items_of d) backs
    ∙ free (macros_after at (items_of d))
    ∙ ap (macros_after at) parts
    ∙ macros_both at first last
    ∙ none (macros_after at first)
    ∙ macros_then ms (reverse fronts) first

-- ---- no strings from a place on

-- the property holds one place before, too
free_by : (Free : ℕ → Type 0) (size k place : ℕ) → ((i : ℕ) → size ≤ i + k → Free i) → place + (k + 1) ≡ size → (Free (place + 1) → Free place) → (i : ℕ) → size ≤ i + (k + 1) → Free i
free_by Free size k place rest sum one i far = elim (cases_lt place i) [
  | inl behind ↦ rest i (omega (arith, behind, sum))
  | inr there ↦
      let same : place ≡ i = omega (arith, there, sum, far) in
      subst Free same (one (rest (place + 1) (omega (arith, sum))))
]

pub pieces_free : (ps : List PlacedPiece) (k place : ℕ) (p : PlacedPiece) → ((i : ℕ) → length ps ≤ i + k → DefineNothing (items_of (drop i ps))) → place + (k + 1) ≡ length ps → p ≡ get_or ps place p → DefineNothing (items_of (p ∷ [])) →
    (i : ℕ) → length ps ≤ i + (k + 1) → DefineNothing (items_of (drop i ps))
pieces_free ps k place p rest sum is one =
    free_by (λ i. DefineNothing (items_of (drop i ps))) (length ps) k place rest sum
    (nothing_at place ps p (omega (arith, sum)) is one)

pub databases_free : (ds : List (List PlacedPiece)) (k number : ℕ) (d : List PlacedPiece) → ((i : ℕ) → length ds ≤ i + k → DefineNothing (all_items (map items_of (drop i ds)))) → number + (k + 1) ≡ length ds → d ≡ get_or ds number d →
    DefineNothing (items_of d) → (i : ℕ) → length ds ≤ i + (k + 1) → DefineNothing (all_items (map items_of (drop i ds)))
databases_free ds k number d rest sum is one =
    free_by (λ i. DefineNothing (all_items (map items_of (drop i ds)))) (length ds) k number rest sum
    (all_nothing_at number ds d (omega (arith, sum)) is one)
