-- Values that fit are put in place.
use Rattle.std.proofs.Common.{◌≡◌, ℕ, ◌<◌, ◌≤◌, List, length, Option, Some, None, refl, sym, subst, ◌∙◌, arith}
use Rattle.std.specs.Prelude.{slice_index_or}
use Rattle.std.proofs.lemmas.List.{get_or-set_same, length-set}
use Rattle.std.proofs.lemmas.List.Elements.{All-set}
use Rattle.bt_actions.specs.declared.entry.Variables.{Variables}
use Rattle.bt_actions.specs.declared.entry.Entry.{Entry}
use Rattle.bt_actions.specs.Item.{Item, Num, Txt, Fun, Missing}
use Rattle.bt_actions.specs.World.{World, no_entry}
use Rattle.bt_actions.specs.State.{text_len}
use Rattle.bt_actions.specs.Assignment.{with_number, with_text, with_own, put_if_right, own_changed}
use Rattle.bt_machine.specs.laws.Fits.{Count, Fits, OwnFit}

-- a value with a text that the stack takes
abbrev pub IsShort : Item → Type 0
IsShort v = text_len v ≤ 65536

-- the values fit of the entry at this place, if there is one
abbrev pub EntryFits : Count → List Entry → Option ℕ → Type 0
EntryFits c es None = Unit {0}
EntryFits c es (Some n) = (n < length es) × Fits c (slice_index_or es n no_entry).variables

-- a value is put in place

pub number_fits : (c : Count) (n : ℕ) (v : Item) (vs : Variables) → Fits c vs → OwnFit c (with_number n v vs)
number_fits c n (Num z) vs h = (length-set vs.numbers n z ∙ h.0, h.1, h.2)
number_fits c n (Txt t) vs h = tt
number_fits c n (Fun d) vs h = tt
number_fits c n (Missing m) vs h = tt

pub text_fits : (c : Count) (n : ℕ) (v : Item) (vs : Variables) → IsShort v → Fits c vs → OwnFit c (with_text n v vs)
text_fits c n (Num z) vs s h = tt
text_fits c n (Txt t) vs s h =
    (h.0, length-set vs.texts n t ∙ h.1, All-set (λ u. length u ≤ 65536) vs.texts n t s h.2)
text_fits c n (Fun d) vs s h = tt
text_fits c n (Missing m) vs s h = tt

-- the entries, where the variables of one of them were changed
abbrev pub EntriesKept : Count → Option ℕ → World → World → Type 0
EntriesKept c y w w' = (length w'.entries ≡ length w.entries) × EntryFits c w'.entries y

stored_fits : (c : Count) (n : ℕ) (o : Option Variables) (w : World) → EntryFits c w.entries (Some n) → OwnFit c o → EntriesKept c (Some n) w (put_if_right (with_own n) o w)
stored_fits c n None w h f = (refl, h)
stored_fits c n (Some vs) w h f =
    let e = record (slice_index_or w.entries n no_entry) { variables = vs } in
    let l = length-set w.entries n e in
    let r = get_or-set_same w.entries n e no_entry h.0 in
    (l, (omega arith, subst (λ (d : Entry). Fits c d.variables) (sym r) f))

pub own_fits : (c : Count) (change : Variables → Option Variables) (y : Option ℕ) (w : World) → ((vs : Variables) → Fits c vs → OwnFit c (change vs)) → EntryFits c w.entries y → EntriesKept c y w (own_changed change y w)
own_fits c change None w f h = (refl, tt)
own_fits c change (Some n) w f h =
    stored_fits c n (change (slice_index_or w.entries n no_entry).variables) w h (f (slice_index_or w.entries n no_entry).variables h.1)

-- what else there is stays
stored_rest : (n : ℕ) (o : Option Variables) (w : World) → ((put_if_right (with_own n) o w).current ≡ w.current) × ((put_if_right (with_own n) o w).globals ≡ w.globals) × ((put_if_right (with_own n) o w).stack ≡ w.stack)
stored_rest n None w = (refl, refl, refl)
stored_rest n (Some vs) w = (refl, refl, refl)

pub own_rest : (change : Variables → Option Variables) (y : Option ℕ) (w : World) → ((own_changed change y w).current ≡ w.current) × ((own_changed change y w).globals ≡ w.globals) × ((own_changed change y w).stack ≡ w.stack)
own_rest change None w = (refl, refl, refl)
own_rest change (Some n) w = stored_rest n (change (slice_index_or w.entries n no_entry).variables) w
