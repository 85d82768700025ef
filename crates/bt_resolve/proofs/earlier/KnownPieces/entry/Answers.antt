use Rattle.std.proofs.Common.{◌≡◌, ◌∙◌, ap, sym, refl, subst, ◌+◌, ℕ, List}
use Rattle.std.specs.Prelude.{Some, slice_get}
use Rattle.bt_text.specs.ByName.{known}
use Rattle.bt_resolve.proofs.EarlierLemmas.{entry_known, get_read}
use Rattle.bt_resolve.proofs.earlier.KnownPieces.entry.Goals as goal

pub returns : goal.returns
returns c = λ a database new p knows here.
    let k = c.args.self.now in
    let place = c.in_ok-place.place in
    let first = c.in_ok-first.first.now in
    let past = c.in_ok-past.past.now in
    let stored = c.in_ok-stored.stored.now in
    let values = c.in_ok-values.values.now in
    entry_known a database new k c.args.index place p first past stored values (known c.deref.result.now) knows
    (c.in_ok-place.ensures knows.old new knows.pieces) here c.if-place-self.false
    (get_read k.reaches.now k.reaches.now place first refl c.in_ok-first.ensures.lookup.3.0 c.in_ok-first.ensures.lookup.1)
    (subst (λ (n : ℕ). slice_get k.reaches.now n ≡ Some past) c.in_ok-checked_add.ensures.1
    (get_read k.reaches.now k.reaches.now c.in_ok-checked_add.field-0 past refl c.in_ok-past.ensures.lookup.3.0 c.in_ok-past.ensures.lookup.1))
    c.if-first-past.false c.if-first-past-2.false
    (get_read c.entries.result.now k.found.now.store first.stored stored c.entries.ensures c.in_ok-stored.ensures.lookup.3.0 c.in_ok-stored.ensures.lookup.1)
    (get_read c.as_slice.result.now k.found.now.values first.stored values c.as_slice.ensures c.in_ok-values.ensures.lookup.3.0 c.in_ok-values.ensures.lookup.1)
    (ap known c.deref.ensures)
