use Rattle.std.proofs.Common.{◌∙◌, ap, List, [], ◌∷◌, ◌++◌, ℕ, Option}
use Rattle.bt_text.specs.ByName.{known, listed, with_entry}
use Rattle.bt_text.specs.CaseFolding.{folded}
use Rattle.bt_resolve.specs.declared.stored.Stored.{Stored}
use Rattle.bt_resolve.specs.Stored.{is_stored}
use Rattle.bt_resolve.specs.inner.Store.{stored_in, with_reference}
use Rattle.bt_resolve.proofs.StoreLemmas.{IsNext, all_stored, entries_next, indexed_next}
use Rattle.bt_resolve.proofs.store.Store.push.Goals as goal

next : (c : goal.After-drop-key-inside-2) → IsNext c.self.inside.entries c.insert.new.self c.self.inside.referred c.make_room.new.self c.refer_to.new.referred c.args.entry
next c = record {
  absent = ap (λ (es : List Stored). is_stored es c.args.entry.key) c.self.view_is ∙ c.requires;
  entry = c.in_ok-insert.ensures.listed
      ∙ ap (λ (key : List ℕ). with_entry (folded key) c.args.entry (listed c.self.inside.entries)) (c.as_slice.ensures ∙ c.deref.ensures ∙ c.in_ok-key.ensures);
  same = c.make_room.ensures.same;
  reference = λ key. c.refer_to.ensures key ∙ ap (λ (small : Option (List ℕ)). with_reference small (known c.make_room.new.self) key) c.in_ok-small.ensures;
}

pub invariant_of-self-2 : goal.invariant_of-self-2
invariant_of-self-2 c = indexed_next c.self.inside.entries c.insert.new.self c.self.inside.referred c.make_room.new.self c.refer_to.new.referred c.args.entry c.self.invariant (next c)

pub returns-clause-ok : goal.returns-clause-ok
returns-clause-ok c =
    entries_next (stored_in c.self.inside.entries) c.args.entry (listed c.insert.new.self)
    (all_stored c.self.inside.entries c.insert.new.self c.self.inside.referred c.make_room.new.self c.refer_to.new.referred c.args.entry c.self.invariant (next c))
    ∙ ap (λ (es : List Stored). es ++ c.args.entry ∷ []) c.self.view_is
