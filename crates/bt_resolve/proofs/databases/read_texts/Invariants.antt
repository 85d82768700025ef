use Rattle.std.proofs.Common.{◌≡◌, ◌+◌, drop, map, List, ℕ}
use Rattle.bt_bib.specs.BibText.{pieces_of}
use Rattle.bt_bib.specs.Items.{items_of}
use Rattle.bt_resolve.specs.inner.Databases.{after_databases, state_of}
use Rattle.bt_resolve.proofs.databases.read_texts.Given as goal

abbrev pub invariant-texts : goal.invariant-texts
invariant-texts l =
    after_databases l.asked (l.i + 1) (state_of l.reading) (map (λ (t : List ℕ). items_of (pieces_of t)) (drop l.i l.texts))
    ≡ after_databases l.asked 1 (state_of l.initial.reading) (map (λ (t : List ℕ). items_of (pieces_of t)) l.texts)
