use Rattle.std.proofs.Common.{length, ◌-◌, ◌≡◌, []}
use Rattle.bt_bib.specs.Spot.{here}
use Rattle.bt_bib.specs.inner.Spot.{IsAhead}
use Rattle.bt_bib.specs.Many.{all}
use Rattle.bt_bib.specs.inner.Many.{gathered}
use Rattle.bt_bib.specs.inner.Cases.{next_one}
use Rattle.bt_bib.proofs.reader.Reader.pieces_from.Given as goal

abbrev pub invariant-pieces : goal.invariant-pieces
invariant-pieces l = record {
  inside : IsAhead l.self.text.now l.initial.at l.at;
  same : gathered l.items (all next_one (here l.self.text.now l.at)) ≡ gathered [] (all next_one (here l.self.text.now l.initial.at));
}

abbrev pub decreases-pieces : goal.decreases-pieces
decreases-pieces l = length l.self.text.now - l.at.place
