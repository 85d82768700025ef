use Rattle.std.proofs.Common.{length, ◌-◌, ◌≡◌, ◌++◌}
use Rattle.bt_bib.specs.Spot.{here}
use Rattle.bt_bib.specs.inner.Spot.{IsAhead}
use Rattle.bt_bib.specs.inner.Cases.{pieces_from}
use Rattle.bt_bib.specs.Boundaries.{last_end}
use Rattle.bt_bib.specs.Splice.{is_common}
use Rattle.bt_bib.specs.inner.CommonBoundary.{until}
use Rattle.bt_bib.proofs.reader.Reader.reread.Given as goal

abbrev pub invariant-again : goal.invariant-again
invariant-again l =
    let test = is_common l.old l.splice.begin l.splice.end l.splice.inserted in
    record {
      inside : IsAhead l.self.text.now l.initial.at l.at;
      ends : last_end l.at (until test l.at (pieces_from (here l.self.text.now l.at))) ≡ last_end l.initial.at (until test l.initial.at (pieces_from (here l.self.text.now l.initial.at)));
      same : l.items ++ until test l.at (pieces_from (here l.self.text.now l.at)) ≡ l.fn.items ++ until test l.initial.at (pieces_from (here l.self.text.now l.initial.at));
    }

abbrev pub decreases-again : goal.decreases-again
decreases-again l = length l.self.text.now - l.at.place
