use Rattle.std.proofs.Common.{length, ◌-◌, ◌≡◌, ◌≤◌, drop}
use Rattle.bt_bib.specs.Spot.{here}
use Rattle.bt_bib.specs.inner.Spot.{IsAhead}
use Rattle.bt_bib.specs.inner.Enclosure.{enclosed_end}
use Rattle.bt_bib.proofs.EnclosedLemmas.{enclosed_run}
use Rattle.bt_bib.proofs.reader.Reader.enclosed_end.Given as goal

abbrev pub invariant-bytes : goal.invariant-bytes
invariant-bytes l = record {
  inside : IsAhead l.self.text.now l.initial.at l.at;
  shallow : l.depth ≤ l.at.place;
  same : enclosed_run l.close l.depth l.at (drop l.at.place l.self.text.now) ≡ enclosed_end l.close (here l.self.text.now l.initial.at);
}

abbrev pub decreases-bytes : goal.decreases-bytes
decreases-bytes l = length l.self.text.now - l.at.place
