use Rattle.std.proofs.Common.{length, ◌-◌, ◌≡◌}
use Rattle.bt_bib.specs.Spot.{here}
use Rattle.bt_bib.specs.inner.Spot.{IsAhead}
use Rattle.bt_bib.specs.Scan.{after_run}
use Rattle.bt_bib.specs.inner.Scan.{has}
use Rattle.bt_bib.proofs.reader.Reader.after_run.Given as goal

abbrev pub invariant-bytes : goal.invariant-bytes
invariant-bytes l = record {
  inside : IsAhead l.self.text.now l.initial.at l.at;
  same : after_run (has l.class) (here l.self.text.now l.at) ≡ after_run (has l.class) (here l.self.text.now l.initial.at);
}

abbrev pub decreases-bytes : goal.decreases-bytes
decreases-bytes l = length l.self.text.now - l.at.place
