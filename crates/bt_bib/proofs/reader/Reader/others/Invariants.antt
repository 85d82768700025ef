use Rattle.std.proofs.Common.{length, ◌-◌, ◌≡◌}
use Rattle.bt_bib.specs.Spot.{here}
use Rattle.bt_bib.specs.inner.Spot.{IsAhead}
use Rattle.bt_bib.specs.Many.{all}
use Rattle.bt_bib.specs.inner.Many.{gathered}
use Rattle.bt_bib.specs.Values.{next_part}
use Rattle.bt_bib.proofs.reader.Reader.others.Given as goal

abbrev pub invariant-parts : goal.invariant-parts
invariant-parts l = record {
  inside : IsAhead l.self.text.now l.initial.at l.at;
  same : gathered l.parts (all (next_part l.close) (here l.self.text.now l.at)) ≡ gathered l.fn.parts (all (next_part l.close) (here l.self.text.now l.initial.at));
}

abbrev pub decreases-parts : goal.decreases-parts
decreases-parts l = length l.self.text.now - l.at.place
