use Rattle.std.proofs.Common.{length, ◌-◌, ◌≡◌}
use Rattle.bt_bib.specs.Spot.{here}
use Rattle.bt_bib.specs.inner.Spot.{IsAhead}
use Rattle.bt_bib.specs.Many.{all}
use Rattle.bt_bib.specs.inner.Many.{gathered}
use Rattle.bt_bib.specs.Fields.{next_field}
use Rattle.bt_bib.proofs.reader.Reader.fields.Given as goal

abbrev pub invariant-fields : goal.invariant-fields
invariant-fields l = record {
  inside : IsAhead l.self.text.now l.initial.at l.at;
  same : gathered l.fields (all (next_field l.close) (here l.self.text.now l.at)) ≡ gathered l.initial.fields (all (next_field l.close) (here l.self.text.now l.initial.at));
}

abbrev pub decreases-fields : goal.decreases-fields
decreases-fields l = length l.self.text.now - l.at.place
