use Rattle.std.proofs.Common.{sym, ◌∙◌, ap, rules}
use Rattle.bt_bib.specs.Spot.{here}
use Rattle.bt_bib.specs.Scan.{after_run}
use Rattle.bt_bib.specs.inner.Scan.{has}
use Rattle.bt_bib.proofs.RunLemmas.{past_more, past_stop, past_end}
use Rattle.bt_bib.proofs.reader.Reader.after_run.Goals as goal

pub bytes-preserved : goal.bytes-preserved
bytes-preserved c = record {
  inside = search rules;
  same = ap (λ s. after_run (has c.args.class) (here c.args.self.now.text.now s)) c.after-at.ensures ∙ past_more (has c.args.class) c.args.self.now.text.now c.bytes.at c.bytes-test.true (sym c.has.ensures ∙ c.if-has.true) ∙ c.bytes.invariant.same;
}

pub returns-else-has-clause-value : goal.returns-else-has-clause-value
returns-else-has-clause-value c = past_stop (has c.args.class) c.args.self.now.text.now c.bytes.at c.bytes-test.true (sym c.has.ensures ∙ c.if-has.false) ∙ c.bytes.invariant.same

pub returns-after-bytes-clause-value : goal.returns-after-bytes-clause-value
returns-after-bytes-clause-value c = past_end (has c.args.class) c.args.self.now.text.now c.bytes.at c.bytes-test.false ∙ c.bytes.invariant.same
