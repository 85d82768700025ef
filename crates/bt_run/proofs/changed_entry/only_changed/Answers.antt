use Rattle.std.specs.Prelude.{option_map}
use Rattle.std.proofs.Common.{◌∙◌, ap, sym}
use Rattle.bt_run.specs.inner.ChangedEntry.{with_other}
use Rattle.bt_run.proofs.ChangedEntryLemmas.{made_other, made_same, none_other}
use Rattle.bt_run.proofs.changed_entry.only_changed.Goals.{then-not-is_same_made+else-is_some, else-not-is_same_made}
use Rattle.bt_run.proofs.changed_entry.only_changed.Goals as goal

pub made-preserved : goal.made-preserved
made-preserved c =
    let ms = c.args.made.now in
    let es = c.args.entries.now in
    let one = c.index-made-number.result in
    let k = c.made.number in
    elim c.if-not-is_same_made.branch [
      | then-not-is_same_made+else-is_some w ↦
          made_other ms k one es c.made-test.true c.index-made-number.is
          (c.made.invariant ∙ none_other (λ o. o.now) c.made.other es (sym w.is_some.ensures ∙ w.if-is_some.false))
          ∙ ap (λ o. with_other (option_map (λ b. b.now) o) es) (sym w.other-is)
      | else-not-is_same_made w ↦
          made_same ms k one es (option_map (λ o. o.now) c.made.other) c.made-test.true c.index-made-number.is
          (c.is_same_made.ensures w.if-not-is_same_made.false) (c.is_for_same.ensures c.if-is_for_same.false) c.made.invariant
          ∙ ap (λ o. with_other (option_map (λ b. b.now) o) es) (sym w.other-is)
    ]
