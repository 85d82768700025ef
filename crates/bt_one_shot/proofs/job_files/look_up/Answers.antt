use Rattle.std.proofs.Common.{◌∙◌, ap, sym, subst, Result}
use Rattle.bibtex.specs.declared.edit.Refusal.{Refusal}
use Rattle.bibtex.specs.declared.state.State.{State}
use Rattle.bibtex.specs.Applied.{state_or}
use Rattle.bt_one_shot.specs.inner.Sinks.{GoesOn}
use Rattle.bt_one_shot.specs.JobFiles.{refusal_line}
use Rattle.bt_one_shot.proofs.job_files.look_up.Goals as goal

pub returns-in-Err-clause-looks : goal.returns-in-Err-clause-looks
returns-in-Err-clause-looks g c =
    let taken = c.in-Err.ensures in
    record {
      found = c.read-found.result;
      ran_out = taken.0;
      finds = c.read-found.ensures.found;
      is_after = taken.1.1 ∙ sym (ap (state_or c.args.draft.now) taken.1.0);
      looked_up = c.read-found.ensures.looks_up;
      tells = subst (λ (made : Result State Refusal). GoesOn c.args.failures_before (g.E.Sink.seen c.args.err.now)
          (g.E.Sink.seen c.tell_refused.new.err) (refusal_line c.args.name.now made)) (sym taken.1.0) c.tell_refused.ensures;
    }
