use Rattle.std.proofs.Common.{◌∙◌, ap, subst, codes, ℕ, List, ◌++◌}
use Rattle.std.specs.Fmt.{decimal}
use Rattle.bt_one_shot.specs.inner.Sinks.{GoesOn}
use Rattle.bt_one_shot.proofs.job_files.tell_refused.Goals as goal

pub returns : goal.returns
returns g c =
    subst (λ (t : List ℕ). GoesOn c.args.failures_before (g.E.Sink.seen c.args.err.now)
    (g.E.Sink.seen c.tell.new.err)
    (codes "bibtex: refused " ++ (t ++ (codes " " ++ (c.args.name.now ++ codes "\n")))))
    (c.as_bytes-code.ensures.value ∙ c.format.ensures.text ∙ ap decimal c.code_of.ensures) c.tell.ensures
