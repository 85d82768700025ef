use Rattle.std.proofs.Common.{◌≡◌, ap, sym, subst, map, Option}
use Rattle.bt_bib.specs.BibText.{pieces_of}
use Rattle.bt_resolve.specs.declared.question.Question.{Question}
use Rattle.bt_run.specs.declared.kept_resolution.KeptResolution.{KeptResolution}
use Rattle.bt_run.specs.inner.Found.{IsKept}
use Rattle.bt_run.specs.inner.Asked.{question_of, with_databases}
use Rattle.bt_run.proofs.AlikeLemmas.{kept_alike}
use Rattle.bt_run.proofs.FindingLemmas.{asked_now}
use Rattle.bt_run.proofs.finding.keep_up.Goals as goal

pub returns-clause-kept : goal.returns-clause-kept
returns-clause-kept c = λ go.
    let was = c.in-Some.kept.resolution in
    let asked = question_of c.args.asking.now in
    asked_now was c.follow.new.self.resolution asked (map pieces_of c.as_slice.result.now)
    (subst (λ (q : Question). q ≡ with_databases q.databases asked) c.question.ensures (c.is_like.ensures c.if-not-is_like.false))
    (c.in_ok-alike.ensures.done go)
    (ap (map pieces_of) (sym c.as_slice.ensures))

pub returns-clause-alike : goal.returns-clause-alike
returns-clause-alike c = λ was same.
    kept_alike c.in_ok-alike.alike was c.in-Some.kept.resolution c.follow.new.self.resolution (question_of c.args.asking.now)
    (subst (λ (o : Option KeptResolution). IsKept o was) c.in-Some.is same) (returns-clause-kept c) c.in_ok-alike.ensures.alike
