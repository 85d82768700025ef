use Rattle.std.specs.Prelude.{IfSome}
use Rattle.std.proofs.Common.{subst, Option}
use Rattle.bt_style.specs.declared.style.Style.{Style}
use Rattle.bt_style.specs.Program.{program_of}
use Rattle.bt_run.specs.inner.Change.{IsAskedOf}
use Rattle.bt_run.proofs.UnseenLemmas.{files_over, found_still, run_over}
use Rattle.bt_run.proofs.kept_resolution.KeptResolution.pass.Goals as goal

pub returns-clause-texts : goal.returns-clause-texts
returns-clause-texts c = λ passed.
    let change = c.args.change in
    let k = c.args.self.now in
    files_over change k c.put.new.self (c.has_unseen_edit.ensures c.if-not-has_unseen_edit.false) c.put.ensures.resolution
    (program_of c.in-Some.style)
    (subst (λ (o : Option Style). IfSome o (λ s. IsAskedOf change k (program_of s))) c.in-Some.is c.in_ok-style.ensures)
    c.requires.texts c.requires.rest c.put.ensures.texts

pub returns-clause-same : goal.returns-clause-same
returns-clause-same c =
    let change = c.args.change in
    found_still change c.args.self.now c.put.new.self (c.has_unseen_edit.ensures c.if-not-has_unseen_edit.false) c.put.ensures.resolution

pub returns-clause-run : goal.returns-clause-run
returns-clause-run c = λ passed.
    let change = c.args.change in
    let k = c.args.self.now in
    run_over change k c.put.new.self (c.has_unseen_edit.ensures c.if-not-has_unseen_edit.false) c.put.ensures.resolution
    (program_of c.in-Some.style)
    (subst (λ (o : Option Style). IfSome o (λ s. IsAskedOf change k (program_of s))) c.in-Some.is c.in_ok-style.ensures)
    c.requires.texts c.requires.rest c.put.ensures.texts
