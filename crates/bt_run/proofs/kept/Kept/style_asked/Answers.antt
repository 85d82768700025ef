use Rattle.std.specs.Prelude.{IfSome}
use Rattle.std.proofs.Common.{◌∙◌, ap, subst, sym, Option}
use Rattle.bt_style.specs.declared.style.Style.{Style}
use Rattle.bt_style.specs.Program.{program_of}
use Rattle.bt_run.specs.declared.kept.Kept.{Kept}
use Rattle.bt_run.specs.inner.Change.{IsAskedOf}
use Rattle.bt_run.proofs.ChangedEntryLemmas.{asked_of_kept}
use Rattle.bt_run.proofs.kept.Kept.style_asked.Goals as goal

pub returns-clause-asked : goal.returns-clause-asked
returns-clause-asked c =
    let change = c.args.change in
    let k = c.in-Some.kept in
    asked_of_kept change _ k (program_of c.in-Some-2.style) c.in-Some.is
    (ap (λ (v : Kept). v.is_own) c.is_found_in.ensures.same ∙ c.if-not-self.false)
    (subst (λ (o : Option Style). IfSome o (λ s. IsAskedOf change k (program_of s))) c.in-Some-2.is c.in_ok-style.ensures)
    c.is_found_in.ensures.texts
    (sym c.is_found_in.ensures.present ∙ c.if-not-is_found_in.false)
