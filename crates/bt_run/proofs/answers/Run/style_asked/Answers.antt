use Rattle.std.proofs.Common.{ap, refl}
use Rattle.bt_run.specs.declared.answers.Run.{Run}
use Rattle.bt_run.specs.declared.kept.Kept.{Kept}
use Rattle.bt_run.proofs.NewRunLemmas.{asked_of_run}
use Rattle.bt_run.proofs.answers.Run.style_asked.Goals as goal

pub returns-clause-asked : goal.returns-clause-asked
returns-clause-asked c =
    let was = c.args.self.now in
    let now : Run = record was { kept = c.style_asked.new.self } in
    let rest = c.style_asked.ensures.rest in
    asked_of_run c.args.change was now c.in_ok-found.found c.requires.run refl (ap (λ (k : Kept). k.text) rest) (ap (λ (k : Kept). k.steps) rest) c.in_ok-found.ensures.asked
