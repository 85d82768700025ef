use Rattle.std.proofs.Common.{rules, ◌≤◌, ◌∙◌, length, arith}
use Rattle.std.proofs.lemmas.List.{drop_all}
use Rattle.bt_run.proofs.PutLemmas.{begun_at}
use Rattle.bt_run.proofs.bibliography.NewPart.extend_to.Goals as goal

pub returns-then-is_empty-clause-text : goal.returns-then-is_empty-clause-text
returns-then-is_empty-clause-text c =
    let part = c.args.self.now in
    let none : length part.text.items ≤ 0 = search rules in
    begun_at c.args.old.now part.text.items part.begin part.end c.args.end (c.if-self-from.true ∙ c.replace-from.ensures.value) (omega (arith, c.requires.within)) (drop_all 0 part.text.items none)
