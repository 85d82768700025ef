use Rattle.std.proofs.Common.{rules, ◌∙◌}
use Rattle.bibtex.proofs.session.Session.go_to.Goals as goal

pub replace-requires-clause-keeps : goal.replace-requires-clause-keeps
replace-requires-clause-keeps c = record { once = c.requires; is_meaning = search rules; is_text = search rules; are_steps = search rules }

pub invariant_of-self-2 : goal.invariant_of-self-2
invariant_of-self-2 c =
    let kept = c.self.invariant.0 in
    let was = c.self.inside.state in (
      record { once = kept.once; is_meaning = kept.is_meaning; is_text = c.in_ok-run.ensures.same_text ∙ kept.is_text; are_steps = c.in_ok-run.ensures.same_steps ∙ kept.are_steps },
      c.in_ok-run.ensures.others was.texts was.root c.self.invariant.1,
    )
