use Rattle.std.proofs.Common.{rules}
use Rattle.bibtex.proofs.session.Session.of.Goals as goal

pub invariant_of-result : goal.invariant_of-result
invariant_of-result c =
    (record { once = c.draft.invariant; is_meaning = search rules; is_text = search rules; are_steps = search rules }, search rules)
