use Rattle.std.proofs.Common.{sym, ap, ◌∙◌, arith}
use Rattle.bt_text.specs.Period.{ends_sentence}
use Rattle.bt_text.proofs.EndLemmas.{last_kept}
use Rattle.bt_text.proofs.period.ends_sentence.Goals as goal

pub returns-then-last-ne125 : goal.returns-then-last-ne125
returns-then-last-ne125 c =
    c.is_end.ensures ∙ ap ends_sentence (sym (last_kept c.walk.rest.now (omega arith) c.if-last-ne125.true) ∙ c.walk.invariant)
