use Rattle.bt_style_answers.proofs.MoreLemmas.{two_appended}
use Rattle.bt_style_answers.proofs.shown_style.ShownStyle.with_both.Goals as goal

pub returns : goal.returns
returns c = two_appended _ _ _ _ _ c.in_ok-some.ensures c.in_ok-all.ensures
