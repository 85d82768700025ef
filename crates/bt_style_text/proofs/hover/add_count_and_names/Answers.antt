use Rattle.bt_style_text.proofs.MoreLemmas.{two_appended}
use Rattle.bt_style_text.proofs.hover.add_count_and_names.Goals as goal

pub returns : goal.returns
returns c = two_appended c.args.words.now c.add_user_count.new.words c.add_names.new.words _ _ c.in_ok-add_user_count.ensures c.in_ok-add_names.ensures
