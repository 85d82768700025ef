use Rattle.bt_style_text.proofs.MoreLemmas.{two_appended}
use Rattle.bt_style_text.proofs.hover.add_variable.Goals as goal

pub returns : goal.returns
returns c =
    rw c.part-bytes.ensures at
    (two_appended c.args.words.now c.add_counts.new.words c.add_users.new.words _ _ c.in_ok-add_counts.ensures c.in_ok-add_users.ensures)
