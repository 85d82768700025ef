use Rattle.bt_style_text.proofs.hover.add_user_count.Goals as goal

pub returns : goal.returns
returns c = rw c.decimal-count.ensures at c.append_all.ensures
