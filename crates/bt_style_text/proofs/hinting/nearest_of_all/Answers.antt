use Rattle.bt_style_text.proofs.hinting.nearest_of_all.Goals as goal

pub returns : goal.returns
returns c = rw c.all_builtins.ensures at c.nearest_builtin.ensures
