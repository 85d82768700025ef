use Rattle.bt_style_answers.proofs.completion.Written.builtins.Goals as goal

pub returns : goal.returns
returns c = rw c.all_builtins.ensures at c.builtin_list.ensures
