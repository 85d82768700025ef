use Rattle.bt_style_answers.proofs.completion.Written.commands.Goals as goal

pub returns : goal.returns
returns c = rw c.all_commands.ensures at c.command_list.ensures
