use Rattle.std.proofs.Common.{sym, ◌∙◌}
use Rattle.bt_sound.proofs.StateLemmas.{globals_within}
use Rattle.bt_sound.proofs.globals.are_globals_within.Goals as goal

pub returns : goal.returns
returns c = λ t. globals_within c.args.states.now c.args.globals.now (sym c.are_all_within.ensures ∙ t)
