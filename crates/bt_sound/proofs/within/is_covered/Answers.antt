use Rattle.std.proofs.Common.{sym, ◌∙◌}
use Rattle.bt_sound.proofs.StateLemmas.{covered_states}
use Rattle.bt_sound.proofs.within.is_covered.Goals as goal

pub returns : goal.returns
returns c = λ t. covered_states c.args.ours.now c.args.theirs.now (sym c.are_among.ensures ∙ t)
