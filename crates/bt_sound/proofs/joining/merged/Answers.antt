use Rattle.std.proofs.Common.{subst}
use Rattle.bt_sound.specs.Seen.{states_seen}
use Rattle.bt_sound.specs.Follows.{Covered}
use Rattle.bt_sound.proofs.StateLemmas.{covered_same}
use Rattle.bt_sound.proofs.joining.merged.Goals as goal

pub returns-then-len-lt2 : goal.returns-then-len-lt2
returns-then-len-lt2 c = covered_same _

pub returns-then-has_block : goal.returns-then-has_block
returns-then-has_block c = covered_same _

pub returns : goal.returns
returns c = covered_same _

pub returns-then-is_covered : goal.returns-then-is_covered
returns-then-is_covered c =
    subst (λ js. Covered (states_seen c.args.states.items) (states_seen js)) c.as_slice-then-len-2.ensures.value
    (subst (λ ss. Covered (states_seen ss) (states_seen c.as_slice-then-len-2.result.now)) c.as_slice-then-len.ensures.value (c.is_covered.ensures c.if-is_covered.true))
