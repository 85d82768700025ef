use Rattle.std.proofs.Common.{◌∙◌, sym, arith}
use mathlib.Core.Bool.{false≢true}
use Rattle.bt_text.proofs.WhiteLemmas.{first_stays}
use Rattle.bt_text.proofs.white.is_white_joined.Goals as goal

pub returns-then-not-stays : goal.returns-then-not-stays
returns-then-not-stays c = (
  λ impossible. absurd (false≢true impossible),
  λ is. sym c.if-not-stays.true ∙ c.stays.ensures.1 (first_stays c.loop-rest.rest.now _ c.in-len1-up.len_at_least (omega arith) (c.loop-rest.invariant.1 is)),
)
