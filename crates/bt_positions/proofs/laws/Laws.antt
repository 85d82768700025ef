-- The laws of the crate, which no code needs. `specs/laws` has what they say.
use Rattle.std.proofs.Common.{arith}
use Rattle.std.proofs.lemmas.Grind.{common_steps}
use Rattle.bt_positions.specs.laws.Laws.{WidthsAddUp, OffsetsComeBack}
use Rattle.bt_positions.proofs.WidthLemmas.{width_append}
use Rattle.bt_positions.proofs.laws.PlaceLemmas.{comes_back, start_within}

pub widths_add_up : WidthsAddUp
widths_add_up = record { joined = width_append }

pub offsets_come_back : OffsetsComeBack
offsets_come_back = record { back = λ c n text p. grind (arith, common_steps, comes_back c n text p, start_within c n text p) }
