-- The laws of the crate, which no code needs. `specs/laws` has what they say.
use Rattle.bt_text.specs.laws.Laws.{PiecesMakeUpTheText, AnyBoundServes}
use Rattle.bt_text.proofs.laws.JoinLemmas
use Rattle.bt_text.proofs.laws.BreakingLemmas

pub pieces_make_up_the_text : PiecesMakeUpTheText
pieces_make_up_the_text = JoinLemmas.joined_pieces

pub any_bound_serves : AnyBoundServes
any_bound_serves = BreakingLemmas.any_bound_serves
