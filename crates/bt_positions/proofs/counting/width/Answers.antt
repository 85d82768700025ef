use Rattle.bt_positions.proofs.WidthLemmas.{width_single}
use Rattle.bt_positions.proofs.counting.width.Goals as goal

pub returns-in-Utf8 : goal.returns-in-Utf8
returns-in-Utf8 c = width_single c.args.counting c.args.bytes.now c.in-Utf8.is
