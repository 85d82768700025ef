use Rattle.std.proofs.Common.{refl, arith}
use Rattle.bt_text.specs.Widths.{byte_width, widths}
use Rattle.bt_text.proofs.TableLemmas.{table_entry}
use Rattle.bt_text.proofs.widths.table_width.Goals as goal

pub returns : goal.returns
unfolding widths
returns c = table_entry _ byte_width c.from.result c.args.byte refl c.from.ensures (omega (arith, c.ranges.byte.fits))
