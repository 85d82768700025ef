use Rattle.std.proofs.Common.{refl, arith}
use Rattle.bt_text.specs.inner.KeptBytes.{kept_code}
use Rattle.bt_text.proofs.TableLemmas.{table_entry}
use Rattle.bt_text.proofs.kept_bytes.kept.Goals as goal

pub returns : goal.returns
returns c = table_entry _ kept_code c.from.result c.args.byte refl c.from.ensures (omega (arith, c.ranges.byte.fits))
