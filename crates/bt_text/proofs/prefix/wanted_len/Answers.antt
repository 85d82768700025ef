use Rattle.std.proofs.Common.{arith}
use Rattle.bt_text.proofs.PrefixLemmas.{bare_taken}
use Rattle.bt_text.proofs.prefix.wanted_len.Goals as goal

pub returns-clause-prefix : goal.returns-clause-prefix
returns-clause-prefix c = bare_taken c.args.text.now _ c.args.most (omega arith) (omega arith) (c.bare_len.ensures.pieces _ (omega arith))
