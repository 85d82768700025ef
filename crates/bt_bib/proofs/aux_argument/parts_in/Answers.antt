use Rattle.std.proofs.Common.{rules, tests}
use Rattle.std.proofs.lemmas.Iterator.Consumers.{map_from_collect}
use Rattle.std.proofs.lemmas.Iterator.Splits.{YieldsList-from_slice_split}
use Rattle.bt_bib.proofs.aux_argument.parts_in.Goals as goal

pub returns-in-Commas : goal.returns-in-Commas
returns-in-Commas c = rw c.in-Commas.is (map_from_collect _ c.collect.ensures.ran (YieldsList-from_slice_split _ _ c.args.argument.now c.split.ensures.rest c.split.ensures.done c.split.ensures.closure (λ x r q k. search (rules, tests))))
