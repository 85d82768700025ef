use Rattle.std.proofs.Common.{◌∙◌, sym}
use Rattle.bt_text.proofs.FoldingLemmas.{small_stays}
use Rattle.bt_text.proofs.case_folding.is_ascii_lowercase.Goals as goal

pub returns : goal.returns
returns c = λ small. small_stays c.args.text.now (sym c.has_no_capitals.ensures ∙ small)
