use Rattle.std.proofs.Common.{◌∙◌, ap, codes}
use Rattle.std.specs.Str.Parse.{ParsesUnsigned, ExplainsUnsignedError, HasUnsignedDigitsIfOk}
use Rattle.clap.proofs.WalkLemmas.{one_text-rows}
use Rattle.clap.specs.Words.{found_of}
use Rattle.bt_one_shot.specs.Words.{min_of}
use Rattle.bt_one_shot.proofs.OptionLemmas.{min_read}
use Rattle.bt_one_shot.proofs.options.min_found.Goals as goal

pub returns-clause-value : goal.returns-clause-value
returns-clause-value c =
    c.from.ensures ∙ c.unwrap_or.ensures
    ∙ min_read _ (λ bs r. ParsesUnsigned 16 10 bs r × ExplainsUnsignedError 10 bs r × HasUnsignedDigitsIfOk bs r) _ c.get_one.result (λ u x g. g.0) c.get_one.ensures.none c.get_one.ensures.value
    ∙ ap min_of (one_text-rows (found_of c.args.matches.now) (codes "min-crossrefs"))
