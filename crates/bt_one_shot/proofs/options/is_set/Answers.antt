use Rattle.std.proofs.Common.{◌∙◌, ap, sym, Some, None}
use Rattle.clap.specs.Words.{found_of}
use Rattle.bt_one_shot.specs.Words.{is_set}
use Rattle.bt_one_shot.proofs.OptionLemmas.{read_first}
use Rattle.bt_one_shot.proofs.options.is_set.Goals as goal

pub returns-in-Some : goal.returns-in-Some
returns-in-Some c = c.eq.ensures ∙ sym (ap is_set (read_first (found_of c.args.matches.now) c.args.name.now (Some c.in-Some.text.now) c.in-Some.ensures))

pub returns-in-None : goal.returns-in-None
returns-in-None c = sym (ap is_set (read_first (found_of c.args.matches.now) c.args.name.now None c.in-None.ensures))
