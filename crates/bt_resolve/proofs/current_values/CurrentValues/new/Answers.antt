use Rattle.std.specs.Prelude.{replicate}
use Rattle.std.proofs.Common.{◌∙◌, ap, ℕ, List, Option, None}
use Rattle.bt_resolve.specs.inner.CurrentValues.{current}
use Rattle.bt_resolve.proofs.CurrentLemmas.{current_none}
use Rattle.bt_resolve.proofs.current_values.CurrentValues.new.Goals as goal

pub returns : goal.returns
returns c = ap (current c.args.before.now) c.in_ok-since.ensures ∙ current_none c.args.before.now
