use Rattle.std.proofs.Common.{◌∙◌, ap}
use Rattle.bt_resolve.specs.inner.Kept.{resolved_for}
use Rattle.bt_resolve.proofs.kept.Resolution.resolved.Goals as goal

pub returns : goal.returns
returns c = c.self.invariant.0.resolved_so ∙ ap resolved_for c.self.view_is
