use Rattle.std.proofs.Common.{◌∙◌}
use Rattle.bt_resolve.proofs.values.ValueReader.part.Goals as goal

pub returns-in-Macro-clause-joined : goal.returns-in-Macro-clause-joined
returns-in-Macro-clause-joined c = rw (c.in-Macro.is, ← (c.as_slice.ensures ∙ c.deref.ensures)) c.read_macro.ensures.joined
