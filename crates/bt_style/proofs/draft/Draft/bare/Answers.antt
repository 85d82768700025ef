use Rattle.bt_style.specs.Program.{program_of}
use Rattle.bt_style.proofs.NameLemmas.{holds_builtins, holds_no_macro}
use Rattle.bt_style.proofs.draft.Draft.bare.Goals as goal

pub invariant_of-result : goal.invariant_of-result
invariant_of-result c = (
  holds_builtins c.in_ok-builtins.field-0 (program_of c.bare_style.result) c.in_ok-builtins.ensures c.bare_style.ensures,
  holds_no_macro c.new.result (program_of c.bare_style.result) c.new.ensures.listed c.bare_style.ensures,
)
