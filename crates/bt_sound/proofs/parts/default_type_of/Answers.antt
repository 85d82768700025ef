use Rattle.std.proofs.Common.{ap, sym, ◌∙◌}
use Rattle.std.specs.Prelude.{bytes_eq, codes, position}
use Rattle.bt_style.specs.Program.{definition_of}
use Rattle.bt_machine.proofs.Positions.{position-map}
use Rattle.bt_sound.proofs.parts.default_type_of.Goals as goal

pub returns : goal.returns
returns c =
    c.find_default_type.ensures
    ∙ ap (λ functions. position (λ f. bytes_eq f.name (codes "default.type")) functions) c.deref.ensures.value
    ∙ sym (position-map definition_of (λ d. bytes_eq d.name (codes "default.type")) c.args.style.now.functions.items)
