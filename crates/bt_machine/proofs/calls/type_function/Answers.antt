use Rattle.std.proofs.Common.{◌≡◌, ap, sym, ◌∙◌, rules}
use Rattle.std.specs.Prelude.{bytes_eq, codes, position}
use Rattle.bt_style.specs.Program.{definition_of, program_of}
use Rattle.bt_machine.specs.Eval.{default_type}
use Rattle.bt_machine.proofs.Positions.{position-map}
use Rattle.bt_machine.proofs.calls.type_function.Goals as goal

pub returns-in-None : goal.returns-in-None
returns-in-None c =
    let found : c.find_default_type.result ≡ default_type (program_of c.args.style.now).functions =
    c.find_default_type.ensures
    ∙ ap (λ functions. position (λ f. bytes_eq f.name (codes "default.type")) functions) c.deref.ensures.value
    ∙ sym (position-map definition_of (λ d. bytes_eq d.name (codes "default.type")) c.args.style.now.functions.items) in
    search rules
