use Rattle.std.proofs.Common.{◌∙◌, ap, List}
use Rattle.std.specs.List.{find}
use Rattle.bt_text.specs.CaseFolding.{is_same_folded}
use Rattle.bt_style.specs.declared.builtin.Builtin.{Builtin}
use Rattle.bt_style.specs.Builtins.{name_of}
use Rattle.bt_style_text.proofs.builtins.builtin_named.Goals as goal

pub returns : goal.returns
returns c =
    c.builtin_among.ensures ∙
    ap (λ (bs : List Builtin). find (λ builtin. is_same_folded c.args.name.now (name_of builtin)) bs) c.all_builtins.ensures
