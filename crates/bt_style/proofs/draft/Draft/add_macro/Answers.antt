use Rattle.std.proofs.Common.{◌≡◌, ◌∙◌, ap, None}
use Rattle.std.specs.Prelude.{bytes_eq}
use Rattle.std.specs.Map.{lookup}
use Rattle.bt_style.specs.declared.style.Style.{Style}
use Rattle.bt_style.specs.Program.{program_of}
use Rattle.bt_style.specs.Names.{macro_named}
use Rattle.bt_style.proofs.NameLemmas.{holds_macro, names_stay}
use Rattle.bt_style.proofs.draft.Draft.add_macro.Goals as goal

pub invariant_of-self-2 : goal.invariant_of-self-2
invariant_of-self-2 c =
    let free : macro_named (program_of c.self.inside.style) c.args.name ≡ None = ap (λ (s : Style). macro_named (program_of s) c.args.name) c.self.view_is ∙ c.requires in
    let p = program_of c.self.inside.style in
    let after = program_of c.push_macro.new.style in
    let is = c.in_ok-push_macro.ensures.ok in (
      names_stay c.self.inside.targets c.args.name c.args.text p after c.self.invariant.0 is,
      holds_macro c.self.inside.macros c.make_room.new.self c.put.new.self c.args.name c.args.text p after c.in_ok-key.key.items c.len-place.result
          c.self.invariant.1 (λ key. ap (λ es. lookup (bytes_eq key) es) c.make_room.ensures.same) free is (c.in_ok-key.ensures.items ∙ c.as_slice.ensures) c.len-place.ensures c.put.ensures,
    )
