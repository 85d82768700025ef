use Rattle.std.proofs.Common.{◌≡◌, ◌∙◌, ap, None}
use Rattle.std.specs.Prelude.{bytes_eq}
use Rattle.std.specs.Map.{lookup}
use Rattle.bt_style.specs.declared.style.Style.{Style}
use Rattle.bt_style.specs.Program.{program_of}
use Rattle.bt_style.specs.Names.{target_named}
use Rattle.bt_style.proofs.NameLemmas.{holds_declared, macros_stay_declared}
use Rattle.bt_style.proofs.draft.Draft.declare.Goals as goal

pub invariant_of-self-2 : goal.invariant_of-self-2
invariant_of-self-2 c =
    let free : target_named (program_of c.self.inside.style) c.args.name ≡ None = ap (λ (s : Style). target_named (program_of s) c.args.name) c.self.view_is ∙ c.requires in
    let p = program_of c.self.inside.style in
    let after = program_of c.push_name.new.style in
    let is = c.in_ok-push_name.ensures.ok in (
      holds_declared c.self.inside.targets c.make_room.new.self c.put.new.self c.args.names c.args.name p after c.in_ok-key.key.items c.next_target-target.result
          c.self.invariant.0 (λ key. ap (λ es. lookup (bytes_eq key) es) c.make_room.ensures.same) free is (c.in_ok-key.ensures.items ∙ c.as_slice.ensures) c.next_target-target.ensures c.put.ensures,
      macros_stay_declared c.self.inside.macros c.args.names c.args.name p after c.self.invariant.1 is,
    )
