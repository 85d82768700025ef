use Rattle.std.proofs.Common.{◌≡◌, ◌++◌, take, option_copied}
use Rattle.std.specs.List.{flat_map}
use Rattle.bt_text.specs.ByName.{known}
use Rattle.bt_resolve.specs.Values.{joined_parts, others, part_warnings, within_limit}
use Rattle.bt_resolve.proofs.values.ValueReader.parts.Given as goal

abbrev pub invariant-parts : goal.invariant-parts
invariant-parts l = record {
  joined : l.joined ≡ within_limit (joined_parts (others (option_copied l.self.own) (known l.self.macros.now)) (take l.part-index l.parts));
  messages : l.messages ≡ l.initial.messages ++ flat_map (part_warnings (option_copied l.self.own) (known l.self.macros.now) l.self.origin) (take l.part-index l.parts);
}
