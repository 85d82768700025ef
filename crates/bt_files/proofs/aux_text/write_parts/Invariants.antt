use Rattle.std.proofs.Common.{◌≡◌, ◌++◌, take}
use Rattle.std.specs.Prelude.{◌==◌}
use Rattle.std.specs.List.{join_with_byte}
use Rattle.bt_files.specs.AuxText.{comma}
use Rattle.bt_files.proofs.aux_text.write_parts.Given as goal

abbrev pub invariant-parts : goal.invariant-parts
invariant-parts l = record {
  first : l.is_first ≡ (l.part-index == 0);
  text : l.text ≡ l.fn.text ++ join_with_byte comma (take l.part-index l.parts);
}
