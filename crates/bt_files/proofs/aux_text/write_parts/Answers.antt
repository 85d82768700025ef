use Rattle.std.proofs.Common.{sym, arith, rules, ◌+◌}
use Rattle.std.proofs.lemmas.Bool.{ne_eqb}
use Rattle.bt_files.proofs.AuxWriteLemmas.{part_written}
use Rattle.bt_files.proofs.aux_text.write_parts.Goals as goal

pub parts-preserved : goal.parts-preserved
parts-preserved c = record {
  first = sym (ne_eqb (c.parts.part-index + 1) 0 (λ e. omega arith));
  text = part_written c.args.parts.now c.parts.part-index c.as_slice.result.now c.parts.is_first c.args.text.now c.parts.text c.write_part.new.text
      (omega arith) (search rules) c.parts.invariant.first c.parts.invariant.text c.in_ok-write_part.ensures;
}
