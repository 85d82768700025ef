use Rattle.std.proofs.Common.{length, ◌<◌, arith, rules}
use Rattle.bt_bib.specs.AuxLine.{aux_lines}
use Rattle.bt_bib.proofs.AuxLemmas.{lines_end, line_added, behind_shorter}
use Rattle.bt_bib.proofs.aux_line.read_aux.Goals as goal

pub lines-init : goal.lines-init
unfolding aux_lines
lines-init c = record { number = omega arith; same = search rules }

pub returns-then-end-rest : goal.returns-then-end-rest
returns-then-end-rest c =
    lines_end c.lines.number c.line_len-end.result c.lines.rest.now c.trim_end.result.now c.lines.items c.add_line.new.items _
    c.line_len-end.ensures.value c.if-end-rest.true c.trim_end.ensures c.in_ok-add_line.ensures c.lines.invariant.same

pub lines-preserved : goal.lines-preserved
lines-preserved c =
    let lt : c.line_len-end.result < length c.lines.rest.now = omega arith in record {
      number = omega (arith, behind_shorter c.lines.rest.now c.line_len-end.result lt);
      same = line_added c.lines.number c.line_len-end.result c.lines.rest.now c.trim_end.result.now c.lines.items c.add_line.new.items _
          c.line_len-end.ensures.value lt c.trim_end.ensures c.in_ok-add_line.ensures c.lines.invariant.same;
    }
