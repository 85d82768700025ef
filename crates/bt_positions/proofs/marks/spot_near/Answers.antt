use Rattle.std.proofs.Common.{ap, arith}
use Rattle.bt_positions.specs.declared.marks.Line.{Line}
use Rattle.bt_positions.proofs.MarkLemmas.{single_leads}
use Rattle.bt_positions.proofs.marks.spot_near.Goals as goal

pub returns-in-Utf8 : goal.returns-in-Utf8
returns-in-Utf8 c =
    let line = c.args.line in
    single_leads c.args.counting c.args.character line.number line.start line.next c.min-units.result c.args.text.now c.in-Utf8.is
    (ap (λ (l : Line). l.start) c.requires.line) (ap (λ (l : Line). l.next) c.requires.line)
    (omega (arith, c.min-units.ensures, c.saturating_sub-room.ensures, c.saturating_sub.ensures))
