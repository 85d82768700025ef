use Rattle.std.proofs.Common.{arith}
use Rattle.bt_style.specs.Program.{program_of}
use Rattle.bt_run.proofs.UnseenLemmas.{all_numbers, one_more}
use Rattle.bt_run.proofs.change.all_declare.Goals as goal

pub commands-preserved : goal.commands-preserved
commands-preserved c =
    one_more (program_of c.args.style.now) c.args.declared.now c.commands.number c.commands.invariant (c.in_ok-declares_at.ensures c.if-not-branch.false)

pub returns : goal.returns
returns c = λ go.
    all_numbers (program_of c.args.style.now) c.args.declared.now c.commands.number (omega (arith, c.commands-test.false, c.len-number-end.ensures)) c.commands.invariant
