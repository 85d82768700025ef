use Rattle.std.proofs.Common.{refl, arith}
use Rattle.bt_style.specs.Program.{program_of}
use Rattle.bt_machine.proofs.LoopLemmas.{entered_past}
use Rattle.bt_machine.proofs.calls.function_body.Goals as goal

pub returns-else-n-len : goal.returns-else-n-len
returns-else-n-len c = entered_past (program_of c.args.style.now) c.args.style.now.functions.items c.args.n refl (omega arith)
