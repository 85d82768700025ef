use Rattle.std.proofs.Common.{◌+◌, sym}
use Rattle.std.proofs.lemmas.List.{take_rest}
use Rattle.bt_text.proofs.BreakingLemmas.{run_end_some, run_end_none}
use Rattle.bt_text.proofs.line_breaks.run_end.Goals as goal

pub returns-then-start-text-clause-place : goal.returns-then-start-text-clause-place
returns-then-start-text-clause-place c =
    let t = c.args.text.now in
    let k = c.dark_run-start.result in
    let dark = rw (take_rest t 80) at c.dark_run-start.ensures.len in
    let white = rw (take_rest t (80 + k)) at c.white_run.ensures.len in
    sym (run_end_some t k c.white_run.result dark c.if-start-text.true white)

pub returns-else-start-text-clause-place : goal.returns-else-start-text-clause-place
returns-else-start-text-clause-place c =
    let t = c.args.text.now in
    let dark = rw (take_rest t 80) at c.dark_run-start.ensures.len in
    sym (run_end_none t c.dark_run-start.result dark c.if-start-text.false)
