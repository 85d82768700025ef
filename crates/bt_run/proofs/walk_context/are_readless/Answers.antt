use Rattle.std.proofs.Common.{◌≡◌, sym, subst, false, All, take}
use Rattle.std.proofs.lemmas.List.{take_all, take_more}
use Rattle.std.proofs.lemmas.List.Elements.{All-push}
use Rattle.bt_style.specs.declared.style.Command.{Command}
use Rattle.bt_run.specs.inner.WalkContext.{is_read}
use Rattle.bt_run.proofs.walk_context.are_readless.Goals as goal

abbrev readless : Command → Type 0
readless c = is_read c.action ≡ false

pub commands-preserved : goal.commands-preserved
commands-preserved c =
    let all = c.args.commands.now in
    let k = c.commands.number in
    subst (All readless) (sym (take_more all k _ c.commands-test.true)) (All-push readless (take k all) _ c.commands.invariant (sym c.if-is_read.ensures))

pub returns : goal.returns
returns c = λ go. subst (All readless) (take_all c.commands.number c.args.commands.now c.commands-test.false) c.commands.invariant
