use Rattle.std.proofs.Common.{◌≡◌, ◌+◌, refl, subst, sym, false, All, take}
use Rattle.std.proofs.lemmas.List.{take_more, take_rest}
use Rattle.std.proofs.lemmas.List.Elements.{All-push}
use Rattle.bt_style.specs.declared.style.Command.{Command}
use Rattle.bt_run.specs.inner.WalkContext.{AreReadless, is_read}
use Rattle.bt_run.proofs.OnlyReadLemmas.{only_read}
use Rattle.bt_run.proofs.walk_context.read_number.Goals as goal

pub commands-preserved : goal.commands-preserved
commands-preserved c =
    let all = c.args.commands.now in
    let k = c.commands.number in
    subst AreReadless (sym (take_more all k _ c.commands-test.true)) (All-push (λ (d : Command). is_read d.action ≡ false) (take k all) _ c.commands.invariant (sym c.if-is_read.ensures))

pub returns-then-are_readless : goal.returns-then-are_readless
returns-then-are_readless c =
    only_read c.args.commands.now c.commands.number _ c.commands-test.true (sym c.if-is_read.ensures) c.commands.invariant (subst AreReadless (take_rest c.args.commands.now (c.commands.number + 1)) (c.if-are_readless.ensures refl))
