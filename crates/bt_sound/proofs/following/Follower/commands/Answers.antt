use Rattle.std.proofs.Common.{subst}
use Rattle.bt_style.specs.Program.{program_of}
use Rattle.bt_sound.specs.Follows.{CommandsLead}
use Rattle.bt_sound.proofs.FollowLemmas.{command_start, command_more, command_end}
use Rattle.bt_sound.proofs.following.Follower.commands.Goals as goal

pub commands-init : goal.commands-init
commands-init c = command_start _ _ _ _

pub commands-preserved : goal.commands-preserved
commands-preserved c =
    command_more _ _ c.as_slice-command-items.result.now c.commands.command-index _ _ _ _ _ c.commands-test.true c.in_ok-globals.ensures c.commands.invariant

pub returns : goal.returns
returns c =
    subst (λ cs. CommandsLead (program_of c.args.self.now.style.now) c.args.self.now.types.now cs c.args.start) c.as_slice-command-items.ensures
    (command_end _ _ c.as_slice-command-items.result.now c.commands.command-index _ _ _ c.commands-test.false c.commands.invariant)
