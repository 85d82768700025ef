use Rattle.std.proofs.Common.{drop}
use Rattle.bt_style.specs.Program.{program_of}
use Rattle.bt_sound.specs.Follows.{CommandsContinue}
use Rattle.bt_sound.proofs.following.Follower.commands.Given as goal

abbrev pub invariant-commands : goal.invariant-commands
invariant-commands l =
    CommandsContinue (program_of l.self.style.now) l.self.types.now (drop l.command-index l.command-items) l.command-items l.globals l.fn.start
