use Rattle.std.proofs.Common.{sym, subst}
use Rattle.bt_style.specs.Program.{program_of}
use Rattle.bt_sound.specs.Follows.{CommandLeads}
use Rattle.bt_sound.proofs.following.Follower.command.Goals as goal

pub returns-in_ok-after-in-Execute : goal.returns-in_ok-after-in-Execute
returns-in_ok-after-in-Execute c =
    subst (λ a. CommandLeads (program_of c.args.self.now.style.now) c.args.self.now.types.now a c.args.globals c.in_ok-after-in-Execute.after) (sym c.in-Execute.is) (record { checked = c.in_ok-after-in-Execute.ensures })

pub returns-in_ok-after-in-Iterate : goal.returns-in_ok-after-in-Iterate
returns-in_ok-after-in-Iterate c =
    subst (λ a. CommandLeads (program_of c.args.self.now.style.now) c.args.self.now.types.now a c.args.globals c.in_ok-after-in-Iterate.after) (sym c.in-Iterate.is) (record { checked = c.in_ok-after-in-Iterate.ensures })

pub returns-in_ok-after-in-Reverse : goal.returns-in_ok-after-in-Reverse
returns-in_ok-after-in-Reverse c =
    subst (λ a. CommandLeads (program_of c.args.self.now.style.now) c.args.self.now.types.now a c.args.globals c.in_ok-after-in-Reverse.after) (sym c.in-Reverse.is) (record { checked = c.in_ok-after-in-Reverse.ensures })
