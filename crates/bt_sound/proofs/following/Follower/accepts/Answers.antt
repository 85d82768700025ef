use Rattle.std.specs.Prelude.{◌≡◌, true, IfSome}
use Rattle.std.proofs.Common.{subst}
use Rattle.bt_style.specs.Program.{program_of}
use Rattle.bt_sound.specs.Below.{variables_within}
use Rattle.bt_sound.specs.Checked.{first_known}
use Rattle.bt_sound.proofs.FollowLemmas.{all_checked}
use Rattle.bt_sound.proofs.following.Follower.accepts.Goals as goal

pub returns-in-Ok : goal.returns-in-Ok
returns-in-Ok c =
    λ t. all_checked (program_of c.args.self.now.style.now) c.args.self.now.types.now c.in-Some.start
    (subst (λ o. IfSome o (λ start. variables_within (first_known (program_of c.args.self.now.style.now)) start ≡ true)) c.in-Some.is c.in_ok-start.ensures)
    c.in-Ok.ensures
