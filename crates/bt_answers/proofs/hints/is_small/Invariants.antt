use Rattle.std.proofs.Common.{◌≡◌, drop, Some}
use Rattle.bt_answers.specs.Hints.{room_left}
use Rattle.bt_answers.proofs.hints.is_small.Given as goal

abbrev pub invariant-files : goal.invariant-files
invariant-files g l =
    let files = (g.P.Paper.shown l.paper).files in
    room_left l.room (drop l.n files) ≡ room_left (Some 262144) files
