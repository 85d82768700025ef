use Rattle.std.proofs.Common.{◌≡◌, [], drop}
use Rattle.bt_answers.specs.Hints.{with_all_names}
use Rattle.bt_answers.proofs.hints.names_in.Given as goal

abbrev pub invariant-files : goal.invariant-files
invariant-files g l =
    let files = (g.P.Paper.shown l.paper).files in
    with_all_names l.asked l.list (drop l.n files) ≡ with_all_names l.asked [] files
