use Rattle.std.proofs.Common.{◌≡◌, true, drop}
use Rattle.std.specs.List.{fold}
use Rattle.bt_places.specs.Editor.{counting_in}
use Rattle.bt_answers.specs.Renaming.{also_renamed}
use Rattle.bt_answers.proofs.renaming.are_renamed.Given as goal

abbrev pub invariant-files : goal.invariant-files
invariant-files g l =
    let files = (g.P.Paper.shown l.paper).files in
    let r = l.renaming in
    let add = also_renamed (counting_in r.editor.counting r.editor.documents.now) r.wanted r.old.now r.new.now in
    fold add l.are (drop l.n files) ≡ fold add true files
