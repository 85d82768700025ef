use Rattle.std.proofs.Common.{◌≡◌, drop}
use Rattle.bt_places.specs.Editor.{counting_in}
use Rattle.bt_writing.specs.Finding.{found_in}
use Rattle.bt_writing.proofs.finding.found_in.Given as goal

abbrev pub invariant-files : goal.invariant-files
invariant-files g l =
    let files = (g.P.Paper.shown l.workspace.paper.now).files in
    found_in (counting_in l.workspace.editor.counting l.workspace.editor.documents.now) l.key (drop l.n files) ≡ found_in (counting_in l.workspace.editor.counting l.workspace.editor.documents.now) l.key files
