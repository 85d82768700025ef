use Rattle.std.proofs.Common.{◌≡◌, ap, refl, sym, ◌∙◌, arith, rules}
use Rattle.serde_json.specs.Data.{null}
use Rattle.serde_json.specs.declared.value.Value.{Null, the_lemmas}
use Rattle.serde_json.specs.View.{view}
use Rattle.bt_positions.specs.declared.counting.Counting.{Counting}
use Rattle.bt_places.specs.Editor.{counting_in}
use Rattle.bt_writing.specs.Finding.{location_in}
use Rattle.bt_writing.proofs.FileLemmas.{found_later, found_here, found_nowhere}
use Rattle.bt_writing.proofs.finding.found_in.Goals as goal

pub returns-then-not-is_null : goal.returns-then-not-is_null
returns-then-not-is_null g c =
    let here = c.in_ok-found.ensures ∙ ap (λ (u : Counting). location_in u c.args.key.now c.file.result.0.now c.file.result.1.now) c.counting_in.ensures in
    found_here (counting_in c.args.workspace.now.editor.counting c.args.workspace.now.editor.documents.now) c.args.key.now (g.P.Paper.shown c.args.workspace.now.paper.now).files c.files.n _ _ (view c.in_ok-found.found) _ c.file.ensures c.files.invariant here
    (sym c.is_null.ensures ∙ c.if-not-is_null.true)

pub files-preserved : goal.files-preserved
files-preserved g c =
    let here = c.in_ok-found.ensures ∙ ap (λ (u : Counting). location_in u c.args.key.now c.file.result.0.now c.file.result.1.now) c.counting_in.ensures in
    found_later (counting_in c.args.workspace.now.editor.counting c.args.workspace.now.editor.documents.now) c.args.key.now (g.P.Paper.shown c.args.workspace.now.paper.now).files c.files.n _ _ _ (view c.in_ok-found.found) _ c.file.ensures refl c.files.invariant here
    (sym c.is_null.ensures ∙ c.if-not-is_null.false)

pub returns : goal.returns
returns g c =
    let seen : view Null ≡ null = search (rules, the_lemmas) in
    seen ∙ found_nowhere (counting_in c.args.workspace.now.editor.counting c.args.workspace.now.editor.documents.now) c.args.key.now (g.P.Paper.shown c.args.workspace.now.paper.now).files c.files.n c.file_count-n-end.result _ c.file_count-n-end.ensures (omega (arith, c.files-test.false)) c.files.invariant
