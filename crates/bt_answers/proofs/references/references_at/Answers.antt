use Rattle.std.proofs.Common.{◌∙◌, ap, sym}
use Rattle.serde_json.specs.View.{view}
use Rattle.bt_mentions.specs.Databases.{part}
use Rattle.bt_places.specs.Mentioning.{mention_at}
use Rattle.bt_answers.proofs.MentionLemmas.{found_references}
use Rattle.bt_answers.proofs.references.references_at.Goals as goal

pub returns : goal.returns
returns g c =
    let one = c.in-Some.one in
    let editor = c.args.workspace.now.editor in
    found_references (g.P.Paper.shown c.args.workspace.now.paper.now).files editor.documents.now editor.counting c.args.cursor.now.document.now one (mention_at c.args.cursor.now.document.now c.args.cursor.now.at)
    c.args.with_declarations c.asked_of.result c.part.result.now (view c.in_ok-found.found) (sym c.in-Some.is ∙ c.in_ok-one.ensures) c.asked_of.ensures
    (c.part.ensures.value ∙ ap (part one.from one.to) c.as_slice.ensures) c.in_ok-found.ensures
