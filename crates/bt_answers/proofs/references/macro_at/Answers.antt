use Rattle.std.proofs.Common.{◌∙◌, ap, sym}
use Rattle.serde_json.specs.View.{view}
use Rattle.bt_mentions.specs.Databases.{part}
use Rattle.bt_places.specs.Mentioning.{mention_at}
use Rattle.bt_answers.proofs.MentionLemmas.{found_macro}
use Rattle.bt_answers.proofs.references.macro_at.Goals as goal

pub returns : goal.returns
returns g c =
    let one = c.in-Some.one in
    let editor = c.args.workspace.now.editor in
    found_macro (g.P.Paper.shown c.args.workspace.now.paper.now).files editor.documents.now editor.counting c.args.cursor.now.document.now one (mention_at c.args.cursor.now.document.now c.args.cursor.now.at)
    c.part-name.result.now (view c.in_ok-found.found) (sym c.in-Some.is ∙ c.in_ok-one.ensures) (sym c.is_key.ensures ∙ c.if-is_key.false)
    (c.part-name.ensures.value ∙ ap (part one.from one.to) c.as_slice.ensures) c.in_ok-found.ensures
