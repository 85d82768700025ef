use Rattle.std.proofs.Common.{◌≡◌, codes, subst, Option, IfOk}
use Rattle.serde_json.specs.View.{view}
use Rattle.bt_positions.specs.declared.indexed_text.Position.{Position}
use Rattle.bt_places.specs.Parameters.{position_at}
use Rattle.bt_writing.specs.StyleActions.{actions_at}
use Rattle.bt_writing.proofs.style_actions.actions_in_style.Goals as goal

pub returns : goal.returns
returns c =
    let says : Option Position → Option Position → Type 0 = λ from to.
    IfOk c.actions_at.result (λ v. view v ≡ actions_at c.args.editor.now.checked.now c.args.editor.now.documents.now c.args.document.now from to) in
    subst (λ to. says (position_at (codes "/params/range/start/line") (codes "/params/range/start/character") (view c.args.message.now)) to) c.position_at-to.ensures
    (subst (λ from. says from c.position_at-to.result) c.position_at-from.ensures c.actions_at.ensures)
