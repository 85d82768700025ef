use Rattle.std.proofs.Common.{◌≡◌, ap, ◌∙◌, rules}
use Rattle.serde_json.specs.Data.{null}
use Rattle.serde_json.specs.declared.value.Value.{Null, the_lemmas}
use Rattle.serde_json.specs.View.{view}
use Rattle.bt_writing.specs.Actions.{actions_if_any}
use Rattle.bt_writing.proofs.actions.actions_for.Goals as goal

pub returns-in_ok-answer-in-Some : goal.returns-in_ok-answer-in-Some
returns-in_ok-answer-in-Some c = c.in_ok-answer-in-Some.ensures ∙ ap (actions_if_any c.args.document.now) c.in-Some.ensures

pub returns-in-None : goal.returns-in-None
returns-in-None c =
    let seen : view Null ≡ null = search (rules, the_lemmas) in
    seen ∙ ap (actions_if_any c.args.document.now) c.in-None.ensures
