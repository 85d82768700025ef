use Rattle.std.proofs.Common.{◌∙◌, ap, sym, map, [], ◌∷◌, ◌++◌}
use Rattle.serde_json.specs.Data.{Data}
use Rattle.serde_json.specs.View.{view}
use Rattle.bt_style_answers.specs.References.{with_mark}
use Rattle.bt_style_answers.proofs.shown_style.ShownStyle.with_mark.Goals as goal

pub returns-in_ok-all-in-Some : goal.returns-in_ok-all-in-Some
returns-in_ok-all-in-Some c =
    let style = c.args.self.now in
    let list = map view c.args.list.items in
    c.in_ok-all-in-Some.ensures ∙ ap (λ (v : Data). list ++ v ∷ []) c.in_ok-place-in-Some.ensures ∙
    sym (ap (with_mark style.counting style.uri.now style.text.now list) c.in-Some.is)
