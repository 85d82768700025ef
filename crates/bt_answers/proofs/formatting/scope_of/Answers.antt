use Rattle.std.proofs.Common.{ap, ◌∙◌, codes, Option}
use Rattle.serde_json.specs.View.{view}
use Rattle.bt_positions.specs.declared.indexed_text.Position.{Position}
use Rattle.bt_places.specs.Parameters.{position_at}
use Rattle.bt_answers.specs.Formatting.{scope_between}
use Rattle.bt_answers.proofs.formatting.scope_of.Goals as goal

pub returns : goal.returns
returns c =
    c.scope_between.ensures ∙ ap (λ (o : Option Position). scope_between c.args.document.now o c.position_at-to.result) c.position_at-from.ensures ∙
    ap (λ (o : Option Position). scope_between c.args.document.now (position_at (codes "/params/range/start/line") (codes "/params/range/start/character") (view c.args.message.now)) o) c.position_at-to.ensures
