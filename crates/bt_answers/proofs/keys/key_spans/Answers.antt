use Rattle.std.proofs.Common.{◌∙◌, ap, sym, List, Bool, if◌then◌else◌}
use Rattle.std.specs.List.{list_any}
use Rattle.bt_log.specs.declared.message.Message.{Message}
use Rattle.bt_text.specs.ByName.{no_value}
use Rattle.bt_diagnostics.specs.declared.keys.KeyRole.{KeyRole}
use Rattle.bt_diagnostics.specs.Keys.{is_at_key}
use Rattle.bt_answers.specs.Keys.{role_of, spans_of}
use Rattle.bt_answers.proofs.keys.key_spans.Goals as goal

pub returns : goal.returns
returns g c =
    let shown = g.P.Paper.shown c.args.paper.now in
    let document = c.args.document.now in
    let any = c.is_any_at_key.ensures ∙ ap (λ (r : KeyRole). list_any (is_at_key r) c.messages.result.now) (c.role_of.ensures ∙ ap role_of c.as_slice.ensures) ∙
    ap (λ (ms : List Message). list_any (is_at_key (role_of document.name)) ms) c.messages.ensures in
    c.in_ok-spans.ensures ∙ sym (ap (λ (b : Bool). if b then spans_of shown.files document else no_value) (sym any ∙ c.if-not-is_any_at_key.false))
