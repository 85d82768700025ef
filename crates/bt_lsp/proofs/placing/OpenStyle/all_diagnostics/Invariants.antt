use Rattle.std.proofs.Common.{◌≡◌, [], length, map}
use Rattle.serde_json.specs.View.{view}
use Rattle.bt_lsp.specs.Placing.{found_by, with_messages}
use Rattle.bt_lsp.proofs.placing.OpenStyle.all_diagnostics.Given as goal

abbrev pub invariant-messages : goal.invariant-messages
invariant-messages l =
    let style = l.self in
    let document = style.document.now in
    let told = with_messages style.relates document style.fault (found_by style.keys.now style.name.now document) in
    told l.words (map view l.all.items) l.left ≡ told l.step_words [] l.messages

abbrev pub decreases-messages : goal.decreases-messages
decreases-messages l = length l.left
