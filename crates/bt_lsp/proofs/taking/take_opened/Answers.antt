use Rattle.std.proofs.Common.{rules, ◌∙◌}
use Rattle.serde_json.specs.View.{view}
use Rattle.bt_lsp.proofs.TakenLemmas.{was_opened}
use Rattle.bt_lsp.proofs.taking.take_opened.Goals as goal

pub returns-clause-taken : goal.returns-clause-taken
returns-clause-taken g c =
    was_opened c.args.counts_bytes (view c.args.message.now) c.args.documents.now c.open.new.documents c.in-Some.uri.now c.in-Some-text_at.text.now c.in_ok-name.name c.in_ok-indexed.indexed c.in_ok-bytes.bytes
    c.counting_for-counting.result c.in_ok-is_latin.is_latin c.version_at-version.result _ c.in-Some.ensures c.in-Some-text_at.ensures c.in_ok-is_latin.ensures c.counting_for-counting.ensures
    c.version_at-version.ensures c.in_ok-bytes.ensures (c.in_ok-name.ensures ∙ c.as_bytes.ensures.value) (c.in_ok-indexed.ensures ∙ c.into_vec.ensures) (search rules) c.in_ok-open.ensures.documents
