use Rattle.std.proofs.Common.{sym, ◌∙◌, append-nil, append_assoc}
use Rattle.bt_shapes.proofs.TextLemmas.{as_utf8_chunk, as_utf8_empty}
use Rattle.bt_shapes.proofs.text.shown.Goals as goal

pub chunks-preserved : goal.chunks-preserved
chunks-preserved c =
    let steps = c.in-Some.ensures.steps in
    let text = as_utf8_chunk _ _ _ _ steps.0 steps.3.0 steps.3.1 steps.2 in
    rw (c.in_ok-push_latin.ensures, c.in_ok-push_str.ensures.bytes, c.valid.ensures, c.invalid.ensures)
    (simp append_assoc (rw text at c.chunks.invariant))

pub returns : goal.returns
returns c = sym (append-nil _) ∙ rw (as_utf8_empty _ c.in-None.ensures.steps.0) at c.chunks.invariant
