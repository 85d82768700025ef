use Rattle.std.proofs.Common.{◌∙◌, ap, subst, sym, length}
use Rattle.bt_bib.specs.BibText.{pieces_of}
use Rattle.bt_bib.specs.Boundaries.{Rises}
use Rattle.bt_bib.proofs.RiseLemmas.{spans_rise}
use Rattle.bt_answers.proofs.related.all_related.Goals as goal

pub related_values-requires-clause-order : goal.related_values-requires-clause-order
related_values-requires-clause-order c =
    let text = c.args.document.now.text in
    (length text, subst (Rises (length text) 0) (sym (c.pieces.ensures ∙ c.in_ok-items.ensures ∙ ap pieces_of c.as_slice.ensures)) (spans_rise text))
