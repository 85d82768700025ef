-- The laws of the crate, which no code needs. `specs/laws` has what they say.
use Rattle.std.proofs.Common.{sym, ◌∙◌}
use Rattle.bt_bib.specs.BibText.{pieces_of}
use Rattle.bt_edited.specs.declared.changes.Change.TheVariants.{Nothing}
use Rattle.bt_edited.specs.laws.Laws.{MadePiecesAreChanged}
use Rattle.bt_edited.proofs.laws.BecomesLemmas.{all_pieces, pieces_stay}
use Rattle.bt_edited.proofs.laws.ConverseLemmas.{all_found}

pub made_pieces_are_changed : MadePiecesAreChanged
made_pieces_are_changed = record {
  made = λ c before after.
      (λ h. sym (all_pieces c (pieces_of before) (pieces_of after) h), λ h. all_found c (pieces_of before) (pieces_of after) (sym h));
  kept = λ before after h. sym (all_pieces Nothing (pieces_of before) (pieces_of after) h) ∙ pieces_stay (pieces_of before);
}
