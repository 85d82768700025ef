-- The laws of the crate, which no code needs. `specs/laws` has what they say.
use Rattle.bt_run.specs.laws.Laws.{MeaningByNames}
use Rattle.bt_run.proofs.laws.ByNameLemmas

pub meaning_by_names : MeaningByNames
meaning_by_names = record { meaning = ByNameLemmas.meaning_same; trace = ByNameLemmas.trace_same; style = ByNameLemmas.style_text_same }
