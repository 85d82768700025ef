-- What the answers of a run show.
use Rattle.bt_run.specs.declared.answers.Answers.{Answers}
use Rattle.bt_run.specs.Meaning.{Meaning}

abbrev pub meaning_of : Answers → Meaning
meaning_of a =
    record { bbl = a.bbl; blg = a.blg; terse = a.terse; messages = a.messages; status = a.status; wanted = a.wanted }
