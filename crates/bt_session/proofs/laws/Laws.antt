-- The law of the crate, which no code needs. `specs/laws` has what it says.
use Rattle.bt_front.proofs.laws.Laws.{plain_jobs_stay, plain_steps_stay}
use Rattle.bt_session.specs.laws.Laws.{PlainNamesStay}

pub plain_names_stay : PlainNamesStay
plain_names_stay s all = (plain_jobs_stay s.texts s.root s.min all, plain_steps_stay s.texts s.root s.min all)
