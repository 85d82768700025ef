-- The laws of the crate, which no code needs. `specs/laws` has what they say.
use Rattle.bt_serve.specs.laws.Laws.{CommandsOfJoined, TurnsAnswerCommands, EditsOfCommands}
use Rattle.bt_serve.proofs.WholeLemmas.{cut_whole, cut_short}
use Rattle.bt_serve.proofs.laws.WholeLemmas
use Rattle.bt_serve.proofs.ServedLemmas
use Rattle.bt_serve.proofs.EditLemmas.{leads_by}
use Rattle.bt_serve.proofs.laws.EditLemmas

pub commands_of_joined : CommandsOfJoined
commands_of_joined = record { whole = cut_whole; cut = cut_short; last = λ cs d all bare. WholeLemmas.cut_last cs d all bare.0 bare.1 bare.2 }

pub turns_answer_commands : TurnsAnswerCommands
turns_answer_commands = record { all = ServedLemmas.ends_answers_all; truncated = ServedLemmas.ends_answers_before; part = ServedLemmas.ends_answers_part }

pub edits_of_commands : EditsOfCommands
edits_of_commands = record { leads = leads_by; only = EditLemmas.led_by }
