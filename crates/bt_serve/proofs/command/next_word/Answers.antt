use Rattle.std.proofs.Common.{◌==◌, ℕ, sym}
use Rattle.std.proofs.lemmas.List.{take_rest}
use Rattle.bt_serve.proofs.WordLemmas.{split_some, split_none}
use Rattle.bt_serve.proofs.command.next_word.Goals as goal

pub returns-in-Some : goal.returns-in-Some
returns-in-Some c = rw take_rest (split_some (λ (b : ℕ). b == 32) c.args.text.now c.in-Some.i (sym c.in-Some.ensures))

pub returns-in-None : goal.returns-in-None
returns-in-None c = split_none (λ (b : ℕ). b == 32) c.args.text.now (sym c.in-None.ensures)
