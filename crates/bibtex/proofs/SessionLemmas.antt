-- What a session shows, and what it reads again.
use Rattle.std.proofs.Common.{◌≡◌, ◌≤◌, ◌∙◌, refl, sym, ap, ℕ, List, length}
use Rattle.bt_bib.specs.Splice.{IsSplice}
use Rattle.bt_log.specs.declared.message.Message.{Message}
use Rattle.bt_log.specs.Log.{log_bytes}
use Rattle.bt_job.specs.declared.citations.Citations.{Citations}
use Rattle.bt_job.specs.Citations.{citations}
use Rattle.bt_run.specs.Meaning.{meaning}
use Rattle.bt_run.proofs.AnswerLemmas.{log_spelled}
use Rattle.bibtex.specs.declared.state.State.{State}
use Rattle.bibtex.specs.Present.{shown}
use Rattle.bibtex.specs.inner.Cases.{replaced}

-- The log is what the messages are in words.
pub log_in_words : (s : State) (messages : List Message) → messages ≡ (shown s).messages → (shown s).blg ≡ log_bytes messages
log_in_words s messages are = log_spelled s.texts s.root s.min ∙ ap log_bytes (sym are)

-- A text with other bytes in the place of some of its own is a splice of it.
pub replaced_is_splice : (start end : ℕ) (old bytes new : List ℕ) → start ≤ end → end ≤ length old → new ≡ replaced start end bytes old → IsSplice old new start end (length bytes)
replaced_is_splice start end old bytes new order inside is = record { order = order; inside = inside; bytes = bytes; count = refl; text = is }

-- The names that are wanted are those that the .aux files want.
pub wanted_by : (s : State) (c : Citations) (names : List (List ℕ)) → c ≡ citations s.texts s.root → names ≡ c.wanted → names ≡ (shown s).wanted
unfolding meaning
wanted_by s c names is_cited are = are ∙ ap (λ (d : Citations). d.wanted) is_cited
