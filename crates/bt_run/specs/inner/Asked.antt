-- What READ asks of the databases, as a question whose resolution can be kept.
use Rattle.std.specs.Prelude.{ℕ, List, map}
use Rattle.bt_bib.specs.BibText.{pieces_of}
use Rattle.bt_bib.specs.declared.placed_pieces.PlacedPiece.{PlacedPiece}
use Rattle.bt_resolve.specs.declared.question.Question.{Question}
use Rattle.bt_run.specs.declared.asking.Asking.{Asking}
use Rattle.bt_run.specs.ReadCommand.{Job, declared_before}
use Rattle.bt_run.specs.inner.Cases.{text_in}

-- what READ asks at the command of this number
abbrev pub question_for : Job → ℕ → Question
question_for job number = record {
  declared = declared_before number job.program;
  cites = job.cites;
  databases = map (λ name. pieces_of (text_in job.files name)) job.databases;
  min = job.min;
}

abbrev pub question_of : Asking → Question
question_of a = record { declared = a.declared; cites = a.cites; databases = map pieces_of a.texts; min = a.min }

abbrev pub with_databases : List (List PlacedPiece) → Question → Question
with_databases databases q = record q { databases = databases }
