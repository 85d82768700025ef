use Rattle.std.proofs.Common.{◌∙◌, ap, List}
use Rattle.bt_bib.specs.declared.placed_pieces.PlacedPiece.{PlacedPiece}
use Rattle.bt_resolve.specs.declared.question.Question.{Question}
use Rattle.bt_run.specs.inner.Asked.{question_of, with_databases}
use Rattle.bt_run.proofs.kept_resolution.KeptResolution.of.Goals as goal

pub returns : goal.returns
returns c = c.in_ok-resolution.ensures ∙ ap (λ (ds : List (List PlacedPiece)). with_databases ds (question_of c.args.asking)) c.requires.databases

pub invariant_of-kept-clause-read : goal.invariant_of-kept-clause-read
invariant_of-kept-clause-read c = ap (λ (q : Question). q.databases) c.in_ok-resolution.ensures ∙ c.requires.databases
