use Rattle.std.proofs.Common.{◌≡◌, ◌≤◌, List, ◌++◌, drop, length, map, vec_len, vec_capacity}
use Rattle.std.specs.Prelude.{Result}
use Rattle.bibtex.specs.declared.edit.Refusal.{Refusal}
use Rattle.bt_run.specs.declared.answers.Report.{Report}
use Rattle.bibtex.specs.Edit.{edit_of}
use Rattle.bibtex.specs.Headline.{AnswersInTurn, ReportsInTurn, after_answers}
use Rattle.bibtex.proofs.edits.edit_all.Given as goal

-- whatever answers the edits that are left answers all, after the answers so far
abbrev pub invariant-edits : goal.invariant-edits
invariant-edits l = record {
  answers : (more : List (Result Report Refusal)) → AnswersInTurn (map edit_of (drop l.edit-index l.edits)) more l.session → AnswersInTurn (map edit_of l.edits) (l.answers.items ++ more) l.fn.session;
  reports : (more : List (Result Report Refusal)) → ReportsInTurn (map edit_of (drop l.edit-index l.edits)) more l.session → ReportsInTurn (map edit_of l.edits) (l.answers.items ++ more) l.fn.session;
  state : (more : List (Result Report Refusal)) → after_answers (map edit_of (drop l.edit-index l.edits)) more l.session ≡ after_answers (map edit_of l.edits) (l.answers.items ++ more) l.fn.session;
  so_far : vec_len l.answers ≡ l.edit-index;
  room : length l.edits ≤ vec_capacity l.answers;
}
