-- What the laws of the crate say. `proofs/laws/Laws.antt` proves them.
use Rattle.std.specs.Prelude.{◌≡◌, Ok, List, Result}
use Rattle.bt_run.specs.declared.answers.Report.{Report}
use Rattle.bibtex.specs.Edit.{Edit}
use Rattle.bibtex.specs.declared.state.State.{State}
use Rattle.bibtex.specs.Present.{EachOnce, shown, reported}
use Rattle.bibtex.specs.Applied.{applied}
use Rattle.bibtex.specs.declared.edit.Refusal.{Refusal}
use Rattle.bibtex.specs.Headline.{AnswersInTurn, ReportsInTurn, after_answers}
use Rattle.bibtex.specs.laws.Order.{AreAlike, ComeToTheSame}

-- If each name has one text in a state, it has one after each edit.
abbrev pub NamesStandOnce : Type 0
NamesStandOnce = (e : Edit) (s t : State) → EachOnce s.texts → applied e s ≡ Ok t → EachOnce t.texts

-- The order in which the present texts were first written is never seen. Two states with the same texts, in whatever
-- order, mean the same. An edit reports the same in both, each list of edits can be answered in one as in the other,
-- and afterwards both have the same texts again.
pub record OrderIsNeverSeen : Type 0 where
  pub shown : (s t : State) → AreAlike s t → shown s ≡ shown t
  pub reported : (s t s' t' : State) → AreAlike s t → AreAlike s' t' → reported s s' ≡ reported t t'
  pub edited : (e : Edit) (s t : State) → EachOnce s.texts → EachOnce t.texts → AreAlike s t →
      ComeToTheSame (applied e s) (applied e t)
  pub answered : (es : List Edit) (answers : List (Result Report Refusal)) (s t : State) → EachOnce s.texts →
      EachOnce t.texts →
      AreAlike s t → AnswersInTurn es answers s → AnswersInTurn es answers t
  pub told : (es : List Edit) (answers : List (Result Report Refusal)) (s t : State) → EachOnce s.texts →
      EachOnce t.texts →
      AreAlike s t → ReportsInTurn es answers s → ReportsInTurn es answers t
  pub left : (es : List Edit) (answers : List (Result Report Refusal)) (s t : State) → EachOnce s.texts →
      EachOnce t.texts →
      AreAlike s t → AreAlike (after_answers es answers s) (after_answers es answers t)
