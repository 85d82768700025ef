-- The order in which the present texts were first written is never seen.
use Rattle.std.specs.Prelude.{◌≡◌, Result, Ok, Err}
use Rattle.bt_run.specs.laws.ByName.{HaveSameTexts}
use Rattle.bibtex.specs.declared.edit.Refusal.{Refusal}
use Rattle.bibtex.specs.declared.state.State.{State}

-- Two states with the same texts, in whatever order: every name has the same text in both, or none in both.
pub record AreAlike (s t : State) : Type 0 where
  pub texts : HaveSameTexts s.texts t.texts
  pub root : s.root ≡ t.root
  pub min : s.min ≡ t.min

-- what an edit makes of two states: two that are alike, or the same refusal of both
abbrev pub ComeToTheSame : Result State Refusal → Result State Refusal → Type 0
ComeToTheSame (Ok s) (Ok t) = AreAlike s t
ComeToTheSame (Ok s) (Err refusal) = ⊥
ComeToTheSame (Err refusal) (Ok t) = ⊥
ComeToTheSame (Err refusal) (Err other) = refusal ≡ other
