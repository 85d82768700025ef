-- What the laws of the crate say. `proofs/laws/Laws.antt` proves them.
use Rattle.std.specs.Prelude.{◌≡◌, ℕ, List}
use Rattle.bt_job.specs.declared.files.File.{File}
use Rattle.bt_run.specs.Kept.{style_text}
use Rattle.bt_run.specs.Meaning.{meaning, trace}
use Rattle.bt_run.specs.laws.ByName.{HaveSameTexts}

-- What files mean, the steps of their run and the text of its style depend on which text each name has. So the
-- order of the files is not seen, nor is one after another of its name.
pub record MeaningByNames : Type 0 where
  pub meaning : (files others : List File) → HaveSameTexts files others → (root : List ℕ) (min : ℕ) →
      meaning files root min ≡ meaning others root min
  pub trace : (files others : List File) → HaveSameTexts files others → (root : List ℕ) (min : ℕ) →
      trace files root min ≡ trace others root min
  pub style : (files others : List File) → HaveSameTexts files others → (root : List ℕ) →
      style_text files root ≡ style_text others root
