-- What READ found, kept.
use Rattle.std.specs.Prelude.{◌≡◌, Bool, IsTrue, List, Option, Some, None}
use Rattle.std.specs.Option.{ForSome, is_some}
use Rattle.bt_actions.specs.declared.entry.Entry.{Entry}
use Rattle.bt_resolve.specs.declared.question.Question.{Question}
use Rattle.bt_resolve.specs.inner.Kept.{resolved_for}
use Rattle.bt_run.specs.declared.kept_resolution.KeptResolution.{KeptResolution}
use Rattle.bt_run.specs.inner.Alike.{AreFound}

-- the resolution of this question is kept
abbrev pub IsKept : Option KeptResolution → Question → Type 0
IsKept None q = ⊥
IsKept (Some kept) q = kept.resolution ≡ q

-- Entries are those of what READ found, but for their variables, if it found that in their run.
pub record AreFoundBy (is_own : Bool) (kept : Option KeptResolution) (entries : List Entry) : Type 0 where
  pub some : IsTrue is_own → IsTrue (is_some kept)
  pub found : IsTrue is_own → ForSome kept (λ k. AreFound (resolved_for k.resolution) entries)
