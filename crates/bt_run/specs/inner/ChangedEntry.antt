-- An edit that changes one entry for READ.
use Rattle.std.specs.Prelude.{◌≡◌, ◌<◌, ℕ, List, Option, None, Some, length, slice_set}
use Rattle.bt_resolve.specs.declared.entry.Entry.{Entry as FoundEntry}
use Rattle.bt_resolve.specs.declared.kept.ResolvedEdit.{ResolvedEdit}
use Rattle.bt_resolve.specs.declared.seen_edit.MadeEntry.{MadeEntry}
use Rattle.bt_resolve.specs.inner.Kept.{resolved_for, with_seen}
use Rattle.bt_run.specs.declared.database_edit.DatabaseEdit.{DatabaseEdit}
use Rattle.bt_run.specs.declared.kept_resolution.KeptResolution.{KeptResolution}

-- entries with this one in place, if there is one
abbrev pub with_other : Option MadeEntry → List FoundEntry → List FoundEntry
with_other None es = es
with_other (Some m) es = slice_set es m.index m.entry

-- After the kept edit, READ finds this entry at a place, and all else as before.
pub record IsChangedEntry (k : KeptResolution) (place : ℕ) (d : FoundEntry) : Type 0 where
  pub edit : DatabaseEdit
  pub made : ResolvedEdit
  pub is_edit : k.edit ≡ Some edit
  pub is_made : edit.made ≡ Some made
  pub within : place < length (resolved_for k.resolution).entries
  pub entries : with_seen made.seen (resolved_for k.resolution).entries ≡ slice_set (resolved_for k.resolution).entries place d
  pub messages : made.messages ≡ (resolved_for k.resolution).messages
