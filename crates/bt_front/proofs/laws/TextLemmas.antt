-- Texts under other names.
use Rattle.std.proofs.Common.{◌≡◌, ◌⊎◌, ◌<◌, ◌^◌, ℕ, Bool, true, false, List, map, length, Option, Some, None, refl, inl, inr}
use Rattle.std.specs.Prelude.{◌&&◌, unwrap_or}
use Rattle.std.specs.List.{slice_split}
use Rattle.bt_text.specs.ByteTests.{is_line_feed}
use Rattle.bt_bib.specs.AuxLine.{aux_lines}
use Rattle.bt_job.specs.FileNames.{is_file_name}
use Rattle.bt_files.specs.Names.{session_name}
use Rattle.bt_files.specs.AuxText.{written, item_with}
use Rattle.bt_files.specs.laws.AuxText.{has_name_bytes, GivesNames}
use Rattle.bt_files.proofs.laws.TableLemmas.{is_admitted}
use Rattle.bt_files.proofs.laws.AuxTextLemmas.{written_is_read}
use Rattle.bt_files.proofs.laws.AuxReadLemmas.{read_is_writable, renamed_is_writable}
use Rattle.bt_front.specs.Job.{renamed}

last_holds : (b c : Bool) → (b && c) ≡ true → c ≡ true
last_holds true c both = both
last_holds false c both = absurd cc

admitted_bytes : (name : List ℕ) → is_file_name name ≡ true → has_name_bytes name ≡ true
admitted_bytes name admitted = last_holds _ _ admitted

gives_names : (table : List (List ℕ)) → length table < 2 ^ 64 → GivesNames (renamed table)
gives_names table few author = go (session_name table author) refl
  where
    go : (o : Option (List ℕ)) → session_name table author ≡ o → (unwrap_or o author ≡ author) ⊎ (has_name_bytes (unwrap_or o author) ≡ true)
    go None is = inl refl
    go (Some session) is = inr (admitted_bytes session (is_admitted table author session few is))

pub lines_kept : (table : List (List ℕ)) (text : List ℕ) → length table < 2 ^ 64
    → aux_lines (written (map (item_with (renamed table)) (aux_lines text))) ≡ map (item_with (renamed table)) (aux_lines text)
unfolding aux_lines written
lines_kept table text few =
    written_is_read (map (item_with (renamed table)) (aux_lines text)) (renamed_is_writable (renamed table) (gives_names table few) 1 (aux_lines text) (read_is_writable 1 (slice_split is_line_feed text)))
