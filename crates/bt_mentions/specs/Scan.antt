-- The mentions of a text.
use Rattle.std.specs.Prelude.{ℕ, ◌+◌, ◌==◌, ◌&&◌, not, Bool, if◌then◌else◌, List, [], ◌++◌, Option, Some, None}
use Rattle.std.specs.List.{cons_option, fold}
use Rattle.bt_mentions.specs.declared.citing.Citing.TheVariants.{Outside}
use Rattle.bt_mentions.specs.declared.state.State.TheVariants.{Text}
use Rattle.bt_mentions.specs.declared.mention.Role.{Role}
use Rattle.bt_mentions.specs.declared.mention.Mention.{Mention}
use Rattle.bt_mentions.specs.declared.scan.Scan.{Scan}
use Rattle.bt_mentions.specs.Inside.{is_parent}
use Rattle.bt_mentions.specs.State.{state_after, role_at, is_open}

-- Whether a mention goes on after a byte that isn't a part of it. That of a parent does up to the end of the value, because a
-- `#` would end it.
abbrev pub is_kept : Role → ℕ → Bool
is_kept role byte = is_parent role && not (byte == 44) && not (byte == 35)

-- the mention that goes on after the byte at a place: the byte begins it, belongs to it or leaves it as it is
abbrev pub current_after : Option Role → ℕ → ℕ → Option Mention → Option Mention
current_after None byte place None = None
current_after None byte place (Some m) = if is_kept m.role byte then Some m else None
current_after (Some role) byte place None = Some (record { from = place; to = place + 1; role = role })
current_after (Some role) byte place (Some m) = Some (record { from = m.from; to = place + 1; role = m.role })

-- the mention that a byte ends: that of a parent at the comma after the value, another one at once
abbrev pub mention_before : Option Role → ℕ → Option Mention → Option Mention
mention_before None byte None = None
mention_before None byte (Some m) = if is_parent m.role && not (byte == 44) then None else Some m
mention_before (Some role) byte current = None

-- a scan after one more byte
abbrev pub scan_after : Scan → ℕ → Scan
scan_after s byte =
    record {
      state = state_after s.state byte;
      place = s.place + 1;
      current = current_after (role_at s.state byte) byte s.place s.current;
      found = s.found ++ cons_option (mention_before (role_at s.state byte) byte s.current) [];
    }

-- the mentions, and the one that the bytes end with; a text that isn't closed is none
abbrev pub all_found : Scan → List Mention
all_found s = if is_open s.state then s.found else s.found ++ cons_option s.current []

-- the keys that a text cites, which is LaTeX or not
abbrev pub citations : Bool → List ℕ → List Mention
citations in_latex text =
    all_found (fold scan_after (record { state = Text in_latex Outside; place = 0; current = None; found = [] }) text)
