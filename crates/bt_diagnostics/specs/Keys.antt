-- The messages that are shown where a document has the key that they are about.
use Rattle.std.specs.Prelude.{ℕ, Bool, true, false, not, ◌&&◌, if◌then◌else◌, List, is_some, Option, Some, None}
use Rattle.bt_log.specs.declared.message.Message.{Message}
use Rattle.bt_log.specs.declared.message.Place.{Place}
use Rattle.bt_log.specs.declared.message.Place.TheVariants.{Line, DatabaseLine, WholeFile, Step}
use Rattle.bt_diagnostics.specs.declared.keys.KeyRole.{KeyRole}
use Rattle.bt_diagnostics.specs.declared.keys.KeyRole.TheVariants.{Entry, Citation}
use Rattle.bt_diagnostics.specs.declared.spans.Span.{Span}

-- whether a place is a line of a text that isn't a style, or a whole file
abbrev pub is_line : Option Place → Bool
is_line None = false
is_line (Some (Line file line byte)) = true
is_line (Some (DatabaseLine database line byte)) = true
is_line (Some (WholeFile file)) = true
is_line (Some (Step style line)) = false

-- Whether a message about a key belongs to keys of a role. At an entry it has no line of a file. At a citation it says
-- that the key has no entry: it has no place, and no second line, as messages about cross-references have.
abbrev pub belongs : KeyRole → Message → Bool
belongs Entry m = not (is_line m.place)
belongs Citation m = not (is_some m.place) && not (is_some m.second)

-- whether a message is shown at keys of this role
abbrev pub is_at_key : KeyRole → Message → Bool
is_at_key role m = is_some m.entry && belongs role m

-- where a document has the key that a message is about, if the message is shown there
abbrev pub key_span : KeyRole → (List ℕ → Option Span) → Message → Option Span
key_span role spans m = elim m.entry [ None ↦ None | Some key ↦ if is_at_key role m then spans key else None ]
