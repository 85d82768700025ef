-- The state of a scan.
use Rattle.std.specs.Prelude.{ℕ, ◌&&◌, if◌then◌else◌, Bool, false, Option, Some, None}
use Rattle.bt_mentions.specs.declared.state.State.{State}
use Rattle.bt_mentions.specs.declared.state.State.TheVariants.{Item, Text}
use Rattle.bt_mentions.specs.declared.mention.Role.{Role}
use Rattle.bt_mentions.specs.declared.mention.Role.TheVariants.{Citation}
use Rattle.bt_mentions.specs.KeyBytes.{is_cited_byte}
use Rattle.bt_mentions.specs.Citing.{citing_after, are_keys}
use Rattle.bt_mentions.specs.Inside.{inside_after, inside_role, is_enclosed}

-- after one more byte
abbrev pub state_after : State → ℕ → State
state_after (Item inside) byte = Item (inside_after inside byte)
state_after (Text in_latex citing) byte = Text in_latex (citing_after citing byte)

-- what a byte at such a place is a part of
abbrev pub role_at : State → ℕ → Option Role
role_at (Item inside) byte = inside_role inside byte
role_at (Text in_latex citing) byte = if are_keys citing && is_cited_byte in_latex byte then Some Citation else None

-- whether braces or quotes of an item are open at such a place
abbrev pub is_open : State → Bool
is_open (Item inside) = is_enclosed inside
is_open (Text in_latex citing) = false
