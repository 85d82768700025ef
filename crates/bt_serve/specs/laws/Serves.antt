-- Definitions beside those of `specs/Serves.antt` that only laws need.
use Rattle.std.specs.Prelude.{◌≡◌, ◌≢◌, []}
use Rattle.bt_serve.specs.Commands.{Command}
use Rattle.bt_serve.specs.Serves.{IsCommand}

-- a command whose line isn't empty and brings no bytes
abbrev pub IsBare : Command → Type 0
IsBare c = IsCommand c × (c.line ≢ []) × (c.bytes ≡ [])
