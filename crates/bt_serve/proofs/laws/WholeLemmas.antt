-- A last command may lack its line feed.
use Rattle.std.proofs.Common.{◌≡◌, ◌≢◌, List, [], ◌∷◌, ◌++◌, length, arith}
use Rattle.std.specs.List.{AllByRecursion, flat_map}
use Rattle.bt_serve.specs.Commands.{Command, command_text}
use Rattle.bt_serve.specs.Serves.{IsCommand}
use Rattle.bt_serve.specs.Whole.{commands_of}
use Rattle.bt_serve.proofs.WholeLemmas.{cut_onto, last_left}

pub cut_last : (cs : List Command) (c : Command) → AllByRecursion IsCommand cs → IsCommand c → c.line ≢ [] → c.bytes ≡ [] →
    commands_of (flat_map command_text cs ++ c.line) ≡ record { commands = cs ++ c ∷ []; rest = [] }
cut_last cs c a i some none =
    cut_onto cs c.line (record { commands = c ∷ []; rest = [] }) (length (flat_map command_text cs ++ c.line)) a (omega arith) (last_left c i some none)
