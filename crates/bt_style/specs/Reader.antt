-- The style that a text spells, or its first fault with its line.
use Rattle.std.specs.Prelude.{ℕ, zero, suc, List, Option, Some, None, Result, Ok}
use Rattle.bt_style.specs.declared.fault.FaultKind.TheVariants.{UnknownCommand, StrayByte}
use Rattle.bt_style.specs.declared.fault.StyleFault.{StyleFault}
use Rattle.bt_style.specs.declared.verbs.Stage.{Stage}
use Rattle.bt_style.specs.declared.verbs.Stage.TheVariants.{BeforeEntry}
use Rattle.bt_style.specs.Program.{Program}
use Rattle.bt_style.specs.Fault.{fault, ◌>>=◌}
use Rattle.bt_style.specs.Token.{Open, Close, Word, Tokens, AtEnd, Front, tokens_of, count}
use Rattle.bt_style.specs.Draft.{preset}
use Rattle.bt_style.specs.Commands.{command_at}

-- the word with which a command begins, its line and the tokens after it; none at the end
abbrev pub command_word : Tokens → Result (Option (List ℕ × ℕ × Tokens)) StyleFault
command_word (AtEnd line) = Ok None
command_word (Front Open line rest) = fault StrayByte line
command_word (Front Close line rest) = fault StrayByte line
command_word (Front (Word word) line rest) = Ok (Some (word, line, rest))
command_word (Front _ line rest) = fault UnknownCommand line

-- a program after the commands that follow, at most this number, from a stage on
unfoldable pub commands_at : ℕ → Stage → Program → Tokens → Result Program StyleFault
commands_at zero stage p tokens = Ok p
commands_at (suc most) stage p tokens = command_word tokens >>= λ found. elim found [
  | None ↦ Ok p
  | Some word ↦ command_at stage p word.0 word.1 word.2 >>= λ next. commands_at most next.0 next.1 next.2
]

-- The style that tokens spell. Each command has at least one token, so the bound is never reached.
unfoldable pub reading : Tokens → Result Program StyleFault
reading tokens = commands_at (suc (count tokens)) BeforeEntry preset tokens

-- the style that a text spells, or its first fault
unfoldable pub style_of : List ℕ → Result Program StyleFault
style_of text = reading (tokens_of text)
