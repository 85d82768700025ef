-- The words of commands.
use Rattle.std.specs.Prelude.{ℕ, Bool, false, bytes_eq, List, [], ◌∷◌, Option, Some, None, codes}
use Rattle.std.specs.List.{find}
use Rattle.bt_text.specs.CaseFolding.{is_same_folded}
use Rattle.bt_style_text.specs.declared.commands.Command.{Command}
use Rattle.bt_style_text.specs.declared.commands.Command.TheVariants as commands

-- the word of a command
abbrev pub word_of : Command → List ℕ
word_of commands.Entry = codes "ENTRY"
word_of commands.Execute = codes "EXECUTE"
word_of commands.Function = codes "FUNCTION"
word_of commands.Integers = codes "INTEGERS"
word_of commands.Iterate = codes "ITERATE"
word_of commands.Macro = codes "MACRO"
word_of commands.Read = codes "READ"
word_of commands.Reverse = codes "REVERSE"
word_of commands.Sort = codes "SORT"
word_of commands.Strings = codes "STRINGS"

unfoldable pub all_commands : List Command
all_commands =
    commands.Entry ∷ commands.Execute ∷ commands.Function ∷ commands.Integers ∷ commands.Iterate ∷
    commands.Macro ∷ commands.Read ∷ commands.Reverse ∷ commands.Sort ∷ commands.Strings ∷ []

-- the command of a word in either case
unfoldable pub command_named : List ℕ → Option Command
command_named word = find (λ command. is_same_folded word (word_of command)) all_commands

-- whether a word is that of the command, in capitals
abbrev pub is_word_of : List ℕ → Option Command → Bool
is_word_of word None = false
is_word_of word (Some command) = bytes_eq (word_of command) word

abbrev pub is_command_word : List ℕ → Bool
is_command_word word = is_word_of word (command_named word)
