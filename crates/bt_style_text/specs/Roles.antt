-- The role of a word, by what stands before it.
use Rattle.std.specs.Prelude.{ℕ, ◌+◌, ◌-◌, ◌==◌, ◌||◌, Bool, if◌then◌else◌, List, [], ◌∷◌, Option, Some, None}
use Rattle.bt_style_text.specs.declared.commands.Command.{Command}
use Rattle.bt_style_text.specs.declared.commands.Command.TheVariants as commands
use Rattle.bt_style_text.specs.declared.words.WordKind.{WordKind}
use Rattle.bt_style_text.specs.declared.words.WordKind.TheVariants as words
use Rattle.bt_style_text.specs.declared.roles.Kind.TheVariants as kinds
use Rattle.bt_style_text.specs.declared.roles.Role.{Role}
use Rattle.bt_style_text.specs.declared.roles.Role.TheVariants as roles
use Rattle.bt_style_text.specs.declared.roles.Group.{Group}
use Rattle.bt_style_text.specs.declared.roles.Group.TheVariants as groups
use Rattle.bt_style_text.specs.declared.roles.Context.{Context}
use Rattle.bt_style_text.specs.Commands.{command_named, is_command_word}

-- before any command
abbrev pub top : Context
top = record { command = None; group = groups.None; depth = 0 }

-- the role of a word in a function's body
abbrev pub body_role : List ℕ → Role
body_role [] = roles.Called
body_role (b ∷ _) = if b == 39 then roles.Quoted else (if b == 35 then roles.Number else roles.Called)

-- the role of a word in an argument of a command, and in no further braces
abbrev pub role_in : Command → Group → List ℕ → Role
role_in commands.Entry groups.First word = roles.Declared kinds.Field
role_in commands.Entry groups.Second word = roles.Declared kinds.EntryInteger
role_in commands.Entry groups.Third word = roles.Declared kinds.EntryString
role_in commands.Integers groups.First word = roles.Declared kinds.GlobalInteger
role_in commands.Strings groups.First word = roles.Declared kinds.GlobalString
role_in commands.Function groups.First word = roles.Declared kinds.Function
role_in commands.Function groups.Second word = body_role word
role_in commands.Macro groups.First word = roles.Declared kinds.Macro
role_in commands.Execute groups.First word = roles.Called
role_in commands.Iterate groups.First word = roles.Called
role_in commands.Reverse groups.First word = roles.Called
role_in _ _ word = roles.Stray

-- Whether a word begins a command: outside of braces every word should, and inside one in capitals does.
abbrev pub begins_command : ℕ → List ℕ → Bool
begins_command depth word = depth == 0 || is_command_word word

abbrev pub command_role : Option Command → Role
command_role None = roles.Stray
command_role (Some command) = roles.Command command

abbrev pub argument_role : Option Command → Group → List ℕ → Role
argument_role None group word = roles.Stray
argument_role (Some command) group word = role_in command group word

-- the role of a word without quotes; words that stand deeper than a command's argument are of a body
abbrev pub plain_role : Context → List ℕ → Role
plain_role context word =
    if begins_command context.depth word then command_role (command_named word)
    else (if context.depth == 1 then argument_role context.command context.group word else body_role word)

-- the role of a word
abbrev pub role_of : Context → WordKind → List ℕ → Role
role_of context words.Open word = roles.Open
role_of context words.Close word = roles.Close
role_of context words.Plain word = plain_role context word
role_of context words.Literal word = roles.Literal
role_of context words.Broken word = roles.Broken
role_of context words.Comment word = roles.Comment

abbrev pub next_group : Group → Group
next_group groups.None = groups.First
next_group groups.First = groups.Second
next_group groups.Second = groups.Third
next_group groups.Third = groups.Later
next_group groups.Later = groups.Later

-- after a left brace
abbrev pub opened : Context → Context
opened context =
    if context.depth == 0 then record context { group = next_group context.group; depth = 1 }
    else record context { depth = context.depth + 1 }

-- after a right brace
abbrev pub closed : Context → Context
closed context = record context { depth = context.depth - 1 }

-- where the next word stands
abbrev pub context_after : Context → WordKind → List ℕ → Context
context_after context words.Open word = opened context
context_after context words.Close word = closed context
context_after context words.Plain word =
    if begins_command context.depth word then record { command = command_named word; group = groups.None; depth = 0 }
    else context
context_after context words.Literal word = context
context_after context words.Broken word = context
context_after context words.Comment word = context
