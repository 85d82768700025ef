-- What can be written at the cursor.
use Rattle.std.specs.Prelude.{ℕ, min, List, ◌++◌, map, codes}
use Rattle.serde_json.specs.Data.{Data, null, number, unsigned, string, array, object, member, no_members}
use Rattle.serde_json.specs.View.{items_of}
use Rattle.bt_positions.specs.Positions.{offset_of, position_of}
use Rattle.bt_positions.specs.declared.counting.Counting.{Counting}
use Rattle.bt_positions.specs.declared.indexed_text.Position.{Position}
use Rattle.bt_style.specs.declared.builtin.Builtin.{Builtin}
use Rattle.bt_style.specs.Builtins.{name_of}
use Rattle.bt_style_text.specs.Builtins.{all_builtins}
use Rattle.bt_style_text.specs.declared.commands.Command.{Command}
use Rattle.bt_style_text.specs.declared.roles.Kind.{Kind}
use Rattle.bt_style_text.specs.declared.roles.Kind.TheVariants as kinds
use Rattle.bt_style_text.specs.declared.roles.Role.{Role}
use Rattle.bt_style_text.specs.declared.roles.Role.TheVariants as roles
use Rattle.bt_style_text.specs.declared.marks.Mark.{Mark}
use Rattle.bt_style_text.specs.declared.completing.Offer.{Offer}
use Rattle.bt_style_text.specs.declared.completing.Offer.TheVariants.{Nothing, Commands, Names}
use Rattle.bt_style_text.specs.Parts.{part}
use Rattle.bt_style_text.specs.Words.{words_of}
use Rattle.bt_style_text.specs.Commands.{word_of, all_commands}
use Rattle.bt_style_text.specs.Marks.{marks_of}
use Rattle.bt_style_text.specs.Completing.{offer_at, offered, written_from}
use Rattle.bt_style_text.specs.Help.{help_of}
use Rattle.bt_shapes.specs.Shapes.{range, text, text_edit}
use Rattle.bt_style_answers.specs.declared.completion.Written.{Written}

-- the part of a text that a completion replaces: the word that is being written, up to the cursor
abbrev pub written_at : Counting → List ℕ → List Mark → ℕ → Written
written_at c words marks place =
    record { from = position_of c (min (written_from place marks) place) words; to = position_of c place words }

-- the edit that writes a name
abbrev pub edit_of : Written → List ℕ → Data
edit_of w name = text_edit (range w.from w.to) name

abbrev pub item : Written → List ℕ → ℕ → Data
item w label kind =
    object (member (codes "kind") (number (unsigned kind)) (member (codes "label") (text label)
    (member (codes "textEdit") (edit_of w label) no_members)))

-- a built-in function, with what it does
abbrev pub builtin_item : Written → Builtin → Data
builtin_item w builtin =
    object (member (codes "documentation") (object (member (codes "kind") (string (codes "markdown"))
    (member (codes "value") (text (help_of builtin)) no_members))) (member (codes "kind") (number (unsigned 3))
    (member (codes "label") (text (name_of builtin)) (member (codes "textEdit") (edit_of w (name_of builtin)) no_members))))

abbrev pub builtin_items : Written → List Data
builtin_items w = map (builtin_item w) all_builtins

abbrev pub command_item : Written → Command → Data
command_item w command = item w (word_of command) 14

abbrev pub command_items : Written → List Data
command_items w = map (command_item w) all_commands

abbrev pub item_kind_of : Kind → ℕ
item_kind_of kinds.Field = 5
item_kind_of kinds.Function = 3
item_kind_of _ = 6

-- the protocol's number of what a role declares: a field, a function, or a variable
abbrev pub item_kind : Role → ℕ
item_kind (roles.Declared kind) = item_kind_of kind
item_kind _ = 6

abbrev pub mark_item : Written → List ℕ → Mark → Data
mark_item w words mark = item w (part mark.start mark.end words) (item_kind mark.role)

-- built-in functions, and what the style declares before a place
abbrev pub name_items : Written → List ℕ → List Mark → ℕ → List Data
name_items w words marks place = builtin_items w ++ map (mark_item w words) (offered place marks)

abbrev pub offered_items : Written → List ℕ → List Mark → ℕ → Offer → Data
offered_items w words marks place Nothing = null
offered_items w words marks place Commands = array (items_of (command_items w))
offered_items w words marks place Names = array (items_of (name_items w words marks place))

-- what can be written at a place of a text that has these marks
abbrev pub completion_in : Counting → List ℕ → List Mark → ℕ → Data
completion_in c words marks place =
    offered_items (written_at c words marks place) words marks place (offer_at words place (words_of words))

-- what can be written at a position: commands outside of braces, names in bodies
abbrev pub completion_at : Counting → List ℕ → Position → Data
completion_at c words at = completion_in c words (marks_of words) (offset_of c at words)
