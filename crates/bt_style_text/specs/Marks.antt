-- The words of a style's text with their roles.
use Rattle.std.specs.Prelude.{ℕ, ◌+◌, ◌&&◌, nat_lt, Bool, true, false, if◌then◌else◌, List, [], ◌∷◌}
use Rattle.bt_style_text.specs.declared.words.Word.{Word}
use Rattle.bt_style_text.specs.declared.roles.Kind.{Kind}
use Rattle.bt_style_text.specs.declared.roles.Role.{Role}
use Rattle.bt_style_text.specs.declared.roles.Role.TheVariants as roles
use Rattle.bt_style_text.specs.declared.roles.Context.{Context}
use Rattle.bt_style_text.specs.declared.marks.Mark.{Mark}
use Rattle.bt_style_text.specs.Parts.{part}
use Rattle.bt_style_text.specs.Words.{words_of}
use Rattle.bt_style_text.specs.Roles.{top, role_of, context_after}

abbrev pub is_quoted : Role → Bool
is_quoted roles.Quoted = true
is_quoted _ = false

-- where a word's name begins: after its quote, if it has one
abbrev pub name_start : Role → Word → ℕ
name_start role word = if is_quoted role && nat_lt word.start word.end then word.start + 1 else word.start

-- a word with its role
abbrev pub mark_of : Context → Word → List ℕ → Mark
mark_of context word bytes =
    let role = role_of context word.kind bytes in
    record { role = role; start = name_start role word; end = word.end }

-- the roles of words of a text, the first of which stands here
abbrev pub marks_from : Context → List ℕ → List Word → List Mark
marks_from context text [] = []
marks_from context text (word ∷ words) =
    let bytes = part word.start word.end text in
    mark_of context word bytes ∷ marks_from (context_after context word.kind bytes) text words

-- the words of a text with their roles
abbrev pub marks_of : List ℕ → List Mark
marks_of text = marks_from top text (words_of text)
