-- What can be written at a place.
use Rattle.std.specs.Prelude.{ℕ, ◌==◌, ◌&&◌, ◌||◌, nat_lt, nat_le, Bool, true, false, if◌then◌else◌, List, [], ◌∷◌, filter, codes, Option, Some, None}
use Rattle.std.specs.List.{list_any, find}
use Rattle.bt_style_text.specs.declared.words.Word.{Word}
use Rattle.bt_style_text.specs.declared.words.WordKind.{WordKind}
use Rattle.bt_style_text.specs.declared.words.WordKind.TheVariants as kinds
use Rattle.bt_style_text.specs.declared.roles.Role.{Role}
use Rattle.bt_style_text.specs.declared.roles.Role.TheVariants as roles
use Rattle.bt_style_text.specs.declared.roles.Context.{Context}
use Rattle.bt_style_text.specs.declared.marks.Mark.{Mark}
use Rattle.bt_style_text.specs.declared.names.Space.{Space}
use Rattle.bt_style_text.specs.declared.names.Space.TheVariants as spaces
use Rattle.bt_style_text.specs.declared.completing.Offer.{Offer}
use Rattle.bt_style_text.specs.declared.completing.Offer.TheVariants.{Nothing, Commands, Names}
use Rattle.bt_style_text.specs.Parts.{part}
use Rattle.bt_style_text.specs.Roles.{top, role_of, context_after}
use Rattle.bt_style_text.specs.Names.{declares, space_of}
use Rattle.bt_style_text.specs.Outline.{start_after}

-- whether a word can't be continued at its end
abbrev pub is_closed : WordKind → Bool
is_closed kinds.Open = true
is_closed kinds.Close = true
is_closed kinds.Literal = true
is_closed kinds.Plain = false
is_closed kinds.Broken = false
is_closed kinds.Comment = false

-- whether a word stands before a place, and isn't continued there
abbrev pub is_before : ℕ → Word → Bool
is_before place word = nat_lt word.end place || ((word.end == place) && is_closed word.kind)

abbrev pub covers_by : WordKind → ℕ → ℕ → ℕ → Bool
covers_by kinds.Comment start end place = nat_lt start place && nat_le place end
covers_by kinds.Broken start end place = nat_lt start place && nat_le place end
covers_by kinds.Literal start end place = nat_lt start place && nat_lt place end
covers_by _ start end place = false

-- whether a word covers a place so that nothing else can be written there
abbrev pub covers : ℕ → Word → Bool
covers place word = covers_by word.kind word.start word.end place

abbrev pub is_covered : ℕ → List Word → Bool
is_covered place words = list_any (covers place) words

abbrev pub context_from : Context → List ℕ → ℕ → List Word → Context
context_from context text place [] = context
context_from context text place (word ∷ words) =
    if is_before place word then
    context_from (context_after context word.kind (part word.start word.end text)) text place words
    else context

-- where the word at a place stands: after the words before it
abbrev pub context_at : List ℕ → ℕ → List Word → Context
context_at text place words = context_from top text place words

-- what can be written where a word would have this role
abbrev pub offer_of : Role → Offer
offer_of roles.Called = Names
offer_of _ = Nothing

-- what can be written in this context: commands outside of braces, names where a word would be called
abbrev pub offer_in : Context → Offer
offer_in context = if context.depth == 0 then Commands else offer_of (role_of context kinds.Plain (codes "x"))

-- what can be written at a place of a text that has these words
abbrev pub offer_at : List ℕ → ℕ → List Word → Offer
offer_at text place words = if is_covered place words then Nothing else offer_in (context_at text place words)

abbrev pub is_names : Space → Bool
is_names spaces.Nothing = false
is_names spaces.Names = true
is_names spaces.Macros = false

-- whether a word of this role can be continued
abbrev pub goes_on : Role → Bool
goes_on roles.Open = false
goes_on roles.Close = false
goes_on roles.Literal = false
goes_on roles.Broken = false
goes_on roles.Comment = false
goes_on _ = true

abbrev pub is_written : ℕ → Mark → Bool
is_written place mark = goes_on mark.role && nat_lt mark.start place && nat_le place mark.end

abbrev pub start_or : ℕ → Option Mark → ℕ
start_or place None = place
start_or place (Some mark) = mark.start

-- where the word begins that is being written at a place, after its quote; the place itself if there is none
abbrev pub written_from : ℕ → List Mark → ℕ
written_from place marks = start_or place (find (is_written place) marks)

-- where the last command begins that begins before a place or there, and began here so far
abbrev pub command_start : ℕ → ℕ → List Mark → ℕ
command_start place start [] = start
command_start place start (mark ∷ marks) =
    command_start place (if nat_le mark.start place then start_after start mark else start) marks

-- whether a mark declares a name before the command that begins here
abbrev pub is_offered : ℕ → Mark → Bool
is_offered start mark = declares mark.role && is_names (space_of mark.role) && nat_lt mark.end start

-- what a style declares before the command at a place: fields, variables and functions, in order
abbrev pub offered : ℕ → List Mark → List Mark
offered place marks = filter (is_offered (command_start place 0 marks)) marks
