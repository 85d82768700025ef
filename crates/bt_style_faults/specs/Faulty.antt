-- The word of a style's text at which its first fault is.
use Rattle.std.specs.Prelude.{ℕ, ◌-◌, ◌==◌, ◌&&◌, nat_lt, Bool, true, false, if◌then◌else◌, List, [], ◌∷◌, ◌++◌, length, take, drop, bytes_eq, Option, Some, None, Result, Ok, Err}
use Rattle.std.specs.List.{find, take_while}
use Rattle.bt_positions.specs.declared.lines.Lines.TheVariants.{Bibtex}
use Rattle.bt_positions.specs.Lines.{place_of_line}
use Rattle.bt_style.specs.declared.fault.StyleFault.{StyleFault}
use Rattle.bt_style.specs.Fault.{words_of as words_of_kind}
use Rattle.bt_style.specs.Program.{Program}
use Rattle.bt_style.specs.Reader.{style_of}
use Rattle.bt_style_text.specs.Words.{words_of}
use Rattle.bt_style_text.specs.declared.words.Word.{Word}
use Rattle.bt_style_text.specs.declared.words.WordKind.{WordKind}
use Rattle.bt_style_text.specs.declared.words.WordKind.TheVariants as kinds

-- whether a word is a quote with no other on its line, or a literal that another word follows at once
abbrev pub is_broken : WordKind → Bool
is_broken kinds.Open = false
is_broken kinds.Close = false
is_broken kinds.Plain = false
is_broken kinds.Literal = false
is_broken kinds.Broken = true
is_broken kinds.Comment = false

-- the byte behind a broken word, which shows that it is broken; nothing for other words
abbrev pub behind : List ℕ → Word → List ℕ
behind text w = if is_broken w.kind then take 1 (drop w.end text) else []

-- The text cut behind a word. The line feed puts a fault that is the end of the text on the next line.
abbrev pub cut_behind : List ℕ → Word → List ℕ
cut_behind text w = take w.end text ++ behind text w ++ 10 ∷ []

-- whether a fault is on this line and says these words
abbrev pub is_fault : ℕ → List ℕ → Result Program StyleFault → Bool
is_fault line words (Ok p) = false
is_fault line words (Err f) = bytes_eq (words_of_kind f.kind) words && f.line == line

-- whether the first fault of a style's text is on this line and says these words
abbrev pub has_fault : ℕ → List ℕ → List ℕ → Bool
has_fault line words text = is_fault line words (style_of text)

-- the first of some words behind which the text can be cut so that it has the fault
abbrev pub first_faulty : ℕ → List ℕ → List ℕ → List Word → Option Word
first_faulty line words text tried = find (λ w. has_fault line words (cut_behind text w)) tried

abbrev pub begins_before : ℕ → Word → Bool
begins_before place w = nat_lt w.start place

-- the first 40 words from a place on
abbrev pub words_from : ℕ → List Word → List Word
words_from place words = take 40 (drop (length (take_while (begins_before place) words)) words)

-- The word at which the fault on a line is that says these words: the first one from the line's beginning on such that the
-- text cut behind it has this fault. None if it is the end of the text, or comes behind 40 words.
abbrev pub faulty_word : ℕ → List ℕ → List ℕ → Option Word
faulty_word line words text = first_faulty line words text (words_from (place_of_line Bibtex (line - 1) text) (words_of text))
