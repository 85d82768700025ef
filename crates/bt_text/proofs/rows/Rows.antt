-- The definitions at literal texts.
use Rattle.std.specs.Prelude.{◌≡◌, [], ◌∷◌, ◌++◌, refl, codes, pos, negsuc, replicate, ◌+◌, length, true, map}
use Rattle.bt_text.specs.declared.classes.Class.TheVariants.{White, Letter, Digit, Sep, Other}
use Rattle.bt_text.specs.declared.modes.Mode.TheVariants.{Title, Lower, Upper}
use Rattle.bt_text.specs.LineBreaks.{broken, near_break}
use Rattle.bt_text.specs.CaseChange.{changed_case}
use Rattle.bt_text.specs.Classes.{class_of}
use Rattle.bt_text.specs.Substrings.{substring_of, text_prefix_of}
use Rattle.bt_text.specs.Depth.{depth_at}
use Rattle.bt_text.specs.CaseFolding.{folded, is_same_folded}
use Rattle.bt_text.specs.Held.{ended_lines, line_ended, written}
use Rattle.bt_text.specs.Length.{text_length_of}
use Rattle.bt_text.specs.NameBytes.{is_name, name_at_start}
use Rattle.bt_text.specs.Period.{with_period}
use Rattle.bt_text.specs.Pieces.{brace, other, pieces, special}
use Rattle.bt_text.specs.Purification.{purified}
use Rattle.bt_text.specs.White.{trimmed_end, white_joined}
use Rattle.bt_text.specs.Widths.{width_of, widths}

classes_of_some : map class_of (codes "\t\u{c}z~-9{") ≡ White ∷ Other ∷ Letter ∷ Sep ∷ Sep ∷ Digit ∷ Other ∷ []
classes_of_some = refl

class_of_high_byte : class_of 128 ≡ Letter
class_of_high_byte = refl

depth_in_groups : depth_at (codes "a{b{c}}}d") 5 ≡ 2
depth_in_groups = refl

depth_behind_lone_brace : depth_at (codes "}}{a") 3 ≡ 1
depth_behind_lone_brace = refl

pieces_of_some : pieces (codes "a{\\'e}{b}") ≡ other 97 ∷ special (codes "{\\'e}") ∷ brace 123 ∷ other 98 ∷ brace 125 ∷ []
pieces_of_some = refl

titled : changed_case Title (codes "The {\\TeX} Book: An {I}ntro") ≡ codes "The {\\TeX} book: An {I}ntro"
titled = refl

titled_behind_colons : changed_case Title (codes "A: B:C") ≡ codes "A: B:c"
titled_behind_colons = refl

titled_white : changed_case Title (codes " A {:} B :\tC") ≡ codes " a {:} b :\tC"
titled_white = refl

titled_special : changed_case Title (codes "A: {\\'E}a {\\'E} {\\OE}X") ≡ codes "A: {\\'E}a {\\'e} {\\oe}x"
titled_special = refl

enlarged : changed_case Upper (codes "a{\\ss}b") ≡ codes "A{SS}B"
enlarged = refl

enlarged_more : changed_case Upper (codes "a{\\i  x\\oe y\\'e{z}}{\\i}{q}") ≡ codes "A{IX\\OE Y\\'E{Z}}{I}{q}"
enlarged_more = refl

lowered : changed_case Lower (codes "A{\\OE X\\AA}{B}C") ≡ codes "a{\\oe x\\aa}{B}c"
lowered = refl

purified_worked : purified (codes "H{\\'e}l{\\`e}ne~d'Arc-{\\OE}uvre") ≡ codes "Helene dArc OEuvre"
purified_worked = refl

width_of_ab : width_of (codes "ab") ≡ 1056
unfolding widths
width_of_ab = refl

width_of_group : width_of (codes "{a}") ≡ 1500
unfolding widths
width_of_group = refl

width_of_ss : width_of (codes "{\\ss}") ≡ 500
width_of_ss = refl

width_of_more : width_of (codes "{\\ss {a}\\AA b}{}") ≡ 500 + 500 + 750 + 556 + 1000
unfolding widths
width_of_more = refl

table_length : length widths ≡ 95
unfolding widths
table_length = refl

counted : text_length_of (codes "{\\'e}b{cd}") ≡ 4
counted = refl

prefixed : text_prefix_of (codes "{\\'e}b{cd}") (pos 3) ≡ codes "{\\'e}b{c}"
prefixed = refl

prefixed_short : text_prefix_of (codes "a{{\\'e") (pos 9) ≡ codes "a{{\\'e}}"
prefixed_short = refl

prefixed_zero : text_prefix_of (codes "{a") (pos 0) ≡ []
prefixed_zero = refl

cut : substring_of (codes "abcde") (negsuc 1) (pos 3) ≡ codes "bcd"
cut = refl

cut_at_zero : substring_of (codes "abcde") (pos 0) (pos 3) ≡ []
cut_at_zero = refl

cut_outside : substring_of (codes "abcde") (negsuc 5) (pos 3) ≡ []
cut_outside = refl

cut_at_last : substring_of (codes "abcde") (pos 5) (pos 3) ≡ codes "e"
cut_at_last = refl

ended_already : with_period (codes "a.}") ≡ codes "a.}"
ended_already = refl

ended_by_brace : with_period (codes "}") ≡ codes "}."
ended_by_brace = refl

-- letters alone stay one line
seventy_nine : broken (replicate 79 97) ≡ record { lines = []; held = replicate 79 97 }
unfolding near_break
seventy_nine = refl

eighty : broken (replicate 80 97) ≡ record { lines = []; held = replicate 80 97 }
unfolding near_break
eighty = refl

broken_at_forty : broken (replicate 40 97 ++ codes " " ++ replicate 39 98 ++ codes " c") ≡ record { lines = replicate 40 97 ∷ []; held = codes "  " ++ replicate 39 98 ++ codes " c" }
unfolding near_break
broken_at_forty = refl

three_spaces : ended_lines (codes "   ") ≡ []
three_spaces = refl

nothing_held : ended_lines [] ≡ [] ∷ []
nothing_held = refl

broken_at_seventy_nine : broken (replicate 79 97 ++ codes " b") ≡ record { lines = replicate 79 97 ∷ []; held = codes "  b" }
unfolding near_break
broken_at_seventy_nine = refl

no_break_place : broken (codes "ab " ++ replicate 80 99) ≡ record { lines = []; held = codes "ab " ++ replicate 80 99 }
unfolding near_break
no_break_place = refl

broken_behind : broken (codes "ab " ++ replicate 80 99 ++ codes "  d") ≡ record { lines = (codes "ab " ++ replicate 80 99) ∷ []; held = codes "  d" }
unfolding near_break
broken_behind = refl

white_made_one_space : white_joined (codes "\n\ta \r b  ") ≡ codes " a b "
white_made_one_space = refl

white_trimmed : trimmed_end (codes " a b \t") ≡ codes " a b"
white_trimmed = refl

folded_letters : folded (codes "CrossRef[Z") ≡ codes "crossref[z"
folded_letters = refl

same_but_for_case : is_same_folded (codes "KeY") (codes "kEy") ≡ true
same_but_for_case = refl

name_before_sign : name_at_start (codes "ab:1@ = c") ≡ codes "ab:1@"
name_before_sign = refl

no_name_with_digit : name_at_start (codes "1a") ≡ []
no_name_with_digit = refl

name_of_built_in : is_name (codes "entry.max$") ≡ true
name_of_built_in = refl

written_twice : written (replicate 79 97) (codes " b") ≡ record { lines = replicate 79 97 ∷ []; held = codes "  b" }
unfolding near_break
written_twice = refl

ended_with_white : line_ended (codes " a \t") ≡ record { lines = codes " a" ∷ []; held = [] }
ended_with_white = refl
