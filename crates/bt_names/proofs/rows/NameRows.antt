-- The definitions on worked examples.
use Rattle.std.specs.Prelude.{ℕ, ◌≡◌, List, [], ◌∷◌, length, Some, Result, Ok, Err, refl, codes, pos, negsuc}
use Rattle.bt_names.specs.declared.faults.FormatFault.{FormatFault}
use Rattle.bt_names.specs.declared.faults.FormatFault.TheVariants.{NoSuchName, TooManyCommas, PatternFault}
use Rattle.bt_names.specs.declared.faults.NameFault.TheVariants.{TooManyCommas as too_many}
use Rattle.bt_names.specs.Names.{has_and_at, names_of}
use Rattle.bt_names.specs.FormattedName.{formatted_name}
use Rattle.bt_names.specs.inner.Cases.{formatted_or_fault, name_parts_or_fault}

-- the whole text as a name, in a pattern
abbrev formatted : List ℕ → List ℕ → Result (List ℕ) FormatFault
formatted name pattern = formatted_or_fault pattern (Some name)

four_parts : formatted (codes "Charles Louis Xavier Joseph de la Vall{\\'e}e Poussin") (codes "{vv~}{ll}{, jj}{, f.}") ≡ Ok (codes "de~la Vall{\\'e}e~Poussin, C. L. X.~J.")
four_parts = refl

none_in_nothing : length (names_of []) ≡ 0
unfolding names_of
none_in_nothing = refl

two_names : names_of (codes "A and B") ≡ codes "A " ∷ codes " B" ∷ []
unfolding has_and_at names_of
two_names = refl

three_names : length (names_of (codes "A and and B")) ≡ 3
unfolding has_and_at names_of
three_names = refl

one_name : length (names_of (codes "A {and} B")) ≡ 1
unfolding has_and_at names_of
one_name = refl

in_any_case : names_of (codes "A aNd B AND") ≡ codes "A " ∷ codes " B AND" ∷ []
unfolding has_and_at names_of
in_any_case = refl

knuth : formatted (codes "Donald E. Knuth") (codes "{ff~}{vv~}{ll}{, jj}") ≡ Ok (codes "Donald~E. Knuth")
knuth = refl

sartre : formatted (codes "Jean-Paul Sartre") (codes "{f.~}{ll}") ≡ Ok (codes "J.-P. Sartre")
sartre = refl

beethoven : formatted (codes "von Beethoven, Ludwig") (codes "{vv~}{ll}, {f.}") ≡ Ok (codes "von Beethoven, L.")
beethoven = refl

king : formatted (codes "King, Jr, Martin Luther") (codes "{ll}{, jj}{, f.}") ≡ Ok (codes "King, Jr, M.~L.")
king = refl

slashed : formatted (codes "Donald Ervin Knuth") (codes "{ff{/}}") ≡ Ok (codes "Donald/Ervin")
slashed = refl

too_many_commas : formatted (codes "A, B, C, D") (codes "{ll}") ≡ Err TooManyCommas
too_many_commas = refl

second_letter : formatted (codes "A") (codes "{ff x}") ≡ Err (PatternFault 4)
second_letter = refl

unclosed : formatted (codes "A") (codes "{ff") ≡ Err (PatternFault 3)
unclosed = refl

stray_brace : formatted (codes "A") (codes "}") ≡ Err (PatternFault 0)
stray_brace = refl

stray_behind : formatted (codes "A") (codes "{ll}ab}") ≡ Err (PatternFault 6)
stray_behind = refl

other_letter : formatted (codes "A") (codes "{ll}{{x}xl") ≡ Err (PatternFault 8)
other_letter = refl

hyphens : formatted (codes "A B-C") (codes "{f}:{ll}") ≡ Ok (codes "A:B-C")
hyphens = refl

ties_at_ends : formatted (codes "A B") (codes "{f~}{ll~~}{~}{12~}{123~}{123~~}{~~~}") ≡ Ok (codes "A~B~~12~123 123~~~")
ties_at_ends = refl

links : formatted (codes "Aa Bb Cc~Dd Ee Ff Gg") (codes "{f}:{F.}:{1fF}:{123f}:{f{}}:{f{{-}}}") ≡ Ok (codes "A.~B. C.~D. E.~F:A.~B. C.~D. E.~F.:1Aa Bb Cc~Dd Ee~Ff:123A. B. C.~D. E.~F:ABCDEF:A{-}B{-}C{-}D{-}E{-}F")
links = refl

initials : formatted (codes "X, {\\'E}a {b}c 1d {{\\'e}f} 12 x") (codes "{f{ }}") ≡ Ok (codes "{\\'E} b d {\\'e}  x")
initials = refl

vons : formatted (codes "Aa b {C} d Ee {\\oe}F {\\'{E}}e G h") (codes "{ff{;}}/{vv{;}}/{ll{;}}") ≡ Ok (codes "Aa/b;{C};d;Ee;{\\oe}F/{\\'{E}}e;G;h")
vons = refl

jr : formatted (codes "de La Aa,, Bb") (codes "{ff}/{vv}/{ll}/{jj}") ≡ Ok (codes "Bb/de/La~Aa/")
jr = refl

empty_sections : formatted (codes ", ,Bb Cc") (codes "{ff}/{vv}/{ll}/{jj}") ≡ Ok (codes "Bb~Cc///")
empty_sections = refl

-- The faults come in this order.
no_name_first : formatted_name [] (pos 1) (codes "}") ≡ Err NoSuchName
unfolding formatted_name names_of
no_name_first = refl

commas_before_pattern : formatted (codes "A, B, C, D") (codes "}") ≡ Err TooManyCommas
commas_before_pattern = refl

second_of_two : formatted_name (codes "A and B") (pos 2) (codes "{ll}") ≡ Ok (codes "B")
unfolding has_and_at formatted_name names_of
second_of_two = refl

-- one white byte between two separators
shared_white : names_of (codes "A and and B") ≡ codes "A " ∷ codes " " ∷ codes " B" ∷ []
unfolding has_and_at names_of
shared_white = refl

none_at_the_ends : names_of (codes "and A and") ≡ codes "and A and" ∷ []
unfolding has_and_at names_of
none_at_the_ends = refl

-- a name is counted from 1
none_before_the_first : formatted_name (codes "A") (pos 0) (codes "}") ≡ Err NoSuchName
unfolding formatted_name names_of
none_before_the_first = refl

none_below_zero : formatted_name (codes "A") (negsuc 0) (codes "}") ≡ Err NoSuchName
unfolding formatted_name names_of
none_below_zero = refl

stray_and_open_braces : name_parts_or_fault (Some (codes "A}a {Bb, Cc Dd")) ≡ Ok (record {
  first = record { text = codes "Aa"; before = 0 } ∷ [];
  von = [];
  last = record { text = codes "{Bb, Cc Dd"; before = 32 } ∷ [];
  jr = [];
})
stray_and_open_braces = refl

three_parts : name_parts_or_fault (Some (codes "de la Aa, Jr, Bb-Cc")) ≡ Ok (record {
  first = record { text = codes "Bb"; before = 44 } ∷ record { text = codes "Cc"; before = 45 } ∷ [];
  von = record { text = codes "de"; before = 0 } ∷ record { text = codes "la"; before = 32 } ∷ [];
  last = record { text = codes "Aa"; before = 32 } ∷ [];
  jr = record { text = codes "Jr"; before = 44 } ∷ [];
})
three_parts = refl

four_sections : name_parts_or_fault (Some (codes "A,,,")) ≡ Err too_many
four_sections = refl

own_text_between : formatted_name (codes "Donald Ervin Knuth") (pos 1) (codes "{ff{/}}") ≡ Ok (codes "Donald/Ervin")
unfolding has_and_at formatted_name names_of
own_text_between = refl
