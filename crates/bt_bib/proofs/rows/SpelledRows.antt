-- Each rule of the spelling at a literal text.
use Rattle.std.specs.Prelude.{◌≡◌, ℕ, true, List, [], ◌∷◌, codes, Some, refl}
use Rattle.bt_text.specs.ByteTests.{right_brace}
use Rattle.bt_bib.specs.declared.spot.Spot.{Spot}
use Rattle.bt_bib.specs.declared.item.Closing.TheVariants.{Brace, Parenthesis}
use Rattle.bt_bib.specs.declared.item.Part.TheVariants.{Text, Macro}
use Rattle.bt_bib.specs.declared.item.Field.{Field}
use Rattle.bt_bib.specs.declared.item.Content.{Content}
use Rattle.bt_bib.specs.declared.item.Content.TheVariants as contents
use Rattle.bt_bib.specs.declared.item.Piece.TheVariants as pieces
use Rattle.bt_bib.specs.declared.placed_pieces.PlacedPiece.{PlacedPiece}
use Rattle.bt_bib.specs.Spot.{start}
use Rattle.bt_bib.specs.BibText.{pieces_of}
use Rattle.bt_bib.specs.laws.Spelling.{Both, This, That, Written, IsEnclosed, Nothing, Byte, Group}
use Rattle.bt_bib.specs.laws.Spelled.{is_number, PartOf, ValueOf, FieldOf, FieldsOf, ItemOf, AnEntry, AString, APreamble, DatabaseOf, whole}
use Rattle.bt_bib.proofs.laws.SpelledDatabaseLemmas.{spelled_databases_are_read}

-- a place of the first line
abbrev spot : ℕ → Spot
spot place = record { place = place; line = 1 }

-- Enclosed texts

pair : IsEnclosed right_brace (codes "a{\"}")
pair = Byte refl refl (Group {inner = codes "\""} (Byte refl refl Nothing) Nothing)

quote_in_braces : IsEnclosed 34 (codes "a{\"}b")
quote_in_braces = Byte refl refl (Group {inner = codes "\""} (Byte refl refl Nothing) (Byte refl refl Nothing))

-- Parts

text_in_braces : PartOf (Text (codes "a{\"}")) start (codes "{a{\"}}")
text_in_braces = This (Both (Written tt) (Both (Written pair) (Written tt)))

text_in_quotes : PartOf (Text (codes "a{\"}b")) start (codes "\"a{\"}b\"")
text_in_quotes = That (This (Both (Written tt) (Both (Written quote_in_braces) (Written tt))))

digits : {n : List ℕ} {s : Spot} → is_number n ≡ true → PartOf (Text n) s n
digits is = That (That (Written is))

number : PartOf (Text (codes "1997")) start (codes "1997")
number = digits refl

macro_name : PartOf (Macro (codes "jan") 1) start (codes "jan")
macro_name = (refl, Written refl)

-- Values

value_of_two : ValueOf (Text (codes "1") ∷ Macro (codes "jan") 2 ∷ []) start (codes "1 #\njan")
value_of_two = Both (digits refl) (Both {front = codes " "} refl (Both (Written tt) (Both {front = codes "\n"} refl (refl, Written refl))))

-- Fields

abbrev year : ℕ → Field
year line = record { name = codes "year"; line = line; value = Text (codes "1") ∷ [] }

one_field : FieldOf (year 1) start (codes "year = 1")
one_field = (refl, Both (Written refl) (Both {front = codes " "} refl (Both (Written tt) (Both {front = codes " "} refl (digits refl)))))

no_fields : FieldsOf Brace [] start (codes "}")
no_fields = This (Written tt)

last_comma : FieldsOf Parenthesis [] start (codes ", )")
last_comma = That (Both (Written tt) (Both {front = codes " "} refl (Written tt)))

some_fields : FieldsOf Brace (year 1 ∷ []) start (codes ",year=1 }")
some_fields = Both (Written tt) (Both {front = []} refl (Both (refl, Both (Written refl) (Both {front = []} refl (Both (Written tt) (Both {front = []} refl (digits refl))))) (Both {front = codes " "} refl (This (Written tt)))))

-- Items

abbrev entry : List ℕ → List ℕ → List Field → Content
entry kind key fields = contents.Entry (record { kind = Some kind; key = Some key; fields = fields })

-- on the second line
an_entry : ItemOf (whole 1 (entry (codes "misc") (codes "a") (year 1 ∷ [])) Brace) (codes "@misc{\na,year = 1}")
an_entry = AnEntry (Both (Written tt) (Both {front = []} refl (Both (Written (refl, refl)) (Both {front = []} refl (Both (Written tt) (Both {front = codes "\n"} refl (refl, Both (Written refl) (refl, Both {front = []} refl (Both (Written tt) (Both {front = []} refl (Both (refl, Both (Written refl) (Both {front = codes " "} refl (Both (Written tt) (Both {front = codes " "} refl (digits refl))))) (Both {front = []} refl (This (Written tt))))))))))))))

-- An empty key comes after the white space, and a key in parentheses may contain a right parenthesis.
an_empty_key : ItemOf (whole 0 (entry (codes "Misc") [] []) Brace) (codes "@Misc{ }")
an_empty_key = AnEntry (Both (Written tt) (Both {front = []} refl (Both (Written (refl, refl)) (Both {front = []} refl (Both (Written tt) (Both {front = codes " "} refl (refl, (refl, This (Written tt)))))))))

in_parentheses : ItemOf (whole 0 (entry (codes "misc") (codes "a)") []) Parenthesis) (codes "@misc(a),)")
in_parentheses = AnEntry (Both (Written tt) (Both {front = []} refl (Both (Written (refl, refl)) (Both {front = []} refl (Both (Written tt) (Both {front = []} refl (refl, Both (Written refl) (refl, Both {front = []} refl (That (Both (Written tt) (Both {front = []} refl (Written tt))))))))))))

a_string : ItemOf (whole 0 (contents.Define (record { name = Some (codes "m"); value = Some (Text (codes "1") ∷ []) })) Brace) (codes "@String {m = 1}")
a_string = AString {word = codes "String"} (Both (Written tt) (Both {front = []} refl (Both (Written (refl, refl)) (Both {front = codes " "} refl (Both (Written tt) (Both {front = []} refl (refl, Both (Written refl) (Both {front = codes " "} refl (Both (Written tt) (Both {front = codes " "} refl (Both (digits refl) (Both {front = []} refl (Written tt)))))))))))))

a_preamble : ItemOf (whole 0 (contents.Preamble (Some (Text (codes "1") ∷ []))) Parenthesis) (codes "@preamble(1)")
a_preamble = APreamble {word = codes "preamble"} (Both (Written tt) (Both {front = []} refl (Both (Written (refl, refl)) (Both {front = []} refl (Both (Written tt) (Both {front = []} refl (Both (digits refl) (Both {front = []} refl (Written tt)))))))))

-- Databases: text, a comment whose braces hold an item, and text again

abbrev of_database : List PlacedPiece
of_database = record { start = spot 2; end = spot 10; piece = pieces.Comment } ∷ record { start = spot 11; end = spot 23; piece = pieces.Item (whole 0 (contents.Preamble (Some (Text (codes "1") ∷ []))) Parenthesis) } ∷ []

a_database : DatabaseOf of_database start (codes "x @comment{@preamble(1)} y")
a_database = Both {front = codes "x "} refl (Both {front = codes "@comment"} (refl, refl, Both (Written tt) (Both {front = []} refl (refl, refl))) (refl, Both {front = codes "{"} refl (Both {front = codes "@preamble(1)"} (refl, refl, a_preamble) (tt, refl))))

it_is_read : pieces_of (codes "x @comment{@preamble(1)} y") ≡ of_database
it_is_read = spelled_databases_are_read of_database (codes "x @comment{@preamble(1)} y") a_database
