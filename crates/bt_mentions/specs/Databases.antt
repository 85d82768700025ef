-- The mentions of a database.
use Rattle.std.specs.Prelude.{ℕ, suc, ◌+◌, ◌==◌, ◌||◌, min, Bool, if◌then◌else◌, List, [], ◌∷◌, ◌++◌, take, drop, length, take_while, false, Option, Some, None}
use Rattle.std.specs.List.{fold}
use Rattle.bt_text.specs.ByteTests.{is_white}
use Rattle.bt_bib.specs.BibText.{pieces_of}
use Rattle.bt_bib.specs.declared.item.Content.{Content}
use Rattle.bt_bib.specs.declared.item.Content.TheVariants.{Entry, Define, Preamble}
use Rattle.bt_bib.specs.declared.item.Piece.{Piece}
use Rattle.bt_bib.specs.declared.item.Piece.TheVariants.{Comment, Item}
use Rattle.bt_bib.specs.declared.placed_pieces.PlacedPiece.{PlacedPiece}
use Rattle.bt_mentions.specs.declared.inside.Inside.{Inside}
use Rattle.bt_mentions.specs.declared.inside.Inside.TheVariants.{Name, Value}
use Rattle.bt_mentions.specs.declared.mention.Role.{Role}
use Rattle.bt_mentions.specs.declared.mention.Role.TheVariants.{Key, Definition}
use Rattle.bt_mentions.specs.declared.mention.Mention.{Mention}
use Rattle.bt_mentions.specs.declared.state.State.TheVariants.{Item as InItem}
use Rattle.bt_mentions.specs.Inside.{inside_behind}
use Rattle.bt_mentions.specs.Scan.{scan_after, all_found}

-- a part of a text, as far as the text reaches
abbrev pub part : ℕ → ℕ → List ℕ → List ℕ
part from to text =
    let front = take (min to (length text)) text in
    drop (min from (length front)) front

-- whether a byte opens an item
abbrev pub is_opening : ℕ → Bool
is_opening byte = (byte == 123) || (byte == 40)

-- how many bytes a text has up to its first opening sign, and with it; all of them if it has none
abbrev pub opening_len : List ℕ → ℕ
opening_len [] = 0
opening_len (b ∷ t) = if is_opening b then 1 else suc (opening_len t)

-- how many bytes of an item precede its key, its macro's name or its value
abbrev pub head_len : List ℕ → ℕ
head_len item = opening_len item + length (take_while is_white (drop (opening_len item) item))

-- where the first bytes of an item end
abbrev pub inside_item : List ℕ → Inside
inside_item front = inside_behind (drop (opening_len front) front)

-- these mentions, and those from one place of a text up to another; the state at the first is `begin`
abbrev pub with_value : List ℕ → ℕ → ℕ → Inside → List Mention → List Mention
with_value text from to begin found =
    let place = min from (length text) in
    all_found (fold scan_after (record { state = InItem begin; place = place; current = None; found = found })
    (part place to text))

-- the mention of a name that begins at a place
abbrev pub mention_of : List ℕ → ℕ → List ℕ → Role → Mention
mention_of text from name role =
    let begin = min from (length text) in
    record { from = begin; to = min (begin + length name) (length text); role = role }

-- these mentions, the mention of a name, and those after it
abbrev pub with_mention : List ℕ → ℕ → Mention → List Mention → List Mention
with_mention text to mention found = with_value text mention.to to (Name 9) (found ++ mention ∷ [])

-- the same for a name that may be missing
abbrev pub with_name_if_any : List ℕ → ℕ → ℕ → Option (List ℕ) → Role → List Mention → List Mention
with_name_if_any text from to None role found = found
with_name_if_any text from to (Some name) role found = with_mention text to (mention_of text from name role) found

-- these mentions, and those of what an item holds
abbrev pub with_content : List ℕ → ℕ → ℕ → Content → List Mention → List Mention
with_content text from to (Entry entry) found = with_name_if_any text from to entry.key Key found
with_content text from to (Define definition) found = with_name_if_any text from to definition.name Definition found
with_content text from to (Preamble value) found = with_value text from to (Value false) found

-- these mentions, and those of a piece between two places
abbrev pub with_placed : List ℕ → ℕ → ℕ → Piece → List Mention → List Mention
with_placed text start end Comment found = found
with_placed text start end (Item item) found =
    with_content text (start + head_len (part start end text)) end item.content found

-- these mentions, and those of a piece
abbrev pub with_piece : List ℕ → List Mention → PlacedPiece → List Mention
with_piece text found p = with_placed text (min p.start.place (length text)) p.end.place p.piece found

-- the mentions of a database, in order
abbrev pub mentions : List ℕ → List Mention
mentions text = fold (with_piece text) [] (pieces_of text)
