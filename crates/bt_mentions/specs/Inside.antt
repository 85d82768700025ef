-- Where a place of an item is, after its key or its macro's name.
use Rattle.std.specs.Prelude.{ℕ, ◌+◌, ◌-◌, ◌==◌, ◌&&◌, not, nat_lt, Bool, true, false, if◌then◌else◌, List, Option, Some, None}
use Rattle.std.specs.List.{fold}
use Rattle.std.specs.Char.{to_ascii_lowercase}
use Rattle.bt_text.specs.ByteTests.{is_digit, is_white}
use Rattle.bt_text.specs.NameBytes.{is_name_byte}
use Rattle.bt_mentions.specs.declared.inside.Inside.{Inside}
use Rattle.bt_mentions.specs.declared.inside.Inside.TheVariants.{Name, Value, Braced, Quoted}
use Rattle.bt_mentions.specs.declared.mention.Role.{Role}
use Rattle.bt_mentions.specs.declared.mention.Role.TheVariants.{Key, Crossref, Number, Citation, Definition, Macro}

-- how many letters of `crossref` have been found after one more byte of a name, without case; 9 for another name
abbrev pub letter_after : ℕ → ℕ → ℕ
letter_after found byte =
    let letter = to_ascii_lowercase byte in
    if (found == 0) && (letter == 99) then 1 else
    (if (found == 1) && (letter == 114) then 2 else
    (if (found == 2) && (letter == 111) then 3 else
    (if (found == 3) && (letter == 115) then 4 else
    (if (found == 4) && (letter == 115) then 5 else
    (if (found == 5) && (letter == 114) then 6 else
    (if (found == 6) && (letter == 101) then 7 else
    (if (found == 7) && (letter == 102) then 8 else 9)))))))

-- after one more byte of a field's name, or around it
abbrev pub name_after : ℕ → ℕ → Inside
name_after found byte =
    if byte == 61 then Value (found == 8) else
    (if byte == 44 then Name 0 else
    (if is_name_byte byte then Name (letter_after found byte) else Name found))

-- after one more byte of a value, outside of braces and quotes; after a `#` no part of it is the whole value
abbrev pub value_after : Bool → ℕ → Inside
value_after is_crossref byte =
    if byte == 123 then Braced is_crossref 0 else
    (if byte == 34 then Quoted is_crossref 0 else
    (if byte == 44 then Name 0 else
    (if byte == 35 then Value false else Value is_crossref)))

-- after one more left brace; more than 2 ^ 32 don't count
abbrev pub deeper : ℕ → ℕ
deeper depth = if nat_lt depth 4294967296 then depth + 1 else depth

-- after one more byte in braces of a value
abbrev pub braced_after : Bool → ℕ → ℕ → Inside
braced_after is_crossref depth byte =
    if byte == 123 then Braced is_crossref (deeper depth) else
    (if byte == 125 then (if depth == 0 then Value false else Braced is_crossref (depth - 1))
    else Braced is_crossref depth)

-- after one more byte in quotes of a value
abbrev pub quoted_after : Bool → ℕ → ℕ → Inside
quoted_after is_crossref depth byte =
    if byte == 123 then Quoted is_crossref (deeper depth) else
    (if byte == 125 then Quoted is_crossref (depth - 1) else
    (if (byte == 34) && (depth == 0) then Value false else Quoted is_crossref depth))

-- after one more byte
abbrev pub inside_after : Inside → ℕ → Inside
inside_after (Name found) byte = name_after found byte
inside_after (Value is_crossref) byte = value_after is_crossref byte
inside_after (Braced is_crossref depth) byte = braced_after is_crossref depth byte
inside_after (Quoted is_crossref depth) byte = quoted_after is_crossref depth byte

-- where these bytes end, which follow an item's opening sign
abbrev pub inside_behind : List ℕ → Inside
inside_behind text = fold inside_after (Name 9) text

-- what a byte of a value is a part of, outside of braces and quotes
abbrev pub value_role : Bool → ℕ → Option Role
value_role is_crossref byte =
    if is_crossref && is_digit byte then Some Number else (if is_name_byte byte then Some Macro else None)

-- what a byte in braces or quotes is a part of, which this byte closes
abbrev pub enclosed_role : Bool → ℕ → ℕ → ℕ → Option Role
enclosed_role is_crossref depth close byte =
    if is_crossref && not (is_white byte) && not ((byte == close) && (depth == 0)) then Some Crossref else None

-- what a byte at such a place is a part of
abbrev pub inside_role : Inside → ℕ → Option Role
inside_role (Name found) byte = None
inside_role (Value is_crossref) byte = value_role is_crossref byte
inside_role (Braced is_crossref depth) byte = enclosed_role is_crossref depth 125 byte
inside_role (Quoted is_crossref depth) byte = enclosed_role is_crossref depth 34 byte

-- whether a place is in braces or quotes
abbrev pub is_enclosed : Inside → Bool
is_enclosed (Name found) = false
is_enclosed (Value is_crossref) = false
is_enclosed (Braced is_crossref depth) = true
is_enclosed (Quoted is_crossref depth) = true

-- whether a `crossref` field names a parent here
abbrev pub is_parent : Role → Bool
is_parent Key = false
is_parent Crossref = true
is_parent Number = true
is_parent Citation = false
is_parent Definition = false
is_parent Macro = false
