-- Where the entries of a database have their keys.
use Rattle.std.specs.Prelude.{ℕ, suc, ◌+◌, ◌==◌, ◌&&◌, not, min, Bool, if◌then◌else◌, List, [], ◌∷◌, ◌++◌, take, drop, length, codes, Option, Some, None}
use Rattle.std.specs.List.{cons_option, prefix_len}
use Rattle.bt_text.specs.ByteTests.{is_white}
use Rattle.bt_text.specs.CaseFolding.{is_same_folded}
use Rattle.bt_mentions.specs.declared.mention.Role.TheVariants.{Key}
use Rattle.bt_mentions.specs.declared.mention.Mention.{Mention}
use Rattle.bt_mentions.specs.Databases.{is_opening}

-- whether a byte can belong to an entry's type
abbrev pub is_type_byte : ℕ → Bool
is_type_byte b =
    not (is_white b) && not (b == 64) && not (b == 123) && not (b == 40) && not (b == 125) && not (b == 44)

-- whether a byte can belong to a key
abbrev pub is_plain_key_byte : ℕ → Bool
is_plain_key_byte b = not (is_white b) && not (b == 44) && not (b == 125)

-- whether entries can have a type
abbrev pub is_entry_type : List ℕ → Bool
is_entry_type name =
    not (length name == 0) && not (is_same_folded name (codes "string")) &&
    not (is_same_folded name (codes "preamble")) && not (is_same_folded name (codes "comment"))

-- how many bytes follow an `@` up to a key, if this text follows its entry's type and white space
abbrev pub opened : List ℕ → ℕ → List ℕ → Option ℕ
opened name space [] = None
opened name space (sign ∷ inside) =
    if is_opening sign && is_entry_type name then Some (length name + space + 1 + prefix_len is_white inside) else None

-- how many bytes follow an `@` up to a key, if an entry begins there: a type, an opening sign, and white space around it
abbrev pub before_key : List ℕ → Option ℕ
before_key text =
    let count = prefix_len is_type_byte text in
    let rest = drop count text in
    opened (take count text) (prefix_len is_white rest) (drop (prefix_len is_white rest) rest)

-- the key that a text at a place begins with, of which at most 250 bytes are looked at
abbrev pub key_after : List ℕ → ℕ → Mention
key_after text place =
    record { from = place; to = place + prefix_len is_plain_key_byte (take (min (length text) 250) text); role = Key }

-- the key of the entry that begins with an `@` before this text, if one does
abbrev pub entry_key : List ℕ → ℕ → Option Mention
entry_key text place = elim (before_key text) [ None ↦ None | Some count ↦ Some (key_after (drop count text) (place + count)) ]

-- these mentions, and the key after a byte, if the byte is an `@` with which an entry begins
abbrev pub with_entry_key : List Mention → ℕ → List ℕ → ℕ → List Mention
with_entry_key found byte text place = if byte == 64 then found ++ cons_option (entry_key text place) [] else found

-- these mentions, and the keys of a text at a place
abbrev pub with_entry_keys : List Mention → ℕ → List ℕ → List Mention
with_entry_keys found place [] = found
with_entry_keys found place (b ∷ t) = with_entry_keys (with_entry_key found b t (suc place)) (suc place) t

-- the keys of a database's entries, in order
abbrev pub entry_keys : List ℕ → List Mention
entry_keys text = with_entry_keys [] 0 text
