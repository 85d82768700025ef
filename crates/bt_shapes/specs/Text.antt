-- Bytes as a text that an editor shows.
use Rattle.std.specs.Prelude.{ℕ, zero, suc, ◌==◌, if◌then◌else◌, List, ◌++◌, take, drop, length}
use Rattle.std.specs.Str.{encode_utf8_all}
use Rattle.std.specs.Str.Lossy.{utf8_valid_len, utf8_invalid_len, after_first_chunk}

-- the bytes of `as_utf8`, if what isn't UTF-8 stands in at most k places
abbrev pub as_utf8_within : ℕ → List ℕ → List ℕ
as_utf8_within zero bytes = bytes
as_utf8_within (suc k) bytes =
    let valid = utf8_valid_len bytes in
    let others = take (utf8_invalid_len (drop valid bytes)) (drop valid bytes) in
    if valid == length bytes then bytes
    else take valid bytes ++ (encode_utf8_all others ++ as_utf8_within k (after_first_chunk bytes))

-- these bytes as UTF-8: a byte that is part of no character becomes the letter that it is in Latin-1
unfoldable pub as_utf8 : List ℕ → List ℕ
as_utf8 bytes = as_utf8_within (length bytes) bytes
