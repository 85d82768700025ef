-- The bytes of keys.
use Rattle.std.specs.Prelude.{ℕ, ◌==◌, nat_lt, ◌&&◌, not, Bool}
use Rattle.bt_text.specs.ByteTests.{is_white}

-- whether a byte can belong to a key in any entry, `crossref` field and citation
abbrev pub is_key_byte : ℕ → Bool
is_key_byte b =
    nat_lt 32 b && not (b == 34) && not (b == 37) && not (b == 44) && not (b == 123) && not (b == 125)

-- whether a byte of a citation belongs to a key; in LaTeX a `%` begins a comment
abbrev pub is_cited_byte : Bool → ℕ → Bool
is_cited_byte in_latex b =
    not (is_white b) && not (b == 44) && not (b == 123) && not (b == 125) && not (in_latex && (b == 37))
