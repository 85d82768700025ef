-- The width of a text.
use Rattle.std.specs.Prelude.{ℕ, ◌-◌, nat_lt, if◌then◌else◌, List, [], ◌∷◌, slice_index, sum_by, bytes_eq, codes}
use Rattle.bt_text.specs.ByteTests.{is_brace}
use Rattle.bt_text.specs.Pieces.{Piece, brace, other, pieces, special}
use Rattle.bt_text.specs.Special.{Symbol, control, letters_of, plain, symbols}

-- the widths of the bytes from 32, the space, to 126, the tie
unfoldable pub widths : List ℕ
widths =
    278 ∷ 278 ∷ 500 ∷ 833 ∷ 500 ∷ 833 ∷ 778 ∷ 278 ∷ 389 ∷
    389 ∷ 500 ∷ 778 ∷ 278 ∷ 333 ∷ 278 ∷ 500 ∷
    500 ∷ 500 ∷ 500 ∷ 500 ∷ 500 ∷ 500 ∷ 500 ∷ 500 ∷ 500 ∷ 500 ∷
    278 ∷ 278 ∷ 278 ∷ 778 ∷ 472 ∷ 472 ∷ 778 ∷
    750 ∷ 708 ∷ 722 ∷ 764 ∷ 681 ∷ 653 ∷ 785 ∷ 750 ∷ 361 ∷
    514 ∷ 778 ∷ 625 ∷ 917 ∷ 750 ∷ 778 ∷ 681 ∷ 778 ∷ 736 ∷
    556 ∷ 722 ∷ 750 ∷ 750 ∷ 1028 ∷ 750 ∷ 750 ∷ 611 ∷
    278 ∷ 500 ∷ 278 ∷ 500 ∷ 278 ∷ 278 ∷
    500 ∷ 556 ∷ 444 ∷ 556 ∷ 444 ∷ 306 ∷ 500 ∷ 556 ∷ 278 ∷
    306 ∷ 528 ∷ 278 ∷ 833 ∷ 556 ∷ 500 ∷ 556 ∷ 528 ∷ 392 ∷
    394 ∷ 389 ∷ 556 ∷ 528 ∷ 722 ∷ 528 ∷ 528 ∷ 444 ∷
    500 ∷ 1000 ∷ 500 ∷ 500 ∷ []

-- Bytes outside the table have no width.
abbrev pub byte_width : ℕ → ℕ
byte_width b = if nat_lt b 32 then 0 else slice_index widths (b - 32)

-- The five foreign letters of two letters have widths of their own, the others that of their first letter.
abbrev pub control_width : List ℕ → ℕ
control_width name =
    if bytes_eq name (codes "ss") then 500 else
    (if bytes_eq name (codes "ae") then 722 else
    (if bytes_eq name (codes "oe") then 778 else
    (if bytes_eq name (codes "AE") then 903 else
    (if bytes_eq name (codes "OE") then 1014 else
    sum_by byte_width (letters_of name)))))

-- In a special character braces, and white space after a control sequence, have no width.
abbrev pub symbol_width : Symbol → ℕ
symbol_width (control name gap) = control_width name
symbol_width (plain b) = if is_brace b then 0 else byte_width b

abbrev pub piece_width : Piece → ℕ
piece_width (special s) = sum_by symbol_width (symbols s)
piece_width (brace b) = byte_width b
piece_width (other b) = byte_width b

abbrev pub width_of : List ℕ → ℕ
width_of t = sum_by piece_width (pieces t)
