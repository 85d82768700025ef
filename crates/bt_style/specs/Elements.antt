-- The elements of a body that are words: numbers, quoted names and calls.
use Rattle.std.specs.Prelude.{ℕ, ◌-◌, ◌+◌, ◌*◌, ◌^◌, ◌==◌, nat_lt, if◌then◌else◌, List, [], ◌∷◌, length, drop, slice_index, ℤ, pos, neg_ℤ, Result, Ok}
use Rattle.std.specs.List.{take_while}
use Rattle.std.specs.Char.{is_ascii_digit}
use Rattle.bt_text.specs.ByteTests.{hyphen}
use Rattle.bt_style.specs.declared.fault.FaultKind.TheVariants.{NumberTooLarge, BadName, StrayByte}
use Rattle.bt_style.specs.declared.fault.StyleFault.{StyleFault}
use Rattle.bt_style.specs.Tree.{Element, Amount, Quoted, Called}
use Rattle.bt_style.specs.Program.{Program}
use Rattle.bt_style.specs.Fault.{fault, ◌>>=◌}
use Rattle.bt_style.specs.Declares.{target_of}

-- the number that these digits spell after others, which spell n
abbrev pub decimal : ℕ → List ℕ → ℕ
decimal n [] = n
decimal n (d ∷ digits) = decimal (n * 10 + (d - 48)) digits

-- the size of a number, at most this one: digits, and nothing after them
unfoldable pub size_at : ℕ → List ℕ → ℕ → Result ℕ StyleFault
size_at greatest bytes line =
    let digits = take_while is_ascii_digit bytes in
    let size = decimal 0 digits in
    if length digits == 0 then fault StrayByte line
    else if nat_lt greatest size then fault NumberTooLarge line
    else if length (drop (length digits) bytes) == 0 then Ok size else fault StrayByte line

-- a number, after its `#`
unfoldable pub number_at : List ℕ → ℕ → Result ℤ StyleFault
number_at bytes line =
    if slice_index bytes 0 == hyphen then (size_at (2 ^ 31) (drop 1 bytes) line >>= λ n. Ok (neg_ℤ (pos n)))
    else size_at (2 ^ 31 - 1) bytes line >>= λ n. Ok (pos n)

-- a quoted name, after its `'`
unfoldable pub quoted_at : Program → List ℕ → ℕ → Result Element StyleFault
quoted_at p bytes line =
    if length bytes == 0 then fault BadName line
    else target_of p bytes line >>= λ target. Ok (Quoted target)

-- a number after `#` (35), a quoted name after `'` (39), or a call
unfoldable pub word_element : Program → List ℕ → ℕ → Result Element StyleFault
word_element p word line =
    let first = slice_index word 0 in
    if first == 35 then (number_at (drop 1 word) line >>= λ n. Ok (Amount n))
    else if first == 39 then quoted_at p (drop 1 word) line
    else target_of p word line >>= λ target. Ok (Called target)
