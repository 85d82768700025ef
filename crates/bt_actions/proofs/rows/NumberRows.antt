-- The functions on numbers at worked values.
use Rattle.std.specs.Prelude.{pos, negsuc, [], ◌∷◌, codes, refl}
use Rattle.bt_style.specs.declared.builtin.Builtin.TheVariants as builtin
use Rattle.std.specs.Fmt.{digits}
use Rattle.bt_actions.specs.Item.{Num, Txt}
use Rattle.bt_actions.proofs.rows.RowWorlds.{no_value, Leaves, LeavesWithErrors}

-- 3 2 >
greater_row : Leaves builtin.Greater (Num (pos 2) ∷ Num (pos 3) ∷ []) (Num (pos 1) ∷ [])
greater_row = refl

-- 2 2 >
greater_not_row : Leaves builtin.Greater (Num (pos 2) ∷ Num (pos 2) ∷ []) (Num (pos 0) ∷ [])
greater_not_row = refl

-- -3 -5 >
greater_negative_row : Leaves builtin.Greater (Num (negsuc 4) ∷ Num (negsuc 2) ∷ []) (Num (pos 1) ∷ [])
greater_negative_row = refl

-- 2 3 <
less_row : Leaves builtin.Less (Num (pos 3) ∷ Num (pos 2) ∷ []) (Num (pos 1) ∷ [])
less_row = refl

-- 3 -2 <
less_not_row : Leaves builtin.Less (Num (negsuc 1) ∷ Num (pos 3) ∷ []) (Num (pos 0) ∷ [])
less_not_row = refl

-- < on the empty stack
less_empty_row : LeavesWithErrors builtin.Less [] (Num (pos 0) ∷ []) (no_value ∷ no_value ∷ [])
less_empty_row = refl

-- a text under <
less_wrong_row : LeavesWithErrors builtin.Less (Num (pos 2) ∷ Txt (codes "t") ∷ []) (Num (pos 0) ∷ []) (codes "< got a value of the wrong kind" ∷ [])
less_wrong_row = refl

-- 2 3 +
plus_row : Leaves builtin.Plus (Num (pos 3) ∷ Num (pos 2) ∷ Num (pos 1) ∷ []) (Num (pos 5) ∷ Num (pos 1) ∷ [])
plus_row = refl

-- the greatest number
plus_most_row : Leaves builtin.Plus (Num (pos 1) ∷ Num (pos 2147483646) ∷ []) (Num (pos 2147483647) ∷ [])
plus_most_row = refl

-- a sum that does not fit
plus_past_row : LeavesWithErrors builtin.Plus (Num (pos 1) ∷ Num (pos 2147483647) ∷ []) (Num (pos 0) ∷ []) (codes "The result of + is out of range" ∷ [])
plus_past_row = refl

-- a sum below the least number
plus_below_row : LeavesWithErrors builtin.Plus (Num (negsuc 0) ∷ Num (negsuc 2147483647) ∷ []) (Num (pos 0) ∷ []) (codes "The result of + is out of range" ∷ [])
plus_below_row = refl

-- a text alone under +
plus_one_row : LeavesWithErrors builtin.Plus (Txt (codes "t") ∷ []) (Num (pos 0) ∷ []) (no_value ∷ codes "+ got a value of the wrong kind" ∷ [])
plus_one_row = refl

-- + on the empty stack
plus_empty_row : LeavesWithErrors builtin.Plus [] (Num (pos 0) ∷ []) (no_value ∷ no_value ∷ [])
plus_empty_row = refl

-- two texts are reported once
plus_two_wrong_row : LeavesWithErrors builtin.Plus (Txt (codes "u") ∷ Txt (codes "t") ∷ []) (Num (pos 0) ∷ []) (codes "+ got a value of the wrong kind" ∷ [])
plus_two_wrong_row = refl

-- 2 3 -
minus_row : Leaves builtin.Minus (Num (pos 3) ∷ Num (pos 2) ∷ []) (Num (negsuc 0) ∷ [])
minus_row = refl

-- a difference that does not fit
minus_past_row : LeavesWithErrors builtin.Minus (Num (pos 1) ∷ Num (negsuc 2147483647) ∷ []) (Num (pos 0) ∷ []) (codes "The result of - is out of range" ∷ [])
minus_past_row = refl

-- the byte A
chr_to_int_row : Leaves builtin.ChrToInt (Txt (codes "A") ∷ []) (Num (pos 65) ∷ [])
chr_to_int_row = refl

-- two bytes
chr_to_int_two_row : LeavesWithErrors builtin.ChrToInt (Txt (codes "AB") ∷ []) (Num (pos 0) ∷ []) (codes "\"AB\" isn't a single character" ∷ [])
chr_to_int_two_row = refl

-- no byte
chr_to_int_none_row : LeavesWithErrors builtin.ChrToInt (Txt [] ∷ []) (Num (pos 0) ∷ []) (codes "\"\" isn't a single character" ∷ [])
chr_to_int_none_row = refl

-- 65
int_to_chr_row : Leaves builtin.IntToChr (Num (pos 65) ∷ []) (Txt (codes "A") ∷ [])
int_to_chr_row = refl

-- 128
int_to_chr_past_row : LeavesWithErrors builtin.IntToChr (Num (pos 128) ∷ []) (Txt [] ∷ []) (codes "128 isn't valid ASCII" ∷ [])
unfolding digits
int_to_chr_past_row = refl

-- -1
int_to_chr_negative_row : LeavesWithErrors builtin.IntToChr (Num (negsuc 0) ∷ []) (Txt [] ∷ []) (codes "-1 isn't valid ASCII" ∷ [])
unfolding digits
int_to_chr_negative_row = refl

-- -12
int_to_str_row : Leaves builtin.IntToStr (Num (negsuc 11) ∷ []) (Txt (codes "-12") ∷ [])
unfolding digits
int_to_str_row = refl

-- 0
int_to_str_zero_row : Leaves builtin.IntToStr (Num (pos 0) ∷ []) (Txt (codes "0") ∷ [])
unfolding digits
int_to_str_zero_row = refl

-- int.to.str$ of a text
int_to_str_wrong_row : LeavesWithErrors builtin.IntToStr (Txt (codes "1") ∷ []) (Txt [] ∷ []) (codes "int.to.str$ got a value of the wrong kind" ∷ [])
int_to_str_wrong_row = refl
