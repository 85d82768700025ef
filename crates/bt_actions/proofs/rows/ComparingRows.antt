-- The functions that look at values of several kinds, at worked values.
use Rattle.std.specs.Prelude.{pos, [], ◌∷◌, codes, refl}
use Rattle.bt_style.specs.declared.style.Target.TheVariants as target
use Rattle.bt_style.specs.declared.builtin.Builtin.TheVariants as builtin
use Rattle.bt_style.specs.Tree.{End}
use Rattle.bt_actions.specs.Item.{Name, Block, Num, Txt, Fun, Missing}
use Rattle.bt_actions.proofs.rows.RowWorlds.{no_value, Leaves, LeavesWithErrors}

-- 7 7 =
equal_numbers_row : Leaves builtin.Equals (Num (pos 7) ∷ Num (pos 7) ∷ []) (Num (pos 1) ∷ [])
equal_numbers_row = refl

-- "a" "b" =
equal_texts_row : Leaves builtin.Equals (Txt (codes "b") ∷ Txt (codes "a") ∷ []) (Num (pos 0) ∷ [])
equal_texts_row = refl

-- "ab" "ab" =
equal_same_row : Leaves builtin.Equals (Txt (codes "ab") ∷ Txt (codes "ab") ∷ []) (Num (pos 1) ∷ [])
equal_same_row = refl

-- a number and a text
equal_kinds_row : LeavesWithErrors builtin.Equals (Txt (codes "a") ∷ Num (pos 7) ∷ []) (Num (pos 0) ∷ []) (codes "= got a value of the wrong kind" ∷ [])
equal_kinds_row = refl

-- two functions
equal_functions_row : LeavesWithErrors builtin.Equals (Fun (Block End) ∷ Fun (Name (target.Builtin builtin.Skip)) ∷ []) (Num (pos 0) ∷ []) (codes "= got a value of the wrong kind" ∷ [])
equal_functions_row = refl

-- = on the empty stack
equal_empty_row : LeavesWithErrors builtin.Equals [] (Num (pos 0) ∷ []) (no_value ∷ no_value ∷ [])
equal_empty_row = refl

-- a function alone under =
equal_one_row : LeavesWithErrors builtin.Equals (Fun (Block End) ∷ []) (Num (pos 0) ∷ []) (no_value ∷ [])
equal_one_row = refl

-- a missing field is empty
empty_missing_row : Leaves builtin.Empty (Missing 0 ∷ []) (Num (pos 1) ∷ [])
empty_missing_row = refl

-- white space is empty
empty_white_row : Leaves builtin.Empty (Txt (codes "  ") ∷ []) (Num (pos 1) ∷ [])
empty_white_row = refl

-- a letter is not
empty_not_row : Leaves builtin.Empty (Txt (codes " a") ∷ []) (Num (pos 0) ∷ [])
empty_not_row = refl

-- empty$ of a number
empty_wrong_row : LeavesWithErrors builtin.Empty (Num (pos 1) ∷ []) (Num (pos 0) ∷ []) (codes "empty$ got a value of the wrong kind" ∷ [])
empty_wrong_row = refl

-- a missing field
missing_row : Leaves builtin.Missing (Missing 0 ∷ []) (Num (pos 1) ∷ [])
missing_row = refl

-- an empty text is not missing
missing_not_row : Leaves builtin.Missing (Txt [] ∷ []) (Num (pos 0) ∷ [])
missing_not_row = refl

-- missing$ of a function
missing_wrong_row : LeavesWithErrors builtin.Missing (Fun (Name (target.Function 0)) ∷ []) (Num (pos 0) ∷ []) (codes "missing$ got a value of the wrong kind" ∷ [])
missing_wrong_row = refl
