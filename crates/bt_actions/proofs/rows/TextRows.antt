-- The functions on texts at worked values.
use Rattle.std.specs.Prelude.{pos, negsuc, [], ◌∷◌, codes, refl}
use Rattle.bt_style.specs.declared.builtin.Builtin.TheVariants as builtin
use Rattle.bt_text.specs.Widths.{widths}
use Rattle.bt_actions.specs.Item.{Num, Txt, Missing}
use Rattle.bt_actions.proofs.rows.RowWorlds.{no_value, Leaves, LeavesWithErrors}

-- "a" "b" *
join_row : Leaves builtin.Join (Txt (codes "b") ∷ Txt (codes "a") ∷ []) (Txt (codes "ab") ∷ [])
join_row = refl

-- a missing field under *
join_wrong_row : LeavesWithErrors builtin.Join (Missing 0 ∷ Txt (codes "a") ∷ []) (Txt [] ∷ []) (codes "* got a value of the wrong kind" ∷ [])
join_wrong_row = refl

-- "a" add.period$
period_row : Leaves builtin.AddPeriod (Txt (codes "a") ∷ []) (Txt (codes "a.") ∷ [])
period_row = refl

-- a sentence in a brace
period_in_braces_row : Leaves builtin.AddPeriod (Txt (codes "a.}") ∷ []) (Txt (codes "a.}") ∷ [])
period_in_braces_row = refl

-- add.period$ of a number
period_wrong_row : LeavesWithErrors builtin.AddPeriod (Num (pos 1) ∷ []) (Txt [] ∷ []) (codes "add.period$ got a value of the wrong kind" ∷ [])
period_wrong_row = refl

-- change.case$ by t
case_title_row : Leaves builtin.ChangeCase (Txt (codes "t") ∷ Txt (codes "A: B:C") ∷ []) (Txt (codes "A: B:c") ∷ [])
case_title_row = refl

-- change.case$ by U
case_upper_row : Leaves builtin.ChangeCase (Txt (codes "U") ∷ Txt (codes "ab") ∷ []) (Txt (codes "AB") ∷ [])
case_upper_row = refl

-- change.case$ by l
case_lower_row : Leaves builtin.ChangeCase (Txt (codes "l") ∷ Txt (codes "A{B}") ∷ []) (Txt (codes "a{B}") ∷ [])
case_lower_row = refl

-- change.case$ by another text
case_bad_row : LeavesWithErrors builtin.ChangeCase (Txt (codes "x") ∷ Txt (codes "Ab") ∷ []) (Txt (codes "Ab") ∷ []) (codes "\"x\" is an illegal case-conversion string" ∷ [])
case_bad_row = refl

-- change.case$ by two bytes
case_long_row : LeavesWithErrors builtin.ChangeCase (Txt (codes "tt") ∷ Txt (codes "Ab") ∷ []) (Txt (codes "Ab") ∷ []) (codes "\"tt\" is an illegal case-conversion string" ∷ [])
case_long_row = refl

-- change.case$ by a number
case_wrong_row : LeavesWithErrors builtin.ChangeCase (Num (pos 1) ∷ Txt (codes "Ab") ∷ []) (Txt [] ∷ []) (codes "change.case$ got a value of the wrong kind" ∷ [])
case_wrong_row = refl

-- purify$
purify_row : Leaves builtin.Purify (Txt (codes "d'Arc~x-1") ∷ []) (Txt (codes "dArc x 1") ∷ [])
purify_row = refl

-- purify$ of a missing field
purify_wrong_row : LeavesWithErrors builtin.Purify (Missing 0 ∷ []) (Txt [] ∷ []) (codes "purify$ got a value of the wrong kind" ∷ [])
purify_wrong_row = refl

-- quote$
quote_row : Leaves builtin.Quote [] (Txt (codes "\"") ∷ [])
quote_row = refl

-- substring$ from the end
substring_row : Leaves builtin.Substring (Num (pos 3) ∷ Num (negsuc 1) ∷ Txt (codes "abcde") ∷ []) (Txt (codes "bcd") ∷ [])
substring_row = refl

-- substring$ from the front
substring_front_row : Leaves builtin.Substring (Num (pos 9) ∷ Num (pos 2) ∷ Txt (codes "abcde") ∷ []) (Txt (codes "bcde") ∷ [])
substring_front_row = refl

-- a text for a number
substring_wrong_row : LeavesWithErrors builtin.Substring (Num (pos 3) ∷ Txt (codes "2") ∷ Txt (codes "abcde") ∷ []) (Txt [] ∷ []) (codes "substring$ got a value of the wrong kind" ∷ [])
substring_wrong_row = refl

-- two values under substring$, both wrong
substring_two_row : LeavesWithErrors builtin.Substring (Txt (codes "b") ∷ Txt (codes "a") ∷ []) (Txt [] ∷ []) (no_value ∷ codes "substring$ got a value of the wrong kind" ∷ [])
substring_two_row = refl

-- text.length$
length_row : Leaves builtin.TextLength (Txt (codes "{\\'e}b{cd}") ∷ []) (Num (pos 4) ∷ [])
length_row = refl

-- text.length$ of a number
length_wrong_row : LeavesWithErrors builtin.TextLength (Num (pos 1) ∷ []) (Num (pos 0) ∷ []) (codes "text.length$ got a value of the wrong kind" ∷ [])
length_wrong_row = refl

-- text.prefix$
prefix_row : Leaves builtin.TextPrefix (Num (pos 3) ∷ Txt (codes "{\\'e}b{cd}") ∷ []) (Txt (codes "{\\'e}b{c}") ∷ [])
prefix_row = refl

-- text.prefix$ by a text
prefix_wrong_row : LeavesWithErrors builtin.TextPrefix (Txt (codes "b") ∷ Txt (codes "a") ∷ []) (Txt [] ∷ []) (codes "text.prefix$ got a value of the wrong kind" ∷ [])
prefix_wrong_row = refl

-- width$
width_row : Leaves builtin.Width (Txt (codes "ab") ∷ []) (Num (pos 1056) ∷ [])
unfolding widths
width_row = refl

-- width$ of a number
width_wrong_row : LeavesWithErrors builtin.Width (Num (pos 1) ∷ []) (Num (pos 0) ∷ []) (codes "width$ got a value of the wrong kind" ∷ [])
unfolding widths
width_wrong_row = refl
