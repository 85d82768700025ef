-- What a style logs, at worked values.
use Rattle.std.specs.Prelude.{◌≡◌, pos, negsuc, [], ◌∷◌, codes, refl}
use Rattle.bt_style.specs.declared.builtin.Builtin.TheVariants as builtin
use Rattle.bt_style.specs.declared.style.Target.TheVariants as target
use Rattle.std.specs.Fmt.{digits}
use Rattle.bt_style.specs.Tree.{End}
use Rattle.bt_log.specs.declared.message.Rank.TheVariants.{Note, Warning}
use Rattle.bt_actions.specs.Item.{Name, Block, Num, Txt, Fun, Missing}
use Rattle.bt_actions.specs.World.{Goes}
use Rattle.bt_actions.specs.Actions.{basic}
use Rattle.bt_actions.proofs.rows.RowWorlds.{names, start, over, told_in, of_second, no_value, LeavesWithErrors}

-- warning$
warning_row : basic names builtin.Warning (over start (Txt (codes "beware") ∷ [])) ≡ Goes (told_in start [] (of_second Warning (codes "Warning--beware") ∷ []))
warning_row = refl

-- warning$ of a number
warning_wrong_row : LeavesWithErrors builtin.Warning (Num (pos 1) ∷ []) [] (codes "warning$ got a value of the wrong kind" ∷ [])
warning_wrong_row = refl

-- top$ of a number
top_number_row : basic names builtin.Top (over start (Num (negsuc 2) ∷ Txt (codes "a") ∷ [])) ≡ Goes (told_in start (Txt (codes "a") ∷ []) (of_second Note (codes "-3") ∷ []))
unfolding digits
top_number_row = refl

-- top$ of a quoted name
top_name_row : basic names builtin.Top (over start (Fun (Name (target.Function 0)) ∷ [])) ≡ Goes (told_in start [] (of_second Note (codes "`f'") ∷ []))
top_name_row = refl

-- top$ of a variable's name
top_variable_row : basic names builtin.Top (over start (Fun (Name (target.EntryText 0)) ∷ [])) ≡ Goes (told_in start [] (of_second Note (codes "`sort.key$'") ∷ []))
top_variable_row = refl

-- top$ of a missing field
top_missing_row : basic names builtin.Top (over start (Missing 1 ∷ [])) ≡ Goes (told_in start [] (of_second Note (codes "missing title") ∷ []))
top_missing_row = refl

-- top$ on the empty stack
top_empty_row : LeavesWithErrors builtin.Top [] [] (no_value ∷ [])
top_empty_row = refl

-- stack$
stack_row : basic names builtin.Stack (over start (Fun (Block End) ∷ Fun (Name (target.Builtin builtin.Skip)) ∷ Txt (codes "t") ∷ Num (pos 1) ∷ [])) ≡ Goes (told_in start [] (of_second Note (codes "`{}'") ∷ of_second Note (codes "`skip$'") ∷ of_second Note (codes "t") ∷ of_second Note (codes "1") ∷ []))
unfolding digits
stack_row = refl
