-- The functions that write lines, at worked values.
use Rattle.std.specs.Prelude.{◌≡◌, pos, [], ◌∷◌, codes, refl}
use Rattle.bt_style.specs.declared.builtin.Builtin.TheVariants as builtin
use Rattle.bt_actions.specs.Item.{Num, Txt}
use Rattle.bt_actions.specs.World.{Goes}
use Rattle.bt_actions.specs.Actions.{basic}
use Rattle.bt_actions.proofs.rows.RowWorlds.{names, start, over, no_value, LeavesWithErrors}

-- write$
write_row : basic names builtin.Write (over start (Txt (codes "x") ∷ [])) ≡ Goes (record start { held = codes "so far x" })
write_row = refl

-- write$ of a number
write_wrong_row : LeavesWithErrors builtin.Write (Num (pos 1) ∷ []) [] (codes "write$ got a value of the wrong kind" ∷ [])
write_wrong_row = refl

-- write$ on the empty stack
write_empty_row : LeavesWithErrors builtin.Write [] [] (no_value ∷ [])
write_empty_row = refl

-- newline$
newline_row : basic names builtin.Newline (over start []) ≡ Goes (record start { lines = codes "so far" ∷ []; held = [] })
newline_row = refl
