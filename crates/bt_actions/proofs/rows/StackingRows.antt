-- The functions that look at the stack alone, at worked values, and a full stack.
use Rattle.std.specs.Prelude.{◌≡◌, pos, [], ◌∷◌, codes, refl, replicate}
use Rattle.bt_style.specs.declared.builtin.Builtin.TheVariants as builtin
use Rattle.bt_actions.specs.declared.complaint.Complaint.TheVariants.{StackPassed}
use Rattle.bt_actions.specs.Item.{Num, Txt, Missing}
use Rattle.bt_actions.specs.World.{World, Stops, say}
use Rattle.bt_actions.specs.State.{pushed}
use Rattle.bt_actions.specs.Actions.{basic}
use Rattle.bt_actions.proofs.rows.RowWorlds.{names, alone, over, no_value, Leaves, LeavesWithErrors}

-- a value twice
duplicate_row : Leaves builtin.Duplicate (Missing 0 ∷ Num (pos 1) ∷ []) (Missing 0 ∷ Missing 0 ∷ Num (pos 1) ∷ [])
duplicate_row = refl

-- duplicate$ on the empty stack
duplicate_empty_row : LeavesWithErrors builtin.Duplicate [] [] (no_value ∷ [])
duplicate_empty_row = refl

-- pop$
pop_row : Leaves builtin.Pop (Num (pos 2) ∷ Num (pos 1) ∷ []) (Num (pos 1) ∷ [])
pop_row = refl

-- pop$ on the empty stack
pop_empty_row : LeavesWithErrors builtin.Pop [] [] (no_value ∷ [])
pop_empty_row = refl

-- skip$
skip_row : Leaves builtin.Skip (Num (pos 1) ∷ []) (Num (pos 1) ∷ [])
skip_row = refl

-- swap$
swap_row : Leaves builtin.Swap (Txt (codes "a") ∷ Num (pos 1) ∷ Num (pos 0) ∷ []) (Num (pos 1) ∷ Txt (codes "a") ∷ Num (pos 0) ∷ [])
swap_row = refl

-- swap$ of one value
swap_one_row : LeavesWithErrors builtin.Swap (Num (pos 1) ∷ []) (Num (pos 1) ∷ []) (no_value ∷ [])
swap_one_row = refl

-- swap$ of none
swap_none_row : LeavesWithErrors builtin.Swap [] [] (no_value ∷ [])
swap_none_row = refl

-- a full stack
full : World
full = over alone (replicate 1000 (Num (pos 1)))

-- a full stack takes no value
full_row : pushed (Num (pos 1)) full ≡ Stops (say StackPassed full)
unfolding full
full_row = refl

-- an error there is not told
full_in_error_row : basic names builtin.Cite full ≡ Stops (say StackPassed full)
unfolding full
full_in_error_row = refl

-- there a value can't be put twice
full_twice_row : basic names builtin.Duplicate full ≡ Stops (say StackPassed full)
unfolding full
full_twice_row = refl
