-- The function that `if$` runs, of the two on the stack.
use Rattle.std.specs.Prelude.{ℕ, zero, suc, ℤ, pos, negsuc, List, Option, option_map, option_and_then, slice_get}
use Rattle.bt_actions.specs.Arguments.{as_number, as_code, all_three}
use Rattle.bt_actions.specs.Item.{Item, Code}
use Rattle.bt_actions.specs.World.{World}

-- the lower one where the number below both is above 0, else the upper one
abbrev pub chosen : ℤ × Code × Code → Code
chosen (pos zero, above, other) = other
chosen (pos (suc n), above, other) = above
chosen (negsuc n, above, other) = other

-- how far below the top it lies
abbrev pub choice_depth : ℤ → ℕ
choice_depth (pos zero) = 0
choice_depth (pos (suc n)) = 1
choice_depth (negsuc n) = 0

-- the arguments that were taken, and of those only this function
abbrev pub chosen_of : Option (ℤ × Code × Code) × World → Option Code × World
chosen_of (all, w) = (option_map chosen all, w)

-- the number and the two functions on the stack, if they are on top
abbrev pub choice_asked : List Item → Option (ℤ × Code × Code)
choice_asked items =
    all_three (option_and_then as_number (slice_get items 2)) (option_and_then as_code (slice_get items 1))
    (option_and_then as_code (slice_get items 0))
