-- The function that `if$` takes from the stack.
use Rattle.std.proofs.Common.{◌≡◌, ◌≤◌, ℤ, List, [], ◌∷◌, length, drop, refl, sym, arith}
use Rattle.std.specs.Prelude.{Option, Some, None, option_map, is_none, ◌||◌}
use Rattle.std.proofs.lemmas.Option.{none-some}
use Rattle.bt_style.specs.declared.builtin.Builtin.TheVariants as builtin
use Rattle.bt_actions.specs.Arguments.{as_number, as_code, all_three, judged, taken_three}
use Rattle.bt_actions.specs.Item.{Item, Code}
use Rattle.bt_actions.specs.World.{World, with_stack}
use Rattle.bt_stack.specs.Choice.{chosen, chosen_of, choice_asked}

-- three values that ask for a choice are there
pub three_there : (l : List Item) (x : Code) → Some x ≡ option_map chosen (choice_asked l) → 3 ≤ length l
three_there [] x e = absurd (none-some x (sym e))
three_there (u ∷ []) x e = absurd (none-some x (sym e))
three_there (u ∷ v ∷ []) x e = absurd (none-some x (sym e))
three_there (u ∷ v ∷ t ∷ rest) x e = omega arith

by_kinds : (o : Option ℤ) (a b : Option Code) (x : Code) (w : World) → Some x ≡ option_map chosen (all_three o a b) → ◌≡◌ {A = Option Code × World} (Some x, w) (option_map chosen (all_three o a b), judged builtin.If (is_none b || is_none a || is_none o) w)
by_kinds None a b x w e = absurd (none-some x (sym e))
by_kinds (Some n) None b x w e = absurd (none-some x (sym e))
by_kinds (Some n) (Some a) None x w e = absurd (none-some x (sym e))
by_kinds (Some n) (Some a) (Some b) x w e = λ k. (e k, w)

-- they are taken away
pub choice_taken : (l : List Item) (x : Code) (w : World) → Some x ≡ option_map chosen (choice_asked l) → ◌≡◌ {A = Option Code × World} (Some x, with_stack (drop 3 l) w) (chosen_of (taken_three builtin.If as_number as_code as_code (with_stack l w)))
choice_taken [] x w e = absurd (none-some x (sym e))
choice_taken (u ∷ []) x w e = absurd (none-some x (sym e))
choice_taken (u ∷ v ∷ []) x w e = absurd (none-some x (sym e))
choice_taken (u ∷ v ∷ t ∷ rest) x w e = by_kinds (as_number t) (as_code v) (as_code u) x (with_stack rest w) e

-- values that ask for none
pub no_choice_asked : (asked : Option (ℤ × Code × Code)) → None ≡ option_map chosen asked → asked ≡ None
no_choice_asked None e = refl
no_choice_asked (Some all) e = absurd (none-some (chosen all) e)
