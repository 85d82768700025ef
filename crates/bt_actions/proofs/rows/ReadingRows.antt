-- Fields and variables, the key, the type and the preamble at worked values.
use Rattle.std.specs.Prelude.{◌≡◌, pos, [], ◌∷◌, codes, refl}
use Rattle.bt_style.specs.declared.builtin.Builtin.TheVariants as builtin
use Rattle.bt_actions.specs.Item.{Num, Txt, Missing}
use Rattle.bt_actions.specs.World.{Goes}
use Rattle.bt_actions.specs.Operands.{of_entry, field_at, number_at, text_at, global_number, global_text}
use Rattle.bt_actions.specs.Actions.{basic}
use Rattle.bt_actions.proofs.rows.RowWorlds.{names, start, second, alone, errors, over, told_in, Leaves}

-- the key
cite_row : Leaves builtin.Cite [] (Txt (codes "b") ∷ [])
cite_row = refl

-- the key without an entry
cite_alone_row : basic names builtin.Cite (over alone (Num (pos 1) ∷ [])) ≡ Goes (told_in alone (Txt [] ∷ Num (pos 1) ∷ []) (errors (codes "You can't mess with entries here" ∷ [])))
cite_alone_row = refl

-- the preamble
preamble_row : Leaves builtin.Preamble [] (Txt (codes "pre") ∷ [])
preamble_row = refl

-- type$
type_row : Leaves builtin.Type [] (Txt (codes "book") ∷ [])
type_row = refl

-- type$ without an entry
type_alone_row : basic names builtin.Type (over alone []) ≡ Goes (told_in alone (Txt [] ∷ []) (errors (codes "You can't mess with entries here" ∷ [])))
type_alone_row = refl

-- a type without a function
type_without_function_row : basic names builtin.Type (over second []) ≡ Goes (over second (Txt [] ∷ []))
type_without_function_row = refl

-- a missing field, a title, and a field without an entry
field_missing_row : of_entry (field_at 0) (Txt []) start ≡ Goes (over start (Missing 0 ∷ []))
field_missing_row = refl

field_row : of_entry (field_at 1) (Txt []) start ≡ Goes (over start (Txt (codes "B title") ∷ []))
field_row = refl

field_alone_row : of_entry (field_at 1) (Txt []) alone ≡ Goes (told_in alone (Txt [] ∷ []) (errors (codes "You can't mess with entries here" ∷ [])))
field_alone_row = refl

-- variables of the entry, and of the style
own_number_row : of_entry (number_at 0) (Num (pos 0)) start ≡ Goes (over start (Num (pos 7) ∷ []))
own_number_row = refl

own_text_row : of_entry (text_at 0) (Txt []) start ≡ Goes (over start (Txt (codes "label") ∷ []))
own_text_row = refl

global_number_row : global_number 0 start ≡ Goes (over start (Num (pos 8) ∷ []))
global_number_row = refl

global_text_row : global_text 0 start ≡ Goes (over start (Txt (codes "all") ∷ []))
global_text_row = refl
