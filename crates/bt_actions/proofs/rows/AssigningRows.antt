-- Assignments at worked values.
use Rattle.std.specs.Prelude.{◌≡◌, pos, [], ◌∷◌, codes, refl}
use Rattle.bt_style.specs.declared.style.Target.TheVariants as target
use Rattle.bt_style.specs.declared.builtin.Builtin.TheVariants as builtin
use Rattle.bt_style.specs.Tree.{End}
use Rattle.bt_actions.specs.Item.{Name, Block, Num, Txt, Fun}
use Rattle.bt_actions.specs.World.{Goes}
use Rattle.bt_actions.specs.Actions.{basic}
use Rattle.bt_actions.proofs.rows.RowWorlds.{names, other, cited, start, alone, errors, over, told_in, no_value, Leaves, LeavesWithErrors}

-- a number variable of the style
assign_number_row : basic names builtin.Assign (over start (Fun (Name (target.GlobalNumber 0)) ∷ Num (pos 5) ∷ [])) ≡ Goes (record start { globals = record { numbers = pos 5 ∷ []; texts = codes "all" ∷ [] } })
assign_number_row = refl

-- a text variable of the style
assign_text_row : basic names builtin.Assign (over start (Fun (Name (target.GlobalText 0)) ∷ Txt (codes "new") ∷ [])) ≡ Goes (record start { globals = record { numbers = pos 8 ∷ []; texts = codes "new" ∷ [] } })
assign_text_row = refl

-- a number variable of the entry
assign_own_number_row : basic names builtin.Assign (over start (Fun (Name (target.EntryNumber 0)) ∷ Num (pos 5) ∷ [])) ≡ Goes (record start { entries = other ∷ record cited { variables = record { numbers = pos 5 ∷ []; texts = codes "label" ∷ [] } } ∷ [] })
assign_own_number_row = refl

-- a text variable of the entry
assign_own_text_row : basic names builtin.Assign (over start (Fun (Name (target.EntryText 0)) ∷ Txt (codes "new") ∷ [])) ≡ Goes (record start { entries = other ∷ record cited { variables = record { numbers = pos 7 ∷ []; texts = codes "new" ∷ [] } } ∷ [] })
assign_own_text_row = refl

-- a number out of range is no variable of any
assign_past_row : Leaves builtin.Assign (Fun (Name (target.GlobalNumber 9)) ∷ Num (pos 5) ∷ []) []
assign_past_row = refl

-- what is no variable
assign_function_row : LeavesWithErrors builtin.Assign (Fun (Name (target.Builtin builtin.Skip)) ∷ Num (pos 5) ∷ []) [] (codes ":= needs a variable" ∷ [])
assign_function_row = refl

-- a field is no variable
assign_field_row : LeavesWithErrors builtin.Assign (Fun (Name (target.Field 0)) ∷ Num (pos 5) ∷ []) [] (codes ":= needs a variable" ∷ [])
assign_field_row = refl

-- a text for a number
assign_kind_row : LeavesWithErrors builtin.Assign (Fun (Name (target.GlobalNumber 0)) ∷ Txt (codes "t") ∷ []) [] (codes ":= got a value of the wrong kind" ∷ [])
assign_kind_row = refl

-- a number for a text of the entry
assign_own_kind_row : LeavesWithErrors builtin.Assign (Fun (Name (target.EntryText 0)) ∷ Num (pos 1) ∷ []) [] (codes ":= got a value of the wrong kind" ∷ [])
assign_own_kind_row = refl

-- an entry variable without an entry, also where the kind is wrong
assign_no_entry_row : basic names builtin.Assign (over alone (Fun (Name (target.EntryNumber 0)) ∷ Txt (codes "t") ∷ [])) ≡ Goes (told_in alone [] (errors (codes "You can't mess with entries here" ∷ [])))
assign_no_entry_row = refl

-- a number over the empty stack
assign_number_alone_row : LeavesWithErrors builtin.Assign (Num (pos 1) ∷ []) [] (no_value ∷ codes ":= got a value of the wrong kind" ∷ [])
assign_number_alone_row = refl

-- a quoted name over the empty stack
assign_name_alone_row : LeavesWithErrors builtin.Assign (Fun (Name (target.Builtin builtin.Skip)) ∷ []) [] (no_value ∷ [])
assign_name_alone_row = refl

-- a function in braces
assign_braced_row : LeavesWithErrors builtin.Assign (Fun (Block End) ∷ Num (pos 1) ∷ []) [] (codes ":= got a value of the wrong kind" ∷ [])
assign_braced_row = refl
