-- What a style logs.
use Rattle.std.specs.Prelude.{ℕ, List, [], ◌++◌, map, slice_index_or, codes}
use Rattle.std.specs.Fmt.{signed_decimal}
use Rattle.bt_style.specs.declared.style.Target.{Target}
use Rattle.bt_style.specs.declared.style.Target.TheVariants.{Builtin, Field, EntryNumber, EntryText, GlobalNumber, GlobalText, Function}
use Rattle.bt_style.specs.Builtins.{name_of}
use Rattle.bt_style.specs.Program.{Program}
use Rattle.bt_actions.specs.declared.complaint.Complaint.TheVariants.{Shown}
use Rattle.bt_actions.specs.Item.{Code, Name, Block, Item, Num, Txt, Fun, Missing}
use Rattle.bt_actions.specs.World.{World, told_message}

-- the name of this number, or nothing if there is none
abbrev pub name_or_empty : List (List ℕ) → ℕ → List ℕ
name_or_empty names n = slice_index_or names n []

-- how a style spells a name
abbrev pub target_name : Program → Target → List ℕ
target_name p (Builtin b) = name_of b
target_name p (Field n) = name_or_empty p.fields n
target_name p (EntryNumber n) = name_or_empty p.entry_numbers n
target_name p (EntryText n) = name_or_empty p.entry_texts n
target_name p (GlobalNumber n) = name_or_empty p.global_numbers n
target_name p (GlobalText n) = name_or_empty p.global_texts n
target_name p (Function n) = name_or_empty (map (λ f. f.name) p.functions) n

-- a quoted name, or a function in braces
abbrev pub shown_code : Program → Code → List ℕ
shown_code p (Name t) = codes "`" ++ target_name p t ++ codes "'"
shown_code p (Block b) = codes "`{}'"

-- a value as the log shows it
abbrev pub shown_value : Program → Item → List ℕ
shown_value p (Num n) = signed_decimal n
shown_value p (Txt t) = t
shown_value p (Fun c) = shown_code p c
shown_value p (Missing n) = codes "missing " ++ name_or_empty p.fields n

-- logs all values, the top first, and leaves the stack empty
abbrev pub log_stack : Program → World → World
log_stack p w =
    record w { messages = w.messages ++ map (λ v. told_message w (Shown (shown_value p v))) w.stack; stack = [] }
