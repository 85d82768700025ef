-- What is known after some functions and names.
use Rattle.std.specs.Prelude.{◌≡◌, pos, [], ◌∷◌, None, Some, codes, refl}
use Rattle.bt_style.specs.declared.builtin.Builtin.TheVariants.{Empty, Greater, Join, NumNames, Plus, Write}
use Rattle.bt_sound.specs.Known.{Number, Text, any_field, any_text, exactly, at_least, bit}
use Rattle.bt_sound.specs.Transfer.{stack_after}
use Rattle.bt_sound.specs.Reading.{only_missing, only_blank, only_inked}
use Rattle.bt_sound.specs.Holds.{literal}

-- a missing field is no text
write_field : stack_after Write (Text any_field ∷ []) ≡ None
write_field = refl

write_text : stack_after Write (Text only_inked ∷ []) ≡ Some []
write_text = refl

-- a test of what is told apart is decided

empty_missing : stack_after Empty (Text only_missing ∷ []) ≡ Some (Number (exactly (pos 1)) ∷ [])
empty_missing = refl

empty_inked : stack_after Empty (Text only_inked ∷ []) ≡ Some (Number (exactly (pos 0)) ∷ [])
empty_inked = refl

empty_any : stack_after Empty (Text any_text ∷ []) ≡ Some (Number bit ∷ [])
empty_any = refl

-- a text that isn't blank lists a name; the second name's number is above 1

names : stack_after NumNames (Text only_inked ∷ []) ≡ Some (Number (at_least (pos 1)) ∷ [])
names = refl

next : stack_after Plus (Number (exactly (pos 1)) ∷ Number (at_least (pos 1)) ∷ []) ≡ Some (Number (at_least (pos 2)) ∷ [])
next = refl

second : stack_after Greater (Number (exactly (pos 1)) ∷ Number (at_least (pos 2)) ∷ []) ≡ Some (Number (exactly (pos 1)) ∷ [])
second = refl

joined : stack_after Join (Text any_text ∷ Text only_inked ∷ []) ≡ Some (Text only_inked ∷ [])
joined = refl

-- literals

spaces : literal (codes "  ") ≡ only_blank
spaces = refl

word : literal (codes " a") ≡ only_inked
word = refl
