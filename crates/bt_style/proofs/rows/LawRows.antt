-- Worked examples of the laws of styles, computed: where a first fault stands in its text, what names stand for, places
-- in the table.
use Rattle.std.proofs.Common.{◌≡◌, ℕ, List, [], ◌∷◌, ◌++◌, map, Some, None, Err, refl, codes, true, is_ok, Result, Option, Ok}
use Rattle.std.specs.Option.{option_map}
use Rattle.bt_style.specs.declared.fault.FaultKind.TheVariants.{UnknownName, UnclosedBrace, StrayByte}
use Rattle.bt_style.specs.Builtins.{name_of, table, place_of}
use Rattle.bt_style.specs.Names.{builtin_named, place_in, target_named}
use Rattle.bt_style.specs.Token.{Word, Glued, piece_at, literal_piece}
use Rattle.bt_style.specs.declared.fault.StyleFault.{StyleFault}
use Rattle.bt_style.specs.declared.builtin.Builtin.TheVariants.{Skip}
use Rattle.bt_style.specs.declared.style.Target.{Target}
use Rattle.bt_style.specs.declared.style.Target.TheVariants as targets
use Rattle.bt_style.specs.Program.{Program}
use Rattle.bt_style.specs.Reach.{body_names}
use Rattle.bt_style.specs.laws.Laws.{StandsInFront}
use Rattle.bt_style.proofs.rows.FaultRows.{spelled}

-- A name that isn't known: whatever stands after the byte after it, the fault is the same, though the name may go on to
-- one that is known; a brace in its place makes a style.

unknown_stands : StandsInFront (codes "bad") (codes "}\nREAD")
unfolding piece_at
unknown_stands = (Word (codes "bad"), refl)

unknown_is_final : (other : List ℕ) → spelled (codes "FUNCTION {f}\n{" ++ codes "bad" ++ 125 ∷ other) ≡ Err (record { kind = UnknownName; line = 2 })
unfolding spelled
unknown_is_final other = refl

longer_name : is_ok (spelled (codes "ENTRY {bad1}{}{} FUNCTION {f}\n{" ++ codes "bad" ++ codes "1}")) ≡ true
unfolding spelled
longer_name = refl

unknown_is_first : is_ok (spelled (codes "FUNCTION {f}\n{" ++ codes "\n}")) ≡ true
unfolding spelled
unknown_is_first = refl

-- a text with a wrong byte after it: this byte is no part of the token
glued_stands : StandsInFront (codes "\"x\"") (codes "y}")
unfolding piece_at literal_piece
glued_stands = (Glued, refl)

glued_is_final : (other : List ℕ) → spelled (codes "MACRO {a} {" ++ codes "\"x\"" ++ 121 ∷ other) ≡ Err (record { kind = StrayByte; line = 1 })
unfolding spelled
glued_is_final other = refl

glued_is_first : is_ok (spelled (codes "MACRO {a} {" ++ codes "\n\"\" }")) ≡ true
unfolding spelled
glued_is_first = refl

-- the end of a text, in a comment
at_the_end : StandsInFront [] []
at_the_end = refl

end_is_final : spelled (codes "STRINGS {a % }" ++ [] ++ []) ≡ Err (record { kind = UnclosedBrace; line = 1 })
unfolding spelled
end_is_final = refl

end_is_first : is_ok (spelled (codes "STRINGS {a % }" ++ codes "\n}")) ≡ true
unfolding spelled
end_is_first = refl

-- places in the table
place_of_if : option_map place_of (builtin_named (codes "if$")) ≡ Some 15
unfolding builtin_named table
place_of_if = refl

name_of_place : place_in (map name_of table) (codes "if$") ≡ Some 15
unfolding table
name_of_place = refl

last_place : place_in (map name_of table) (codes "write$") ≡ Some 36
unfolding table
last_place = refl

no_place : place_in (map name_of table) (codes "entry.max$") ≡ None
unfolding table
no_place = refl

-- the names in the bodies of a style's functions
abbrev names_in : Result Program StyleFault → List (List Target)
names_in (Ok p) = map (λ f. body_names f.body) p.functions
names_in (Err f) = []

earlier_functions : names_in (spelled (codes "FUNCTION {g} {}\nFUNCTION {f} {g {'g skip$}}"))
    ≡ [] ∷ (targets.Function 0 ∷ targets.Function 0 ∷ targets.Builtin Skip ∷ []) ∷ []
unfolding spelled
earlier_functions = refl

-- what a name stands for in a style
abbrev found_in : Result Program StyleFault → List ℕ → Option Target
found_in (Ok p) name = target_named p name
found_in (Err f) name = None

a_field : found_in (spelled (codes "ENTRY {title}{n}{}")) (codes "title") ≡ Some (targets.Field 1)
unfolding spelled target_named builtin_named table
a_field = refl

an_entry_number : found_in (spelled (codes "ENTRY {title}{n}{}")) (codes "n") ≡ Some (targets.EntryNumber 0)
unfolding spelled target_named builtin_named table
an_entry_number = refl
