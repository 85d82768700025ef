-- The table of the functions that need no definition.
use Rattle.std.specs.Prelude.{bytes_eq}
use Rattle.std.specs.Option.{option_map}
use Rattle.std.proofs.Common.{◌≡◌, ◌∙◌, ap, refl, ℕ, suc, ◌+◌, Bool, true, false, cond, List, [], ◌∷◌, map, Option, Some, None, arith}
use Rattle.bt_style.specs.declared.builtin.Builtin.{Builtin}
use Rattle.bt_style.specs.declared.builtin.Builtin.TheVariants as builtins
use Rattle.bt_style.specs.Builtins.{name_of, table, place_of}
use Rattle.bt_style.specs.Names.{builtin_named, place_in}
use Rattle.bt_style.specs.inner.Names.{builtin_among}
use Rattle.bt_style.specs.laws.Laws.{FoundByTheirNames, FoundAtTheirPlaces}

pub found_by_its_name : FoundByTheirNames
unfolding builtin_named table
found_by_its_name builtins.Greater = refl
found_by_its_name builtins.Less = refl
found_by_its_name builtins.Equals = refl
found_by_its_name builtins.Plus = refl
found_by_its_name builtins.Minus = refl
found_by_its_name builtins.Join = refl
found_by_its_name builtins.Assign = refl
found_by_its_name builtins.AddPeriod = refl
found_by_its_name builtins.CallType = refl
found_by_its_name builtins.ChangeCase = refl
found_by_its_name builtins.ChrToInt = refl
found_by_its_name builtins.Cite = refl
found_by_its_name builtins.Duplicate = refl
found_by_its_name builtins.Empty = refl
found_by_its_name builtins.FormatName = refl
found_by_its_name builtins.If = refl
found_by_its_name builtins.IntToChr = refl
found_by_its_name builtins.IntToStr = refl
found_by_its_name builtins.Missing = refl
found_by_its_name builtins.Newline = refl
found_by_its_name builtins.NumNames = refl
found_by_its_name builtins.Pop = refl
found_by_its_name builtins.Preamble = refl
found_by_its_name builtins.Purify = refl
found_by_its_name builtins.Quote = refl
found_by_its_name builtins.Skip = refl
found_by_its_name builtins.Stack = refl
found_by_its_name builtins.Substring = refl
found_by_its_name builtins.Swap = refl
found_by_its_name builtins.TextLength = refl
found_by_its_name builtins.TextPrefix = refl
found_by_its_name builtins.Top = refl
found_by_its_name builtins.Type = refl
found_by_its_name builtins.Warning = refl
found_by_its_name builtins.While = refl
found_by_its_name builtins.Width = refl
found_by_its_name builtins.Write = refl

-- The places of names

-- the functions stand at their places from one on
abbrev StandFrom : ℕ → List Builtin → Type 0
StandFrom k [] = Unit {0}
StandFrom k (b ∷ bs) = (place_of b ≡ k) × StandFrom (suc k) bs

moved : (k : ℕ) (o : Option ℕ) → option_map (λ n. suc k + n) o ≡ option_map (λ n. k + n) (option_map (λ n. suc n) o)
moved k None = refl
moved k (Some n) = ap Some (omega arith)

place_by : (v : Bool) (k : ℕ) (b : Builtin) (found : Option Builtin) (place : Option ℕ) → place_of b ≡ k → option_map place_of found ≡ option_map (λ n. suc k + n) place →
    option_map place_of (cond v (Some b) found) ≡ option_map (λ n. k + n) (cond v (Some 0) (option_map (λ n. suc n) place))
place_by true k b found place is later = ap Some (omega (arith, is))
place_by false k b found place is later = later ∙ moved k place

places_from : (k : ℕ) (bs : List Builtin) → StandFrom k bs → (name : List ℕ) →
    option_map place_of (builtin_among bs name) ≡ option_map (λ n. k + n) (place_in (map name_of bs) name)
places_from k [] s name = refl
places_from k (b ∷ bs) s name =
    place_by (bytes_eq (name_of b) name) k b (builtin_among bs name) (place_in (map name_of bs) name) s.0 (places_from (suc k) bs s.1 name)

from_zero : (o : Option ℕ) → option_map (λ n. 0 + n) o ≡ o
from_zero None = refl
from_zero (Some n) = ap Some (omega arith)

table_stands : StandFrom 0 table
unfolding table
table_stands = ((refl, (refl, (refl, (refl, (refl, (refl, (refl, (refl, (refl, (refl, (refl, (refl, (refl, (refl, (refl, (refl, (refl, (refl, (refl, (refl, (refl, (refl, (refl, (refl, (refl, (refl, (refl, (refl, (refl, (refl, (refl, (refl, (refl, (refl, (refl, (refl, (refl, tt))))))))))))))))))))))))))))))))))))))

pub found_at_its_place : FoundAtTheirPlaces
unfolding builtin_named
found_at_its_place name = places_from 0 table table_stands name ∙ from_zero (place_in (map name_of table) name)
