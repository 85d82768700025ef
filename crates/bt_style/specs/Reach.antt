-- The names that a step can reach: from a name, through bodies, and through `call.type$`.
use Rattle.std.specs.Prelude.{ℕ, Bool, true, false, ◌||◌, if◌then◌else◌, List, [], ◌∷◌, ◌++◌, Option, Some, None, Contains, codes, map, slice_get}
use Rattle.std.specs.List.{list_any}
use Rattle.std.specs.Option.{option_map_or}
use Rattle.bt_style.specs.contracts.style.TargetPartialEq.TheImpl as target_comparison
use Rattle.bt_style.specs.declared.builtin.Builtin.{Builtin}
use Rattle.bt_style.specs.declared.builtin.Builtin.TheVariants as builtins
use Rattle.bt_style.specs.declared.style.Target.{Target}
use Rattle.bt_style.specs.declared.style.Target.TheVariants as targets
use Rattle.bt_style.specs.Tree.{Element, Amount, Words, Quoted, Braced, Called, Body, End, Then}
use Rattle.bt_style.specs.Program.{Program, Definition}
use Rattle.bt_style.specs.Names.{place_in}

-- the names called or quoted in a body, inner braces too
abbrev mutual
  pub element_names : Element → List Target
  element_names (Amount n) = []
  element_names (Words t) = []
  element_names (Quoted name) = name ∷ []
  element_names (Braced inner) = body_names inner
  element_names (Called name) = name ∷ []

  pub body_names : Body → List Target
  body_names End = []
  body_names (Then first rest) = element_names first ++ body_names rest

-- the names in the body of a function of the style
abbrev pub function_body_names : Program → ℕ → List Target
function_body_names p n = option_map_or (λ f. body_names f.body) (slice_get p.functions n) []

-- the function of this number, if there is one
abbrev pub maybe_function : Option ℕ → List Target
maybe_function None = []
maybe_function (Some n) = targets.Function n ∷ []

abbrev pub is_call_type : Builtin → Bool
is_call_type builtins.CallType = true
is_call_type _ = false

-- the number of `default.type`
abbrev pub default_type : Program → Option ℕ
default_type p = place_in (map (λ f. f.name) p.functions) (codes "default.type")

-- The names that are reached at once from a name: those in its body, and from `call.type$` the function of the entry's
-- type, if it has one, and `default.type`.
abbrev pub leads_to : Program → Option ℕ → Target → List Target
leads_to p type_function (targets.Function n) = function_body_names p n
leads_to p type_function (targets.Builtin b) =
    if is_call_type b then maybe_function type_function ++ maybe_function (default_type p) else []
leads_to p type_function _ = []

-- the smallest set that has the start and, with each name, the names that are reached from it at once
pub data Reaches (p : Program) (type_function : Option ℕ) (start : Target) : Target → Type 0 where
  Start : Reaches p type_function start start
  Next : {here next : Target} → Reaches p type_function start here → Contains (leads_to p type_function here) next →
      Reaches p type_function start next

-- whether two targets are equal
abbrev pub target_eq : Target → Target → Bool
target_eq = (target_comparison.ghosts).eq

-- whether a target is among some
abbrev pub is_among : List Target → Target → Bool
is_among found t = list_any (λ x. target_eq x t) found

-- whether these names can read or write the output buffer, the preamble or the entry's type
abbrev pub keeps_held : (Target → Bool) → Bool
keeps_held keep = keep (targets.Builtin builtins.Write) || keep (targets.Builtin builtins.Newline)

abbrev pub keeps_preamble : (Target → Bool) → Bool
keeps_preamble keep = keep (targets.Builtin builtins.Preamble)

abbrev pub keeps_kind : (Target → Bool) → Bool
keeps_kind keep = keep (targets.Builtin builtins.Type) || keep (targets.Builtin builtins.CallType)

-- the targets found so far and one more, unless it is among them
abbrev pub noted : List Target → Target → List Target
noted found t = if is_among found t then found else found ++ t ∷ []

-- the same for several targets in turn
abbrev pub noted_all : List Target → List Target → List Target
noted_all found [] = found
noted_all found (t ∷ ts) = noted_all (noted found t) ts

-- the names of all bodies
abbrev pub all_body_names : List Definition → List Target
all_body_names [] = []
all_body_names (f ∷ fs) = body_names f.body ++ all_body_names fs

-- all names that can be reached
abbrev pub reachable : Program → Option ℕ → Target → List Target
reachable p type_function start =
    start ∷ (maybe_function type_function ++ maybe_function (default_type p)) ++ all_body_names p.functions
