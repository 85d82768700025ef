-- What the code keeps while it looks for the names that are reached.
use Rattle.std.specs.Prelude.{◌≡◌, ℕ, ◌+◌, List, [], ◌∷◌, ◌++◌}
use Rattle.std.specs.HashSet.{HashSet, contains}
use Rattle.std.proofs.Common.{Bor}
use Rattle.bt_style.specs.declared.style.Op.{Op}
use Rattle.bt_style.specs.declared.style.Target.{Target}
use Rattle.bt_style.specs.Tree.{Element, Amount, Words, Quoted, Braced, Called, Body, End, Then, ops_body}
use Rattle.bt_style.specs.Reach.{body_names, target_eq, is_among}

-- What the code keeps while it looks for them: no part of the meaning, from here on.

-- a hashed set has the targets that are found
abbrev pub Knows : {S : Type 0} → HashSet Target S → List Target → Type 0
Knows seen found = (t : Target) → contains target_eq seen t ≡ is_among found t

-- parts of bodies that are still to be gone over, the next one last: the names in them
abbrev pub waiting_names : List (Bor (List Op)) → List Target
waiting_names [] = []
waiting_names (ops ∷ above) = waiting_names above ++ body_names (ops_body ops.now)

-- how many elements a body has, inner ones too, and its end
abbrev mutual
  pub element_size : Element → ℕ
  element_size (Amount n) = 1
  element_size (Words t) = 1
  element_size (Quoted name) = 1
  element_size (Braced inner) = 1 + body_size inner
  element_size (Called name) = 1

  pub body_size : Body → ℕ
  body_size End = 1
  body_size (Then first rest) = element_size first + body_size rest

-- the same of parts of bodies
abbrev pub waiting_size : List (Bor (List Op)) → ℕ
waiting_size [] = 0
waiting_size (ops ∷ above) = waiting_size above + body_size (ops_body ops.now)
