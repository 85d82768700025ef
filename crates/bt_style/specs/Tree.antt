-- A function's body as a tree, without regard to how its elements are stored.
use Rattle.std.specs.Prelude.{ℕ, ℤ, List, [], ◌∷◌, map}
use Rattle.bt_style.specs.declared.style.Target.{Target}
use Rattle.bt_style.specs.declared.style.Op.{Op}
use Rattle.bt_style.specs.declared.style.Op.TheOpen as op
use Rattle.bt_style.specs.declared.style.Op.TheOpen.{Op-F}
use Rattle.bt_style.specs.declared.style.Op.TheFolds.{fold-Op}

mutual
  pub data Element : Type 0 where
    Amount : (n : ℤ) → Element
    Words : (t : List ℕ) → Element
    Quoted : (name : Target) → Element
    Braced : (inner : Body) → Element
    Called : (name : Target) → Element

  pub data Body : Type 0 where
    End : Body
    Then : (first : Element) → (rest : Body) → Body

-- a body of these elements
abbrev pub body_of : List Element → Body
body_of [] = End
body_of (first ∷ rest) = Then first (body_of rest)

-- an element, given what the elements in its braces are
abbrev pub element_step : Op-F Element → Element
element_step (op.Number n) = Amount n
element_step (op.Text t) = Words t
element_step (op.Quote name) = Quoted name
element_step (op.Block inner) = Braced (body_of inner.items)
element_step (op.Call name) = Called name

abbrev pub element_of : Op → Element
element_of = fold-Op Element element_step

-- the elements of a slice
abbrev pub elements_of : List Op → List Element
elements_of ops = map element_of ops

-- the elements of a slice, as a body
abbrev pub ops_body : List Op → Body
ops_body ops = body_of (elements_of ops)
