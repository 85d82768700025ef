-- Two bodies are equal in at most one way, so that a ghost field may say what a style was read as. antt finds this of a
-- data type that stands alone; elements and bodies, which contain each other, are stored in one.
use Rattle.std.specs.Prelude.{◌≡◌, ℕ, ℤ, pos, List}
use Rattle.std.proofs.Common.{refl, sym, ap, ◌∙◌}
use Rattle.std.proofs.Math.IntN.{ℤ_set}
use Rattle.std.proofs.Props.{props}
use mathlib.Core.HLevel.{collapsible→set}
use Rattle.bt_style.specs.declared.style.Target.{Target}
use Rattle.bt_style.specs.Tree.{Element, Amount, Words, Quoted, Braced, Called, Body, End, Then}

-- an element or a body
data Stored : Type 0 where
  OfAmount : (n : ℤ) → Stored
  OfWords : (t : List ℕ) → Stored
  OfQuoted : (name : Target) → Stored
  OfBraced : (inner : Stored) → Stored
  OfCalled : (name : Target) → Stored
  OfEnd : Stored
  OfThen : (first : Stored) → (rest : Stored) → Stored
  deriving IsSet as Stored-set

stored_set : IsSet Stored
stored_set = Stored-set ℤ_set (hlevel props) (hlevel props)

mutual
  stored_element : Element → Stored
  stored_element (Amount n) = OfAmount n
  stored_element (Words t) = OfWords t
  stored_element (Quoted name) = OfQuoted name
  stored_element (Braced inner) = OfBraced (stored inner)
  stored_element (Called name) = OfCalled name

  stored : Body → Stored
  stored End = OfEnd
  stored (Then first rest) = OfThen (stored_element first) (stored rest)

-- the element and the body that are stored so
back : Stored → Element × Body
back (OfAmount n) = (Amount n, End)
back (OfWords t) = (Words t, End)
back (OfQuoted name) = (Quoted name, End)
back (OfBraced inner) = (Braced (back inner).1, End)
back (OfCalled name) = (Called name, End)
back OfEnd = (Amount (pos 0), End)
back (OfThen first rest) = (Amount (pos 0), Then (back first).0 (back rest).1)

mutual
  unfolding back stored_element stored

  element_back : (e : Element) → (back (stored_element e)).0 ≡ e
  element_back (Amount n) = refl
  element_back (Words t) = refl
  element_back (Quoted name) = refl
  element_back (Braced inner) = ap Braced (body_back inner)
  element_back (Called name) = refl

  body_back : (b : Body) → (back (stored b)).1 ≡ b
  body_back End = refl
  body_back (Then first rest) = λ i. Then (element_back first i) (body_back rest i)

pub bodies_set : IsSet Body
bodies_set =
    let equal : (x y : Body) → stored x ≡ stored y →
    x ≡ y = λ x y e. sym (body_back x) ∙ ap (λ s. (back s).1) e ∙ body_back y in
    collapsible→set (λ x y p. equal x y (ap stored p))
    (λ x y p q. ap (equal x y) (stored_set (stored x) (stored y) (ap stored p) (ap stored q)))
