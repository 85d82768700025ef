-- A code for bodies, which the model of a stack wants of all that its value holds: each is stored as a list of atoms, an
-- element after what it is made of, and read back by a machine with a stack.
use Rattle.std.specs.Prelude.{◌≡◌, ℕ, zero, suc, ℤ, pos, List, [], ◌∷◌, ◌++◌}
use Rattle.std.proofs.Common.{refl, ap, ◌∙◌, append_assoc}
use Rattle.std.specs.Coded.{Coded, code_by, coded×, coded_ℕ, coded_ℤ, coded_list}
use Rattle.bt_style.specs.declared.style.Target.{Target}
use Rattle.bt_style.specs.declared.style.Target.TheVariants.{Field}
use Rattle.bt_style.specs.Tree.{Element, Amount, Words, Quoted, Braced, Called, Body, End, Then}

abbrev pub Atom : Type 0
Atom = ℕ × (ℤ × (List ℕ × Target))

abbrev mutual
  pub element_atoms : Element → List Atom
  element_atoms (Amount n) = (0, (n, ([], Field 0))) ∷ []
  element_atoms (Words t) = (1, (pos 0, (t, Field 0))) ∷ []
  element_atoms (Quoted name) = (2, (pos 0, ([], name))) ∷ []
  element_atoms (Called name) = (3, (pos 0, ([], name))) ∷ []
  element_atoms (Braced inner) = body_atoms inner ++ (4, (pos 0, ([], Field 0))) ∷ []

  pub body_atoms : Body → List Atom
  body_atoms End = (5, (pos 0, ([], Field 0))) ∷ []
  body_atoms (Then first rest) = element_atoms first ++ (body_atoms rest ++ (6, (pos 0, ([], Field 0))) ∷ [])

-- an element and a body, of which one counts
abbrev pub Both : Type 0
Both = Element × Body

abbrev pub braced : List Both → List Both
braced [] = []
braced (p ∷ rest) = (Braced p.1, End) ∷ rest

abbrev pub followed : List Both → List Both
followed [] = []
followed (p ∷ []) = []
followed (p ∷ q ∷ rest) = (Amount (pos 0), Then q.0 p.1) ∷ rest

abbrev pub met : ℕ → ℤ × (List ℕ × Target) → List Both → List Both
met zero p s = (Amount p.0, End) ∷ s
met (suc zero) p s = (Words p.1.0, End) ∷ s
met (suc (suc zero)) p s = (Quoted p.1.1, End) ∷ s
met (suc (suc (suc zero))) p s = (Called p.1.1, End) ∷ s
met (suc (suc (suc (suc zero)))) p s = braced s
met (suc (suc (suc (suc (suc zero))))) p s = (Amount (pos 0), End) ∷ s
met (suc (suc (suc (suc (suc (suc n)))))) p s = followed s

abbrev pub all_met : List Atom → List Both → List Both
all_met [] s = s
all_met (a ∷ rest) s = all_met rest (met a.0 a.1 s)

mutual
  element_met : (e : Element) (rest : List Atom) (s : List Both) → all_met (element_atoms e ++ rest) s ≡ all_met rest ((e, End) ∷ s)
  element_met (Amount n) rest s = refl
  element_met (Words t) rest s = refl
  element_met (Quoted name) rest s = refl
  element_met (Called name) rest s = refl
  element_met (Braced inner) rest s =
      ap (λ l. all_met l s) (append_assoc (body_atoms inner) ((4, (pos 0, ([], Field 0))) ∷ []) rest)
      ∙ body_met inner ((4, (pos 0, ([], Field 0))) ∷ rest) s

  body_met : (b : Body) (rest : List Atom) (s : List Both) → all_met (body_atoms b ++ rest) s ≡ all_met rest ((Amount (pos 0), b) ∷ s)
  body_met End rest s = refl
  body_met (Then first more) rest s =
      ap (λ l. all_met l s) (append_assoc (element_atoms first) (body_atoms more ++ (6, (pos 0, ([], Field 0))) ∷ []) rest)
      ∙ element_met first ((body_atoms more ++ (6, (pos 0, ([], Field 0))) ∷ []) ++ rest) s
      ∙ ap (λ l. all_met l ((first, End) ∷ s)) (append_assoc (body_atoms more) ((6, (pos 0, ([], Field 0))) ∷ []) rest)
      ∙ body_met more ((6, (pos 0, ([], Field 0))) ∷ rest) ((first, End) ∷ s)

abbrev pub last_body : List Both → Body
last_body [] = End
last_body (p ∷ rest) = p.1

abbrev pub body_stored : List Atom → Body
body_stored atoms = last_body (all_met atoms [])

pub stored-body : (b : Body) → body_stored (body_atoms b) ≡ b
stored-body b = ap (λ l. last_body (all_met l [])) (sym_nil (body_atoms b)) ∙ ap last_body (body_met b [] [])
  where
    sym_nil : (l : List Atom) → l ≡ l ++ []
    sym_nil [] = refl
    sym_nil (a ∷ rest) = ap (λ r. a ∷ r) (sym_nil rest)

abbrev pub body_code : Coded Target → Coded Body
body_code target = code_by (List Atom) (coded_list (coded× coded_ℕ (coded× coded_ℤ (coded× (coded_list coded_ℕ) target)))) body_atoms body_stored stored-body
