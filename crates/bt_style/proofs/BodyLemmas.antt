-- The braces that stand open, as a reader holds them: the innermost last.
use Rattle.std.proofs.Common.{◌≡◌, List, [], ◌∷◌, ◌++◌, map, reverse, length, ap, ◌∙◌, Vec, Global}
use Rattle.std.proofs.lemmas.List.{length-map, map-append, reverse-append, length-reverse}
use Rattle.bt_style.specs.declared.style.Op.{Op}
use Rattle.bt_style.specs.Tree.{elements_of}
use Rattle.bt_style.specs.inner.Bodies.{open_bodies}

pub opened_push : (vs : List (Vec Op Global)) (v : Vec Op Global) → open_bodies (vs ++ v ∷ []) ≡ elements_of v.items ∷ open_bodies vs
opened_push vs v =
    ap reverse (map-append (λ (v : Vec Op Global). elements_of v.items) vs (v ∷ []))
    ∙ reverse-append (map (λ (v : Vec Op Global). elements_of v.items) vs) (elements_of v.items ∷ [])

pub length_opened : (vs : List (Vec Op Global)) → length (open_bodies vs) ≡ length vs
length_opened vs = length-reverse (map (λ (v : Vec Op Global). elements_of v.items) vs) ∙ length-map vs (λ v. elements_of v.items)
