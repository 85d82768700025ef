-- What is written, piece by piece.
use Rattle.std.proofs.Common.{◌≡◌, ℕ, ◌+◌, ◌<◌, Bool, List, [], ◌∷◌, ◌++◌, length, take, get_or, Some, refl, sym, ap, ◌∙◌, append_assoc, arith}
use Rattle.std.specs.Prelude.{◌==◌, codes, if◌then◌else◌}
use Rattle.std.specs.List.{join_with_byte}
use Rattle.std.proofs.lemmas.Bool.{ne_eqb}
use Rattle.std.proofs.lemmas.List.{take_more, length-take-le}
use Rattle.bt_bib.specs.declared.aux_argument.AuxFault.{AuxFault}
use Rattle.bt_files.specs.AuxText.{comma, written_end, written_argument}

joined_push : (parts : List (List ℕ)) (part : List ℕ) → 0 < length parts → join_with_byte comma (parts ++ part ∷ []) ≡ join_with_byte comma parts ++ comma ∷ part
joined_push [] part some = absurd (omega arith)
joined_push (x ∷ []) part some = refl
joined_push (x ∷ y ∷ parts) part some =
    ap (λ (l : List ℕ). x ++ comma ∷ l) (joined_push (y ∷ parts) part (omega arith)) ∙ sym (append_assoc x (comma ∷ join_with_byte comma (y ∷ parts)) (comma ∷ part))

-- a part with a comma before it, unless it is the first
abbrev after_comma : Bool → List ℕ → List ℕ
after_comma is_first part = if is_first then part else comma ∷ part

joined_more : (parts : List (List ℕ)) (part : List ℕ) → join_with_byte comma (parts ++ part ∷ []) ≡ join_with_byte comma parts ++ after_comma (length parts == 0) part
joined_more [] part = refl
joined_more (x ∷ parts) part =
    joined_push (x ∷ parts) part (omega arith)
    ∙ ap (λ (is_first : Bool). join_with_byte comma (x ∷ parts) ++ after_comma is_first part) (sym (ne_eqb (length (x ∷ parts)) 0 (λ e. omega arith)))

-- one part more
pub part_written : (parts : List (List ℕ)) (i : ℕ) (part : List ℕ) (is_first : Bool) (front text new : List ℕ) → i < length parts → part ≡ get_or parts i part →
    is_first ≡ (i == 0) → text ≡ front ++ join_with_byte comma (take i parts) → new ≡ text ++ (if is_first then part else comma ∷ part) →
    new ≡ front ++ join_with_byte comma (take (i + 1) parts)
part_written parts i part is_first front text new lt is first so_far now =
    let so_many : length (take i parts) ≡ i = length-take-le i parts (omega arith) in
    now
    ∙ ap (λ (t : List ℕ). t ++ after_comma is_first part) so_far
    ∙ append_assoc front (join_with_byte comma (take i parts)) (after_comma is_first part)
    ∙ ap (λ (b : Bool). front ++ (join_with_byte comma (take i parts) ++ after_comma b part)) (first ∙ ap (λ (n : ℕ). n == 0) (sym so_many))
    ∙ ap (λ (t : List ℕ). front ++ t) (sym (joined_more (take i parts) part))
    ∙ ap (λ (ps : List (List ℕ)). front ++ join_with_byte comma ps) (ap (λ (p : List ℕ). take i parts ++ p ∷ []) is ∙ sym (take_more parts i part lt))

-- the part that a fault drops, and the end
pub fault_added : (parts : List (List ℕ)) (fault : AuxFault) (front text more new : List ℕ) → text ≡ front ++ join_with_byte comma parts →
    more ≡ text ++ (if length parts == 0 then codes "x" else comma ∷ codes "x") → new ≡ more ++ written_end (Some fault) →
    new ≡ front ++ written_argument parts (Some fault)
fault_added parts fault front text more new is with_part with_end =
    with_end
    ∙ ap (λ (t : List ℕ). t ++ written_end (Some fault)) (with_part ∙ ap (λ (t : List ℕ). t ++ after_comma (length parts == 0) (codes "x")) is
    ∙ append_assoc front (join_with_byte comma parts) (after_comma (length parts == 0) (codes "x")) ∙ ap (λ (t : List ℕ). front ++ t) (sym (joined_more parts (codes "x"))))
    ∙ append_assoc front (join_with_byte comma (parts ++ codes "x" ∷ [])) (written_end (Some fault))
