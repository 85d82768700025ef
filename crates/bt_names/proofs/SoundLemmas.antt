-- Patterns without a fault.
use Rattle.std.proofs.Common.{◌≡◌, ℕ, Bool, true, false, cond, eqb, List, ◌∷◌, length, Option, None, Some, refl, sym, ap, ◌∙◌}
use Rattle.std.specs.Option.{option_or}
use Rattle.bt_text.specs.Blocks.{begins_group, blocks}
use Rattle.bt_text.specs.Depth.{depth}
use Rattle.bt_names.specs.Cuts.{is_single}
use Rattle.bt_names.specs.Patterns.{block_fault, fault_of_blocks, inside_group, letter_fault, letter_places, moved_by}

none_first : (a b : Option ℕ) → option_or a b ≡ None → a ≡ None
none_first None b h = refl
none_first (Some x) b h = h

none_second : (a b : Option ℕ) → option_or a b ≡ None → b ≡ None
none_second None b h = h
none_second (Some x) b h = absurd cc

none_moved : (n : ℕ) (o : Option ℕ) → moved_by n o ≡ None → o ≡ None
none_moved n None h = refl
none_moved n (Some i) h = absurd cc

-- the first block and the others of a pattern without a fault
pub sound_first : (t block behind : List ℕ) → blocks t ≡ block ∷ blocks behind → fault_of_blocks (blocks t) ≡ None → block_fault block ≡ None
sound_first t block behind e h = none_first (block_fault block) (moved_by (length block) (fault_of_blocks (blocks behind))) (ap fault_of_blocks (sym e) ∙ h)

pub sound_rest : (t block behind : List ℕ) → blocks t ≡ block ∷ blocks behind → fault_of_blocks (blocks t) ≡ None → fault_of_blocks (blocks behind) ≡ None
sound_rest t block behind e h = none_moved (length block) (fault_of_blocks (blocks behind)) (none_second (block_fault block) (moved_by (length block) (fault_of_blocks (blocks behind))) (ap fault_of_blocks (sym e) ∙ h))

none_cond : (x : Bool) (n : ℕ) → cond x None (Some n) ≡ None → x ≡ true
none_cond true n h = refl
none_cond false n h = absurd cc

-- A group without a fault has its right brace.
pub sound_closed : (group : List ℕ) → begins_group group ≡ true → block_fault group ≡ None → true ≡ eqb (depth group) 0
sound_closed group g h =
    let inner = moved_by 1 (letter_fault (inside_group group) (letter_places (inside_group group))) in
    let end = cond (eqb (depth group) 0) None (Some (length group)) in
    let both : option_or inner end ≡ None = sym (ap (λ (x : Bool). cond x (option_or inner end) (cond (is_single (λ b. eqb b 125) group) (Some 0) None)) g) ∙ h in
    sym (none_cond (eqb (depth group) 0) (length group) (none_second inner end both))
