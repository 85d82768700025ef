-- Where a part of a text is.
use Rattle.std.proofs.Common.{◌≡◌, ℕ, ◌-◌, List, length, take, drop, min, arith, rules}
use Rattle.std.proofs.lemmas.List.{places, same_lists}
use Rattle.bt_text.specs.Substrings.{last_bytes}

pub part_from : (t : List ℕ) (count place len from l : ℕ) → length t ≡ count → from ≡ min place count → l ≡ min len (count - from) → take l (drop from t) ≡ take len (drop place t)
part_from t count place len from l long is_from is_len = same_lists _ _ (search (rules, places)) (λ k d h. grind (arith, places))

pub part_up_to : (t : List ℕ) (count behind len end from : ℕ) → length t ≡ count → end ≡ count - behind → from ≡ end - len → take (end - from) (drop from t) ≡ last_bytes len (take (length t - behind) t)
part_up_to t count behind len end from long is_end is_from = same_lists _ _ (search (rules, places)) (λ k d h. grind (arith, places))
