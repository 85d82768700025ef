-- What is known of the stored entries as a family.
use Rattle.std.specs.Prelude.{◌≡◌, ℕ, List, Option, map, nat_eq, unwrap_or}
use Rattle.std.specs.HashMap.{HashMap, get}
use Rattle.bt_resolve.specs.declared.stored.Stored.{Stored}
use Rattle.bt_resolve.specs.Listed.{parent_of}
use Rattle.bt_resolve.specs.inner.Cases.{children}

abbrev pub count_at : {S : Type 0} → HashMap ℕ ℕ S → ℕ → ℕ
count_at counts p = unwrap_or (get nat_eq counts p) 0

-- each entry's parent is the entry that it refers to, and the counts are the numbers of children
pub record IsFamily {S : Type 0} (stored : List Stored) (parents : List (Option ℕ)) (counts : HashMap ℕ ℕ S) :
    Type 0 where
  pub parents_known : parents ≡ map (parent_of stored) stored
  pub counts_known : (p : ℕ) → count_at counts p ≡ children stored p
