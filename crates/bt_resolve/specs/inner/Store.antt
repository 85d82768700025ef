-- What the hashed tables of a store contain.
use Rattle.std.specs.Prelude.{◌≡◌, ℕ, is_some, map, List, Option, Some, None, bytes_eq, if◌then◌else◌}
use Rattle.bt_text.specs.declared.by_name.ByName.{ByName}
use Rattle.bt_text.specs.ByName.{by_small, known, listed}
use Rattle.bt_text.specs.CaseFolding.{folded}
use Rattle.bt_resolve.specs.declared.stored.Stored.{Stored}
use Rattle.bt_resolve.specs.inner.Cases.{is_referred_to}

-- the entries of a table, in its order
abbrev pub stored_in : ByName Stored → List Stored
stored_in table = map (λ e. e.1) (listed table)

-- the table has each entry under its own key, and the keys that entries refer to are known
pub record IsIndexed (entries : ByName Stored) (referred : ByName (Unit {0})) : Type 0 where
  pub keys_known : listed entries ≡ by_small (λ (s : Stored). s.key) (stored_in entries)
  pub references_known : (key : List ℕ) → is_some (known referred key) ≡ is_referred_to (stored_in entries) key

-- the keys that are referred to, with this lower-case key added
abbrev pub with_reference : Option (List ℕ) → (List ℕ → Option (Unit {0})) → List ℕ → Option (Unit {0})
with_reference None before key = before key
with_reference (Some small) before key = if bytes_eq small (folded key) then Some tt else before key
