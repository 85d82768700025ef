-- What is kept of a byte, by its code.
use Rattle.std.proofs.Common.{◌≡◌, ℕ, zero, suc, Bool, true, false, cond, ◌||◌, eqb, List, [], ◌∷◌, refl}
use Rattle.std.proofs.Math.Dec.{eqb-suc-zero}
use Rattle.bt_text.specs.ByteTests.{is_digit, is_letter, is_separator, is_white}
use Rattle.bt_text.specs.Purification.{purified_byte}
use Rattle.bt_text.specs.inner.KeptBytes.{kept_code}

-- what the code of a byte says is kept of it
abbrev pub shown : ℕ → List ℕ
shown code = cond (eqb code 0) [] (code ∷ [])

pub purified_by_code : (b : ℕ) → purified_byte b ≡ shown (kept_code b)
purified_by_code zero = refl
purified_by_code (suc b) = by_tests (is_letter (suc b) || is_digit (suc b)) (is_white (suc b) || is_separator (suc b))
  where
    by_tests : (kept parts : Bool) → cond kept (suc b ∷ []) (cond parts (32 ∷ []) []) ≡ shown (cond kept (suc b) (cond parts 32 0))
    by_tests true parts = rw eqb-suc-zero refl
    by_tests false true = refl
    by_tests false false = refl
