-- Names among names.
use Rattle.std.specs.Prelude.{◌||◌}
use Rattle.std.specs.Str.{bytes_eq}
use Rattle.std.proofs.lemmas.Slice.Eq.{bytes_eq-Decides}
use Rattle.std.proofs.Common.{◌≡◌, ℕ, Bool, true, false, List, [], ◌∷◌, ◌++◌, refl, sym, ap, ◌∙◌}
use Rattle.bt_text.specs.NameList.{is_among}

-- one more test in front
pub or_step : (a b c d : Bool) → b ≡ (c || d) → (a || b) ≡ ((a || c) || d)
or_step true b c d h = refl
or_step false b c d h = h

-- a test that adds nothing
pub or_false : (a : Bool) → (a || false) ≡ a
or_false true = refl
or_false false = refl

-- a name is among some or is the last one
pub is_among-append : (met : List (List ℕ)) (name n : List ℕ) → is_among (met ++ name ∷ []) n ≡ (is_among met n || bytes_eq name n)
is_among-append [] name n = or_false (bytes_eq name n)
is_among-append (m ∷ ms) name n = or_step (bytes_eq m n) _ (is_among ms n) (bytes_eq name n) (is_among-append ms name n)

-- equal names are one
pub same_bytes : (a b : List ℕ) → bytes_eq a b ≡ true → a ≡ b
same_bytes a b h = (bytes_eq-Decides a b).0 h

-- a name is itself
pub name_itself : (a : List ℕ) → bytes_eq a a ≡ true
name_itself a = (bytes_eq-Decides a a).1 refl

-- names that a test tells apart differ
pub bytes_differ : (test : List ℕ → Bool) (a b : List ℕ) → test a ≡ true → test b ≡ false → bytes_eq a b ≡ false
bytes_differ test a b h k = go (bytes_eq a b) refl
  where
    go : (c : Bool) → bytes_eq a b ≡ c → c ≡ false
    go true e = let wrong : test b ≡ true = ap test (sym (same_bytes a b e)) ∙ h in cc
    go false e = refl
