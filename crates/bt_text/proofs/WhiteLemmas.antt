-- Texts in which each run of white space is one space.
use Rattle.std.proofs.Common.{◌≡◌, refl, ap, ◌∙◌, ℕ, ◌≤◌, ◌+◌, Bool, true, false, arith, List, [], ◌∷◌, ◌++◌, length, take, drop, get_or, if◌then◌else◌}
use Rattle.std.proofs.lemmas.List.{length-append, take_all}
use Rattle.bt_text.specs.ByteTests.{is_white, space}
use Rattle.bt_text.specs.White.{begins_white, white_joined}
use Rattle.bt_text.specs.inner.Cases.{joined_byte}

byte_short : (white behind : Bool) (b : ℕ) → length (if white then (if behind then [] else space ∷ []) else b ∷ []) ≤ 1
byte_short true true b = omega arith
byte_short true false b = omega arith
byte_short false behind b = omega arith

shorter : (t : List ℕ) → length (white_joined t) ≤ length t
shorter [] = omega arith
shorter (b ∷ t) = omega (arith, length-append (joined_byte b t) (white_joined t), byte_short (is_white b) (begins_white t) b, shorter t)

-- a text is its own joined one where its first byte stays, and the rest is
whole : (piece t : List ℕ) (b : ℕ) → length piece ≤ 1 → piece ++ white_joined t ≡ b ∷ t → (piece ≡ b ∷ []) × (white_joined t ≡ t)
whole [] t b short is = absurd (omega (arith, shorter t, ap length is))
whole (x ∷ []) t b short is = (ap (λ (xs : List ℕ). take_one xs) is, ap (drop 1) is)
  where
    take_one : List ℕ → List ℕ
    take_one [] = []
    take_one (y ∷ ys) = y ∷ []
whole (x ∷ y ∷ piece) t b short is = absurd (omega (arith, short))

pub joined_parts_of : (b : ℕ) (t : List ℕ) → white_joined (b ∷ t) ≡ b ∷ t → (joined_byte b t ≡ b ∷ []) × (white_joined t ≡ t)
joined_parts_of b t is = whole (joined_byte b t) t b (byte_short (is_white b) (begins_white t) b) is

-- a text that is its own joined one begins with a byte that stays
pub first_stays : (t : List ℕ) (n : ℕ) → 1 ≤ length t → length t ≤ n + 1 → white_joined t ≡ t → joined_byte (get_or t 0 0) (take n (drop 1 t)) ≡ get_or t 0 0 ∷ []
first_stays [] n some all is = absurd (omega (arith, some))
first_stays (b ∷ t) n some all is = ap (joined_byte b) (take_all n t (omega (arith, all))) ∙ (joined_parts_of b t is).0

-- ---- a text that is joined once is joined

begins_piece : (white behind : Bool) (b : ℕ) (rest : List ℕ) → is_white b ≡ white → begins_white rest ≡ behind →
    begins_white ((if white then (if behind then [] else space ∷ []) else b ∷ []) ++ rest) ≡ white
begins_piece true true b rest is begins = begins
begins_piece true false b rest is begins = refl
begins_piece false behind b rest is begins = is

begins_as : (t : List ℕ) → begins_white (white_joined t) ≡ begins_white t
begins_as [] = refl
begins_as (b ∷ t) = begins_piece (is_white b) (begins_white t) b (white_joined t) refl (begins_as t)

again_piece : (white behind : Bool) (b : ℕ) (rest : List ℕ) → is_white b ≡ white → begins_white rest ≡ behind → white_joined rest ≡ rest →
    white_joined ((if white then (if behind then [] else space ∷ []) else b ∷ []) ++ rest) ≡ (if white then (if behind then [] else space ∷ []) else b ∷ []) ++ rest
again_piece true true b rest is begins joined = joined
again_piece true false b rest is begins joined =
    ap (λ (white : Bool). (if white then [] else space ∷ []) ++ white_joined rest) begins ∙ ap (λ (t : List ℕ). space ∷ t) joined
again_piece false behind b rest is begins joined =
    ap (λ (white : Bool). (if white then (if begins_white rest then [] else space ∷ []) else b ∷ []) ++ white_joined rest) is
    ∙ ap (λ (t : List ℕ). b ∷ t) joined

pub joined_again : (t : List ℕ) → white_joined (white_joined t) ≡ white_joined t
joined_again [] = refl
joined_again (b ∷ t) = again_piece (is_white b) (begins_white t) b (white_joined t) refl (begins_as t) (joined_again t)
