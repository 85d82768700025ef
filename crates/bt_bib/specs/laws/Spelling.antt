-- Spellings: which texts spell something. Rules are built from other rules.
use Rattle.std.specs.Prelude.{◌≡◌, ℕ, true, false, ◌||◌, ◌==◌, List, [], ◌∷◌, ◌++◌}
use Rattle.std.specs.List.{list_all, list_any}
use Rattle.bt_text.specs.ByteTests.{is_white, is_brace, left_brace, right_brace}
use Rattle.bt_bib.specs.declared.spot.Spot.{Spot}
use Rattle.bt_bib.specs.Spot.{spot_after}

-- the texts that spell something when they begin at a spot
abbrev pub Spelling : Type 1
Spelling = Spot → List ℕ → Type 0

infixr 60 ◌▸◌
-- one, and right after it the other
pub data ◌▸◌ (A B : Spelling) : Spot → List ℕ → Type 0 where
  Both : {s : Spot} {front back : List ℕ} → A s front → B (spot_after front s) back → (A ▸ B) s (front ++ back)

infixr 55 ◌or◌
-- one or the other
pub data ◌or◌ (A B : Spelling) : Spot → List ℕ → Type 0 where
  This : {s : Spot} {text : List ℕ} → A s text → (A or B) s text
  That : {s : Spot} {text : List ℕ} → B s text → (A or B) s text

-- these bytes, if they satisfy the rule
pub data Bytes (bytes : List ℕ) (IsRight : Type 0) : Spot → List ℕ → Type 0 where
  Written : {s : Spot} → IsRight → Bytes bytes IsRight s bytes

-- optional white space
abbrev pub White : Spelling
White s text = list_all is_white text ≡ true

infixr 60 ◌⋯◌
-- one after the other, with optional white space between them
abbrev pub ◌⋯◌ : Spelling → Spelling → Spelling
A ⋯ B = A ▸ White ▸ B

-- one sign
abbrev pub Sign : ℕ → Spelling
Sign b = Bytes (b ∷ []) (Unit {0})

-- on this line
abbrev pub OnLine : ℕ → Spelling → Spelling
OnLine line A s text = (line ≡ s.line) × A s text

-- if the text itself satisfies a condition
abbrev pub Provided : (List ℕ → Type 0) → Spelling → Spelling
Provided IsRight A s text = IsRight text × A s text

-- What may come before a closing sign: braces only in pairs, and a closing sign only inside a pair of braces.
pub data IsEnclosed : ℕ → List ℕ → Type 0 where
  Nothing : {close : ℕ} → IsEnclosed close []
  Byte : {close b : ℕ} {rest : List ℕ} → is_brace b ≡ false → (b == close) ≡ false →
      IsEnclosed close rest → IsEnclosed close (b ∷ rest)
  Group : {close : ℕ} {inner rest : List ℕ} → IsEnclosed right_brace inner → IsEnclosed close rest →
      IsEnclosed close (left_brace ∷ inner ++ right_brace ∷ rest)

-- A text begins with one of some signs.
abbrev pub BeginsBy : List ℕ → List ℕ → Type 0
BeginsBy signs [] = ⊥
BeginsBy signs (b ∷ rest) = list_any (λ sign. sign == b) signs ≡ true

-- What may follow a name: white space, one of some signs, or nothing.
abbrev pub MayEndName : List ℕ → List ℕ → Type 0
MayEndName signs [] = Unit {0}
MayEndName signs (b ∷ rest) = (is_white b || list_any (λ sign. sign == b) signs) ≡ true
