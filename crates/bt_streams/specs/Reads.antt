-- What is read from a source: a byte, a line, a part of a line, counted bytes.
use Rattle.std.specs.Prelude.{◌≡◌, ◌≢◌, ℕ, ◌<◌, ◌++◌, List, [], ◌∷◌, length, take, Option, None, Some, Bool, true, false}
use Rattle.std.specs.Io.KnownBytes.{Consumes, IsAtEnd}
use Rattle.bt_streams.specs.declared.input.LineEnd.{LineEnd}
use Rattle.bt_streams.specs.declared.input.LineEnd.TheVariants.{Feed, End, None as Unended}

-- no line feed
abbrev pub HasNoFeed : List ℕ → Type 0
HasNoFeed [] = Unit {0}
HasNoFeed (b ∷ bs) = (b ≢ 10) × HasNoFeed bs

-- one byte, or none at the end
abbrev pub ReadsByte : Option (List ℕ) → Option (List ℕ) → Option ℕ → Type 0
ReadsByte old new None = Consumes old new [] × IsAtEnd new
ReadsByte old new (Some b) = Consumes old new (b ∷ [])

-- a line, and its line feed, if it has one
abbrev pub ReadsLine : Option (List ℕ) → Option (List ℕ) → List ℕ → LineEnd → Type 0
ReadsLine old new buffer (Feed n) =
    (n < length buffer) × HasNoFeed (take n buffer) × Consumes old new (take n buffer ++ 10 ∷ [])
ReadsLine old new buffer (End n) =
    (n < length buffer) × HasNoFeed (take n buffer) × Consumes old new (take n buffer) × IsAtEnd new
ReadsLine old new buffer Unended = HasNoFeed buffer × Consumes old new buffer

-- some bytes without a line feed
abbrev pub ReadsPart : Option (List ℕ) → Option (List ℕ) → Type 0
ReadsPart old new = (bytes : List ℕ) × HasNoFeed bytes × Consumes old new bytes

-- the rest of a line, and its line feed if it has one
abbrev pub SkipsLine : Option (List ℕ) → Option (List ℕ) → Bool → Type 0
SkipsLine old new true = (bytes : List ℕ) × HasNoFeed bytes × Consumes old new (bytes ++ 10 ∷ [])
SkipsLine old new false = (bytes : List ℕ) × HasNoFeed bytes × Consumes old new bytes × IsAtEnd new

-- fewer bytes than a number
abbrev pub ReadsBelow : Option (List ℕ) → Option (List ℕ) → ℕ → Type 0
ReadsBelow old new n = (bytes : List ℕ) × (length bytes < n) × Consumes old new bytes

-- the bytes of a buffer
abbrev pub ReadsAll : Option (List ℕ) → Option (List ℕ) → List ℕ → Bool → Type 0
ReadsAll old new buffer true = Consumes old new buffer
ReadsAll old new buffer false = (n : ℕ) × (n < length buffer) × Consumes old new (take n buffer) × IsAtEnd new

-- this number of bytes, whatever they are, or fewer and the end
abbrev pub DropsAll : Option (List ℕ) → Option (List ℕ) → ℕ → Bool → Type 0
DropsAll old new n true = (bytes : List ℕ) × (length bytes ≡ n) × Consumes old new bytes
DropsAll old new n false = (bytes : List ℕ) × (length bytes < n) × Consumes old new bytes × IsAtEnd new
