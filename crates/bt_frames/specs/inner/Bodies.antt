-- The end of a header, and the body after one.
use Rattle.std.specs.Prelude.{◌≡◌, ◌<◌, ◌≤◌, ◌⊎◌, ℕ, Bool, true, false, List, length, Option}
use Rattle.std.specs.Io.KnownBytes.{Consumes, IsAtEnd}
use Rattle.bt_frames.specs.declared.framing.Header.{Header}
use Rattle.bt_frames.specs.declared.framing.Header.TheVariants.{Length, End, Cut}
use Rattle.bt_frames.specs.declared.framing.Frame.{Frame}
use Rattle.bt_frames.specs.declared.framing.Frame.TheVariants.{Body, NoLength, TooLarge, NoMemory, End as FrameEnd, Cut as FrameCut}
use Rattle.bt_frames.specs.Frames.{body_bytes}

-- what the end of the input means: nothing precedes it, or something does
abbrev pub IsEnded : Bool → ℕ → Header → Type 0
IsEnded first count (Length says) = ⊥
IsEnded first count End = (first ≡ true) × (count ≡ 0)
IsEnded first count Cut = (first ≡ false) ⊎ (0 < count)

-- what is read of a body of this many bytes
abbrev pub ReadsBody : Option (List ℕ) → Option (List ℕ) → ℕ → Frame → Type 0
ReadsBody old new count (Body body) = (length body.items ≡ count) × (count ≤ body_bytes) × Consumes old new body.items
ReadsBody old new count NoLength = ⊥
ReadsBody old new count TooLarge = (body : List ℕ) × (length body ≡ count) × (body_bytes < count) × Consumes old new body
ReadsBody old new count NoMemory = (body : List ℕ) × (length body ≡ count) × (count ≤ body_bytes) × Consumes old new body
ReadsBody old new count FrameEnd = ⊥
ReadsBody old new count FrameCut = (body : List ℕ) × (length body < count) × Consumes old new body × IsAtEnd new
