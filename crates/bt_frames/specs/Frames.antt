-- What is read from a source: a header, and a whole frame.
use Rattle.std.specs.Prelude.{◌≡◌, ◌<◌, ◌≤◌, ◌⊎◌, ℕ, List, [], ◌++◌, length, Option, Some, None}
use Rattle.std.specs.Io.KnownBytes.{Consumes, IsAtEnd}
use Rattle.bt_frames.specs.declared.framing.Header.{Header}
use Rattle.bt_frames.specs.declared.framing.Header.TheVariants.{Length, End, Cut}
use Rattle.bt_frames.specs.declared.framing.Frame.{Frame}
use Rattle.bt_frames.specs.declared.framing.Frame.TheVariants.{Body, NoLength, TooLarge, NoMemory, End as FrameEnd, Cut as FrameCut}
use Rattle.bt_frames.specs.Headers.{IsHeader, IsCutHeader}

-- the most bytes of a body
abbrev pub body_bytes : ℕ
body_bytes = 16777216

-- a frame that was cut off: a part of a header, or a header and a part of its body
abbrev pub IsCutFrame : List ℕ → Type 0
IsCutFrame bytes =
    IsCutHeader bytes ⊎
    ((header : List ℕ) × (body : List ℕ) × (count : ℕ) × IsHeader header (Some count) × (length body < count) ×
    (bytes ≡ header ++ body))

-- a whole header and what it says, or nothing at the end, or a part of one and the end
abbrev pub ReadsHeader : Option (List ℕ) → Option (List ℕ) → Header → Type 0
ReadsHeader old new (Length says) = (bytes : List ℕ) × IsHeader bytes says × Consumes old new bytes
ReadsHeader old new End = Consumes old new [] × IsAtEnd new
ReadsHeader old new Cut = (bytes : List ℕ) × IsCutHeader bytes × Consumes old new bytes × IsAtEnd new

-- A header and the body after it, also if it is too large or there is no memory for it; a header that says no length;
-- nothing at the end; or a part of these and the end.
abbrev pub ReadsFrame : Option (List ℕ) → Option (List ℕ) → Frame → Type 0
ReadsFrame old new (Body body) =
    (header : List ℕ) × IsHeader header (Some (length body.items)) × (length body.items ≤ body_bytes) ×
    Consumes old new (header ++ body.items)
ReadsFrame old new NoLength = (header : List ℕ) × IsHeader header None × Consumes old new header
ReadsFrame old new TooLarge =
    (header : List ℕ) × (body : List ℕ) × IsHeader header (Some (length body)) × (body_bytes < length body) ×
    Consumes old new (header ++ body)
ReadsFrame old new NoMemory =
    (header : List ℕ) × (body : List ℕ) × IsHeader header (Some (length body)) × (length body ≤ body_bytes) ×
    Consumes old new (header ++ body)
ReadsFrame old new FrameEnd = Consumes old new [] × IsAtEnd new
ReadsFrame old new FrameCut = (bytes : List ℕ) × IsCutFrame bytes × Consumes old new bytes × IsAtEnd new
