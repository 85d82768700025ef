-- What is reported on a sink.
use Rattle.std.specs.Prelude.{◌≡◌, ◌⊎◌, ℕ, true, List}
use Rattle.bt_streams.specs.Seen.{Sunk}
use Rattle.bt_streams.specs.Writes.{WritesAll, WritesPart}

-- A text is written, and flushed if everything was flushed before; or the sink fails once, and has a prefix of the
-- text.
abbrev pub Tells : Sunk → Sunk → List ℕ → Type 0
Tells old new text =
    (WritesAll old new text × (old.is_flushed ≡ true → new.is_flushed ≡ true)) ⊎ WritesPart old new text
