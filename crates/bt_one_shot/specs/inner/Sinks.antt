-- What is written to a sink after what was written before, as long as it doesn't fail.
use Rattle.std.specs.Prelude.{◌≡◌, ℕ, List, ◌++◌}
use Rattle.bt_streams.specs.Seen.{Sunk}
use Rattle.bt_one_shot.specs.Sinks.{Tells}

-- Whatever text was reported since the sink's failures were counted, this one is reported after it.
abbrev pub GoesOn : ℕ → Sunk → Sunk → List ℕ → Type 0
GoesOn failures_before old new more = (first : Sunk) (text : List ℕ) → first.failures ≡ failures_before →
    Tells first old text → Tells first new (text ++ more)
