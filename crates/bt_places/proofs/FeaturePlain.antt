-- The features' values have no floats.
use Rattle.std.proofs.Common.{◌≡◌, ℕ, List, length, Bool, true, false, if◌then◌else◌, Option, Some, None}
use Rattle.std.specs.Prelude.{nat_lt}
use Rattle.std.specs.List.{AllByRecursion, fold}
use Rattle.serde_json.specs.Written.{has_float}
use Rattle.serde_json.specs.Data.{Data}
use Rattle.bt_talk.specs.Handled.{HasNoFloat}
use Rattle.bt_mentions.specs.declared.mention.Mention.{Mention}
use Rattle.bt_places.specs.Mentioning.{mentions_of}
use Rattle.bt_places.specs.Picking.{with_picked}
use Rattle.bt_places.proofs.PlainLists.{either_plain, fold_plain}

-- a value that may be missing
abbrev pub OptionIsPlain : Option Data → Type 0
OptionIsPlain None = Unit {0}
OptionIsPlain (Some d) = has_float d ≡ false

-- ---- mentions

pub picked_plain : (pick : List ℕ → List ℕ → List Data → Mention → List Data) →
    ((uri text : List ℕ) (list : List Data) (m : Mention) → AllByRecursion HasNoFloat list → AllByRecursion HasNoFloat (pick uri text list m)) → (list : List Data) (uri text : List ℕ) →
    AllByRecursion HasNoFloat list → AllByRecursion HasNoFloat (with_picked pick list uri text)
picked_plain pick step list uri text p =
    either_plain (nat_lt 1073741824 (length text)) list (fold (pick uri text) list (mentions_of uri text)) p (fold_plain (pick uri text) (step uri text) (mentions_of uri text) list p)

pub unless_plain : (b : Bool) (d : Data) → has_float d ≡ false → OptionIsPlain (if b then None else Some d)
unless_plain true d p = tt
unless_plain false d p = p
