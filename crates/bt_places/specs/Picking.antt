-- Lists of values over the mentions of a file.
use Rattle.std.specs.Prelude.{ℕ, nat_lt, if◌then◌else◌, List, length}
use Rattle.std.specs.List.{fold}
use Rattle.serde_json.specs.Data.{Data}
use Rattle.bt_mentions.specs.declared.mention.Mention.{Mention}
use Rattle.bt_places.specs.Mentioning.{mentions_of}

-- a list with what is added for the mentions of a file of at most 1 GiB, by its URI and its text
abbrev pub with_picked : (List ℕ → List ℕ → List Data → Mention → List Data) → List Data → List ℕ → List ℕ → List Data
with_picked pick list uri text =
    if nat_lt 1073741824 (length text) then list else fold (pick uri text) list (mentions_of uri text)
