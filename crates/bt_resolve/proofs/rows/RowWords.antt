-- Words for rows: what a small style sees of literal databases.
use Rattle.std.specs.Prelude.{ℕ, List, [], ◌∷◌, map, codes, Option, Some, None}
use Rattle.bt_bib.specs.laws.BibText.{bib_items}
use Rattle.bt_resolve.specs.declared.declared.Cites.{Cites}
use Rattle.bt_resolve.specs.declared.declared.Declared.{Declared}
use Rattle.bt_resolve.specs.declared.entry.Entry.{Entry}
use Rattle.bt_resolve.specs.declared.entry.Resolved.{Resolved}
use Rattle.bt_log.specs.declared.message.Said.TheVariants.{Words}
use Rattle.bt_log.specs.declared.message.Message.{Message}
use Rattle.bt_log.specs.declared.message.Place.TheVariants.{DatabaseLine}
use Rattle.bt_log.specs.Message.{plain, at, skipping}
use Rattle.bt_log.specs.declared.message.Rank.{Rank}
use Rattle.bt_log.specs.declared.message.Rank.TheVariants.{Warning}
use Rattle.bt_resolve.specs.Resolved.{resolved}

-- a style with the fields `crossref` and `title`, a function for `misc`, and the macro `s`, which stands for `S`
abbrev pub style : Declared
style = record {
  fields = codes "crossref" ∷ codes "title" ∷ [];
  types = codes "misc" ∷ [];
  macros = record { name = codes "s"; value = codes "S" } ∷ [];
}

abbrev pub cited : List (List ℕ) → Cites
cited keys = record { keys = keys; star = None }

-- these keys, with `*` after this many of them
abbrev pub cited_with_star : ℕ → List (List ℕ) → Cites
cited_with_star before keys = record { keys = keys; star = Some before }

-- what the texts of databases resolve to, with this least number of references
abbrev pub found : Cites → List (List ℕ) → ℕ → Resolved
found cites databases min = resolved style cites (map bib_items databases) min

-- these entries and messages, without a preamble
abbrev pub said : List Entry → List Message → Resolved
said entries messages = record { entries = entries; preamble = []; messages = messages }

-- an entry of the type `misc`, by its key, its `crossref` and its title
abbrev pub entry : List ℕ → Option (List ℕ) → Option (List ℕ) → Entry
entry key crossref title = record { key = key; kind = codes "misc"; function = Some 0; fields = crossref ∷ title ∷ [] }

-- a warning at a line of a database
abbrev pub warning : ℕ → ℕ → List ℕ → Message
warning database line words = at (DatabaseLine database line None) (plain Warning words)

-- an error at a line of a database, and at a byte if that is known
abbrev pub error : ℕ → ℕ → Option ℕ → List ℕ → List ℕ → Message
error database line byte words second = skipping (Words words) (DatabaseLine database line byte) second

-- a message about the entry of a key
abbrev pub about : List ℕ → Message → Message
about key m = record m { entry = Some key }

-- a message about the list
abbrev pub told : List ℕ → Rank → List ℕ → Option (List ℕ) → Message
told key rank words second = about key (record (plain rank words) { second = second })
