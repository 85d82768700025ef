-- The mentions of a file, and the one under the cursor.
use Rattle.std.specs.Prelude.{ℕ, nat_le, ◌&&◌, not, Bool, true, false, if◌then◌else◌, List, [], find, Option}
use Rattle.bt_positions.specs.Positions.{offset_of}
use Rattle.bt_positions.specs.declared.indexed_text.Position.{Position}
use Rattle.bt_documents.specs.declared.document.Document.{Document}
use Rattle.bt_mentions.specs.declared.mention.Role.{Role}
use Rattle.bt_mentions.specs.declared.mention.Role.TheVariants.{Key, Crossref, Number, Citation, Definition, Macro}
use Rattle.bt_mentions.specs.declared.mention.Mention.{Mention}
use Rattle.bt_mentions.specs.Scan.{citations}
use Rattle.bt_mentions.specs.Databases.{mentions}
use Rattle.bt_places.specs.Commented.{without_open_comments}
use Rattle.bt_places.specs.Entries.{is_database, is_style, is_tex}

-- the citations of a file that is no database; what a comment of LaTeX leaves open cites nothing
abbrev pub citations_of : List ℕ → List ℕ → List Mention
citations_of name text = if not (is_tex name) then citations false text else citations true (without_open_comments text)

-- the mentions of a file, by its name: a database has mentions, a style none, and any other text citations
abbrev pub mentions_of : List ℕ → List ℕ → List Mention
mentions_of name text =
    if is_database name then mentions text else (if is_style name then [] else citations_of name text)

-- whether a key is mentioned, and not a macro
abbrev pub is_key : Role → Bool
is_key Key = true
is_key Crossref = true
is_key Number = true
is_key Citation = true
is_key Definition = false
is_key Macro = false

-- whether a place lies in a mention, or at its end
abbrev pub touches : ℕ → Mention → Bool
touches place m = nat_le m.from place && nat_le place m.to

-- the mention at a position of a document
abbrev pub mention_at : Document → Position → Option Mention
mention_at d at = find (touches (offset_of d.counting at d.text)) (mentions_of d.name d.text)
