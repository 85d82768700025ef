-- The keys and macros of all databases.
use Rattle.std.specs.Prelude.{ℕ, ◌==◌, ◌&&◌, ◌||◌, not, min, Bool, if◌then◌else◌, List, [], ◌∷◌, ◌++◌, take, length, codes, unwrap_or}
use Rattle.serde_json.specs.Data.{Data, number, unsigned, array, object, member, no_members}
use Rattle.serde_json.specs.View.{items_of}
use Rattle.bt_text.specs.CaseFolding.{is_same_folded}
use Rattle.bt_positions.specs.declared.counting.Counting.{Counting}
use Rattle.bt_mentions.specs.declared.mention.Role.{Role}
use Rattle.bt_mentions.specs.declared.mention.Role.TheVariants.{Key, Crossref, Number, Citation, Definition, Macro}
use Rattle.bt_mentions.specs.declared.mention.Mention.{Mention}
use Rattle.bt_mentions.specs.Databases.{part}
use Rattle.bt_documents.specs.declared.document.Document.{Document}
use Rattle.bt_places.specs.Editor.{counting_in}
use Rattle.bt_places.specs.Parameters.{text_at}
use Rattle.bt_places.specs.Picking.{with_picked}
use Rattle.bt_places.specs.Shapes.{text, location, range_of}
use Rattle.bt_places.specs.Visiting.{with_files}

-- the text that a message asks for; empty if it has none
abbrev pub query_of : Data → List ℕ
query_of m = unwrap_or (text_at (codes "/params/query") m) []

-- whether a text contains another, without regard to case
abbrev pub contains : List ℕ → List ℕ → Bool
contains query [] = length query == 0
contains query (b ∷ t) =
    is_same_folded (take (min (length query) (length (b ∷ t))) (b ∷ t)) query || contains query t

-- the protocol's number for what begins or is defined here: 20 for a key, 14 for a constant; 0 for other mentions
abbrev pub number_of : Role → ℕ
number_of Key = 20
number_of Definition = 14
number_of Crossref = 0
number_of Number = 0
number_of Citation = 0
number_of Macro = 0

-- whether a mention of a text is a symbol whose name contains another text
abbrev pub is_symbol : List ℕ → List ℕ → Mention → Bool
is_symbol query words m = not (number_of m.role == 0) && contains query (part m.from m.to words)

-- a symbol: its name, the protocol's number, and its place
abbrev pub symbol : List ℕ → ℕ → Data → Data
symbol name kind place =
    object (member (codes "kind") (number (unsigned kind)) (member (codes "location") place
    (member (codes "name") (text name) no_members)))

-- the symbol of a mention in the text of the file at a URI
abbrev pub symbol_at : Counting → List ℕ → List ℕ → Mention → Data
symbol_at c uri words m =
    symbol (part m.from m.to words) (number_of m.role) (location uri (range_of c words m.from m.to))

-- a list with the symbol of a mention, if it is one that is asked for; `units` gives the units of each file's text
abbrev pub with_symbol : (List ℕ → Counting) → List ℕ → List ℕ → List ℕ → List Data → Mention → List Data
with_symbol units query uri words list m =
    if is_symbol query words m then list ++ symbol_at (units uri) uri words m ∷ [] else list

-- a list with the symbols of a file
abbrev pub with_symbols : (List ℕ → Counting) → List ℕ → List Data → List ℕ → List ℕ → List Data
with_symbols units query list uri words = with_picked (with_symbol units query) list uri words

-- the symbols of files whose names contain the text that a message asks for
abbrev pub symbols : List (List ℕ × List ℕ) → List Document → Counting → Data → Data
symbols files docs c m =
    array (items_of (with_files (with_symbols (counting_in c docs) (query_of m)) files []))
