-- What an editor is told of keys beside the run's messages.
use Rattle.std.specs.Prelude.{ℕ, ◌-◌, ◌==◌, nat_lt, ◌&&◌, ◌||◌, not, Bool, true, false, if◌then◌else◌, List, [], ◌∷◌, ◌++◌, length, codes, bytes_eq, is_some, Option, Some, None}
use Rattle.std.specs.List.{fold}
use Rattle.serde_json.specs.Data.{Data, number, unsigned, string, array, item, no_items, object, member, no_members}
use Rattle.bt_text.specs.NameList.{has_name, same_name}
use Rattle.bt_positions.specs.declared.counting.Counting.{Counting}
use Rattle.bt_documents.specs.declared.document.Document.{Document}
use Rattle.bt_mentions.specs.declared.mention.Role.{Role}
use Rattle.bt_mentions.specs.declared.mention.Role.TheVariants.{Key, Crossref, Number, Citation, Definition, Macro}
use Rattle.bt_mentions.specs.declared.mention.Mention.{Mention}
use Rattle.bt_mentions.specs.Databases.{part}
use Rattle.bt_answers.specs.declared.hints.Names.{Names}
use Rattle.bt_answers.specs.declared.hints.Names.TheVariants.{Entries, Asked}
use Rattle.bt_places.specs.Commented.{is_commented}
use Rattle.bt_places.specs.Entries.{is_database, is_tex}
use Rattle.bt_places.specs.Mentioning.{mentions_of}
use Rattle.bt_places.specs.Picking.{with_picked}
use Rattle.bt_places.specs.Shapes.{range_of}

-- how much room is left after a text; none if it has more bytes
abbrev pub room_after : Option ℕ → List ℕ → Option ℕ
room_after None text = None
room_after (Some left) text = if nat_lt left (length text) then None else Some (left - length text)

-- how much room is left after files
abbrev pub room_left : Option ℕ → List (List ℕ × List ℕ) → Option ℕ
room_left room files = fold (λ (r : Option ℕ) (f : List ℕ × List ℕ). room_after r f.1) room files

-- whether files have at most 256 KiB together
abbrev pub is_small : List (List ℕ × List ℕ) → Bool
is_small files = is_some (room_left (Some 262144) files)

-- names and one more, unless one of them matches it
abbrev pub with_name : List (List ℕ) → List ℕ → List (List ℕ)
with_name names name = if is_some (same_name name names) then names else names ++ name ∷ []

-- whether an entry begins here
abbrev pub is_entry : Role → Bool
is_entry Key = true
is_entry Crossref = false
is_entry Number = false
is_entry Citation = false
is_entry Definition = false
is_entry Macro = false

-- whether a key is asked for here
abbrev pub asks : Role → Bool
asks Key = false
asks Crossref = true
asks Number = true
asks Citation = true
asks Definition = false
asks Macro = false

-- whether names of this role are collected
abbrev pub is_asked : Names → Role → Bool
is_asked Entries role = is_entry role
is_asked Asked role = asks role

-- names and that of a mention, if it is collected
abbrev pub with_mention : Names → List ℕ → List (List ℕ) → Mention → List (List ℕ)
with_mention asked text names m = if is_asked asked m.role then with_name names (part m.from m.to text) else names

-- names and those of a file
abbrev pub with_file_names : Names → List (List ℕ) → List ℕ → List ℕ → List (List ℕ)
with_file_names asked names uri text = fold (with_mention asked text) names (mentions_of uri text)

-- names and those of files
abbrev pub with_all_names : Names → List (List ℕ) → List (List ℕ × List ℕ) → List (List ℕ)
with_all_names asked names files =
    fold (λ (ns : List (List ℕ)) (f : List ℕ × List ℕ). with_file_names asked ns f.0 f.1) names files

-- the names in files, of which no two match
abbrev pub names_in : Names → List (List ℕ × List ℕ) → List (List ℕ)
names_in asked files = with_all_names asked [] files

-- a citation of a key that no entry has
abbrev pub missing_hint : Data → Data
missing_hint range =
    object (member (codes "message") (string (codes "No database has an entry of this key."))
    (member (codes "range") range (member (codes "severity") (number (unsigned 2))
    (member (codes "source") (string (codes "bibtex")) no_members))))

-- an entry that nothing cites; the tag says that it is unnecessary
abbrev pub unused_hint : Data → Data
unused_hint range =
    object (member (codes "message") (string (codes "Nothing cites this entry."))
    (member (codes "range") range (member (codes "severity") (number (unsigned 4))
    (member (codes "source") (string (codes "bibtex"))
    (member (codes "tags") (array (item (number (unsigned 1)) no_items)) no_members)))))

-- whether a cited name begins with a `#`, as the argument of a macro does
abbrev pub is_argument : List ℕ → Bool
is_argument [] = false
is_argument (b ∷ t) = b == 35

-- whether a cited name is that of no entry; `*` means all entries
abbrev pub is_missing : List (List ℕ) → List ℕ → Bool
is_missing known name = if bytes_eq name (codes "*") || is_argument name then false else not (has_name known name)

-- whether the key of a mention is that of no entry, and it isn't in a comment
abbrev pub is_missing_at : List (List ℕ) → List ℕ → Mention → Bool
is_missing_at known words m = if is_commented m.from words then false else is_missing known (part m.from m.to words)

-- a list with the hint for a citation, if its key is missing
abbrev pub with_missing : Counting → List (List ℕ) → List ℕ → List Data → Mention → List Data
with_missing c known words list m =
    if is_missing_at known words m then list ++ missing_hint (range_of c words m.from m.to) ∷ [] else list

-- whether an entry's name isn't asked for
abbrev pub is_unused : List (List ℕ) → Role → List ℕ → Bool
is_unused asked role name = if is_entry role then not (has_name asked name) else false

-- whether a mention is that of an entry that isn't asked for
abbrev pub is_unused_at : List (List ℕ) → List ℕ → Mention → Bool
is_unused_at asked words m = is_unused asked m.role (part m.from m.to words)

-- a list with the hint for a mention, if it is that of an entry that isn't asked for
abbrev pub with_unused : Counting → List (List ℕ) → List ℕ → List Data → Mention → List Data
with_unused c asked words list m =
    if is_unused_at asked words m then list ++ unused_hint (range_of c words m.from m.to) ∷ [] else list

-- a list with the hints for the citations in a text of keys that aren't among these
abbrev pub with_missing_among : List (List ℕ) → Document → List Data → List Data
with_missing_among known d list = with_picked (λ u. with_missing d.counting known) list d.name d.text

-- the same, unless there are no keys at all
abbrev pub with_missing_if_any : List (List ℕ) → Document → List Data → List Data
with_missing_if_any [] d list = list
with_missing_if_any (k ∷ known) d list = with_missing_among (k ∷ known) d list

-- a list with the hints for the missing keys of a text of LaTeX
abbrev pub with_all_missing : List (List ℕ × List ℕ) → Document → List Data → List Data
with_all_missing files d list = with_missing_if_any (names_in Entries files) d list

-- whether names say nothing of what isn't asked for: there are none, or one is `*`
abbrev pub asks_all : List (List ℕ) → Bool
asks_all [] = true
asks_all (n ∷ ns) = has_name (n ∷ ns) (codes "*")

-- a list with the hints for the entries of a database whose keys aren't among these
abbrev pub with_unused_beside : List (List ℕ) → Document → List Data → List Data
with_unused_beside asked d list = with_picked (λ u. with_unused d.counting asked) list d.name d.text

-- the same, unless these say nothing of what isn't asked for
abbrev pub with_unused_if_any : List (List ℕ) → Document → List Data → List Data
with_unused_if_any asked d list = if asks_all asked then list else with_unused_beside asked d list

-- a list with the hints for the entries of a database that nothing asks for
abbrev pub with_all_unused : List (List ℕ × List ℕ) → Document → List Data → List Data
with_all_unused files d list = with_unused_if_any (names_in Asked files) d list

-- A list with the hints for a document, if the files have at most 256 KiB together: for a text of LaTeX the citations of
-- missing keys, for a database of the run the entries that nothing cites.
abbrev pub with_hints : List (List ℕ × List ℕ) → Document → List Data → List Data
with_hints files d list =
    if is_small files then
    (if is_tex d.name then with_all_missing files d list
    else (if is_database d.name && d.in_step then with_all_unused files d list else list))
    else list
