-- Links from the names of files in a text to these files.
use Rattle.std.specs.Prelude.{ℕ, ◌-◌, ◌==◌, nat_le, nat_lt, ◌&&◌, ◌||◌, not, Bool, if◌then◌else◌, List, [], ◌∷◌, ◌++◌, take, drop, length, codes, bytes_eq}
use Rattle.std.specs.List.{fold, list_all, suffix_len}
use Rattle.std.specs.Char.{to_ascii_lowercase}
use Rattle.serde_json.specs.Data.{Data, null, array, object, member, no_members}
use Rattle.serde_json.specs.View.{items_of}
use Rattle.bt_documents.specs.declared.document.Document.{Document}
use Rattle.bt_mentions.specs.declared.linking.Link.{Link}
use Rattle.bt_mentions.specs.declared.linking.LinkKind.{LinkKind}
use Rattle.bt_mentions.specs.declared.linking.LinkKind.TheVariants.{Database, Style, Text as Chapter}
use Rattle.bt_mentions.specs.Databases.{part}
use Rattle.bt_mentions.specs.Links.{links}
use Rattle.bt_places.specs.Entries.{has_extension, is_database, is_style}
use Rattle.bt_places.specs.Shapes.{text, range_of}
use Rattle.bt_places.specs.Visiting.{with_files}

-- the extension of a kind of file
abbrev pub extension : LinkKind → List ℕ
extension Database = codes ".bib"
extension Style = codes ".bst"
extension Chapter = codes ".tex"

-- whether a name has an extension already; a text may name an `.aux` file, too
abbrev pub has_own_extension : LinkKind → List ℕ → Bool
has_own_extension Database name = has_extension (codes ".bib") name
has_own_extension Style name = has_extension (codes ".bst") name
has_own_extension Chapter name = has_extension (codes ".tex") name || has_extension (codes ".aux") name

-- the name of the file that a text means by a name, with these bytes before it
abbrev pub full_name : List ℕ → LinkKind → List ℕ → List ℕ
full_name before kind name =
    if has_own_extension kind name then before ++ name else before ++ name ++ extension kind

-- whether a byte stands for itself in a URI and in a file's name: a letter, a digit, `+`, `-`, `.`, `/` or `_`
abbrev pub is_plain_byte : ℕ → Bool
is_plain_byte byte =
    let letter = to_ascii_lowercase byte in
    (nat_le 97 letter && nat_le letter 122) || (nat_le 43 byte && nat_le byte 57 && not (byte == 44)) || byte == 95

-- how many bytes follow the last slash of a URI
abbrev pub behind_slash : List ℕ → ℕ
behind_slash uri = suffix_len (λ b. not (b == 47)) uri

-- the folder of a file, with its slash
abbrev pub folder : List ℕ → List ℕ
folder uri = take (length uri - behind_slash uri) uri

-- the name of a file without its folder
abbrev pub file_name : List ℕ → List ℕ
file_name uri = drop (length uri - behind_slash uri) uri

-- whether a URI ends with these bytes
abbrev pub ends_with : List ℕ → List ℕ → Bool
ends_with suffix uri =
    nat_le (length suffix) (length uri) && bytes_eq (drop (length uri - length suffix) uri) suffix

-- a link: a part of a text, and the URI of a file
abbrev pub link_value : Data → List ℕ → Data
link_value range target = object (member (codes "range") range (member (codes "target") (text target) no_members))

-- the link of a document to a file
abbrev pub link_to : Document → Link → List ℕ → Data
link_to d link target = link_value (range_of d.counting d.text link.from link.to) target

-- a list with this link, if the document has at most 1 GiB
abbrev pub with_link_to : Document → Link → List Data → List ℕ → List Data
with_link_to d link list target =
    if nat_lt 1073741824 (length d.text) then list else list ++ link_to d link target ∷ []

-- a list with the link to a file, if its URI ends with these bytes
abbrev pub with_file : Document → Link → List ℕ → List Data → List ℕ → List ℕ → List Data
with_file d link suffix list uri words = if ends_with suffix uri then with_link_to d link list uri else list

-- The folder from which a name in a text of this folder leads to another text. LaTeX looks from the paper's folder, so in
-- `chapters/`, `chapters/two` isn't in a folder `chapters/chapters/`.
abbrev pub folder_before : List ℕ → List ℕ → List ℕ
folder_before own name =
    let start = length own - length (folder name) in
    if bytes_eq (drop start own) (folder name) && behind_slash (take start own) == 0 then take start own else own

-- a list with the link to another part of the text
abbrev pub with_part : Document → Link → List Data → List ℕ → List Data
with_part d link list name = with_link_to d link list (full_name (folder_before (folder d.name) name) link.kind name)

-- a list with the link to the file of the run that has this name
abbrev pub with_named : List (List ℕ × List ℕ) → Document → Link → List Data → List ℕ → List Data
with_named files d link list name = with_files (with_file d link (full_name (codes "/") link.kind name)) files list

-- the same for a link of this kind
abbrev pub with_kind : List (List ℕ × List ℕ) → Document → Link → LinkKind → List Data → List ℕ → List Data
with_kind files d link Database list name = with_named files d link list name
with_kind files d link Style list name = with_named files d link list name
with_kind files d link Chapter list name = with_part d link list name

-- a list with a link of a document, if its name needs no escapes
abbrev pub with_link : List (List ℕ × List ℕ) → Document → List Data → Link → List Data
with_link files d list link =
    let name = part link.from link.to d.text in
    if list_all is_plain_byte name then with_kind files d link link.kind list name else list

-- the links of a document, unless it is a database or a style
abbrev pub links_of : List (List ℕ × List ℕ) → Document → Data
links_of files d =
    if is_database d.name || is_style d.name then null
    else array (items_of (fold (with_link files d) [] (links d.text)))
