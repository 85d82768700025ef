-- The files that a text names.
use Rattle.std.specs.Prelude.{ℕ, ◌+◌, ◌==◌, ◌&&◌, ◌||◌, nat_le, Bool, if◌then◌else◌, List, [], ◌++◌, codes, bytes_eq, Option, Some, None}
use Rattle.std.specs.List.{cons_option, fold}
use Rattle.std.specs.Char.{to_ascii_lowercase}
use Rattle.bt_text.specs.ByteTests.{is_white}
use Rattle.bt_mentions.specs.declared.linking.LinkKind.{LinkKind}
use Rattle.bt_mentions.specs.declared.linking.LinkKind.TheVariants.{Database, Style, Text}
use Rattle.bt_mentions.specs.declared.linking.Link.{Link}
use Rattle.bt_mentions.specs.declared.linking.Linking.{Linking}
use Rattle.bt_mentions.specs.declared.linking.Linking.TheVariants.{Outside, Command, Ahead, Choice, Argument, File}
use Rattle.bt_mentions.specs.declared.linking.LinkScan.{LinkScan}
use Rattle.bt_mentions.specs.Databases.{part}

-- what a command's argument names, if it names files
abbrev pub kind_of : List ℕ → Option LinkKind
kind_of command =
    if bytes_eq command (codes "bibliography") || bytes_eq command (codes "bibdata") ||
    bytes_eq command (codes "addbibresource") then Some Database
    else (if bytes_eq command (codes "bibliographystyle") || bytes_eq command (codes "bibstyle") then Some Style
    else (if bytes_eq command (codes "input") || bytes_eq command (codes "include") ||
    bytes_eq command (codes "@input") then Some Text
    else None))

-- whether a byte belongs to a command's name
abbrev pub is_command_byte : ℕ → Bool
is_command_byte byte =
    let letter = to_ascii_lowercase byte in
    (nat_le 97 letter && nat_le letter 122) || byte == 64

-- whether a byte ends a file's name
abbrev pub ends_name : ℕ → Bool
ends_name byte = byte == 125 || byte == 44 || is_white byte

-- after a byte that follows the name or an option of a command that names files
abbrev pub before_after : LinkKind → ℕ → ℕ → Linking
before_after kind place byte =
    if byte == 91 then Choice kind else
    (if byte == 123 then Argument kind else
    (if byte == 92 then Command (place + 1) else
    (if is_white byte then Ahead kind else Outside)))

-- the same after the name of any command, or outside of all
abbrev pub after_command : Option LinkKind → ℕ → ℕ → Linking
after_command None place byte = if byte == 92 then Command (place + 1) else Outside
after_command (Some kind) place byte = before_after kind place byte

-- after a byte of an argument that belongs to no name
abbrev pub in_argument : LinkKind → ℕ → ℕ → Linking
in_argument kind place byte =
    if byte == 125 then Outside else (if ends_name byte then Argument kind else File kind place)

-- after a byte at a place of a text
abbrev pub linking_after : List ℕ → ℕ → Linking → ℕ → Linking
linking_after text place Outside byte = after_command None place byte
linking_after text place (Command from) byte =
    if is_command_byte byte then Command from else after_command (kind_of (part from place text)) place byte
linking_after text place (Ahead kind) byte = before_after kind place byte
linking_after text place (Choice kind) byte = if byte == 93 then Ahead kind else Choice kind
linking_after text place (Argument kind) byte = in_argument kind place byte
linking_after text place (File kind from) byte =
    if ends_name byte then in_argument kind place byte else File kind from

-- the name that ends before a byte at a place, if one does
abbrev pub link_before : Linking → ℕ → ℕ → Option Link
link_before (File kind from) place byte =
    if ends_name byte then Some (record { from = from; to = place; kind = kind }) else None
link_before Outside place byte = None
link_before (Command from) place byte = None
link_before (Ahead kind) place byte = None
link_before (Choice kind) place byte = None
link_before (Argument kind) place byte = None

-- a scan of a text after one more byte
abbrev pub link_after : List ℕ → LinkScan → ℕ → LinkScan
link_after text s byte =
    record {
      state = linking_after text s.place s.state byte;
      place = s.place + 1;
      found = s.found ++ cons_option (link_before s.state s.place byte) [];
    }

-- the files that a text names, in order
abbrev pub links : List ℕ → List Link
links text = (fold (link_after text) (record { state = Outside; place = 0; found = [] }) text).found
