-- A message in words: what it says, then where it belongs, then its second line.
use Rattle.std.specs.Prelude.{ℕ, List, [], ◌∷◌, ◌++◌, codes, decimal, Option, Some, None}
use Rattle.bt_log.specs.declared.message.Rank.{Rank}
use Rattle.bt_log.specs.declared.message.Rank.TheVariants.{Warning, Error, Fatal}
use Rattle.bt_log.specs.declared.message.FileKind.{FileKind}
use Rattle.bt_log.specs.declared.message.FileKind.TheVariants.{Aux, Bib, Bst}
use Rattle.bt_log.specs.declared.message.FileNote.{FileNote}
use Rattle.bt_log.specs.declared.message.FileNote.TheVariants.{RootAux, NestedAux, StyleFile, DatabaseFile, NotOpened, DatabaseTwice, AuxTwice, WrongExtension, BadFileName}
use Rattle.bt_log.specs.declared.message.Said.{Said}
use Rattle.bt_log.specs.declared.message.Said.TheVariants.{Words, OfFile}
use Rattle.bt_log.specs.declared.message.Place.{Place}
use Rattle.bt_log.specs.declared.message.Place.TheVariants.{Line, DatabaseLine, WholeFile, Step}
use Rattle.bt_log.specs.declared.message.Message.{Message}

-- what a message calls a kind of file
abbrev pub kind_words : FileKind → List ℕ
kind_words Aux = codes "auxiliary"
kind_words Bib = codes "database"
kind_words Bst = codes "style"

-- what a message says about a file
abbrev pub note_words : FileNote → List ℕ → List ℕ
note_words RootAux file = codes "The top-level auxiliary file: " ++ file
note_words (NestedAux level) file = codes "A level-" ++ decimal level ++ codes " auxiliary file: " ++ file
note_words StyleFile file = codes "The style file: " ++ file
note_words (DatabaseFile number) file = codes "Database file #" ++ decimal number ++ codes ": " ++ file
note_words (NotOpened kind) file = codes "I couldn't open " ++ kind_words kind ++ codes " file " ++ file
note_words DatabaseTwice file = codes "This database file appears more than once: " ++ file
note_words AuxTwice file = codes "Already encountered file " ++ file
note_words WrongExtension file = file ++ codes " has a wrong extension"
note_words BadFileName file = file ++ codes " isn't a file name of this profile"

-- what a message says, without its place
abbrev pub said_words : Said → List ℕ
said_words (Words words) = words
said_words (OfFile note file) = note_words note file

-- The place of a warning is on a line of its own; that of any other message follows its words.
abbrev pub before_line : Rank → List ℕ
before_line Warning = codes "\n--line "
before_line _ = codes "---line "

-- the entry of a step
abbrev pub for_entry : Option (List ℕ) → List ℕ
for_entry None = []
for_entry (Some key) = codes " for entry " ++ key

-- Where a message belongs, given its rank and the entry that it is about, if any. An error of a step names the entry
-- and the style's command; what the style itself logs has no place added.
abbrev pub place_words : Rank → Option (List ℕ) → Option Place → List ℕ
place_words rank entry None = []
place_words rank entry (Some (Line file line byte)) = before_line rank ++ decimal line ++ codes " of file " ++ file
place_words rank entry (Some (DatabaseLine number line byte)) =
    before_line rank ++ decimal line ++ codes " of database #" ++ decimal number
place_words rank entry (Some (WholeFile file)) = codes "---while reading file " ++ file
place_words rank entry (Some (Step style line)) =
    let step = for_entry entry ++ (codes "\nwhile executing---line " ++ decimal line ++ codes " of file " ++ style) in
    elim rank [ Error ↦ step | Fatal ↦ step | _ ↦ [] ]

-- a message in words
abbrev pub spelled : Message → List ℕ
spelled m =
    let second : List ℕ = elim m.second [ None ↦ [] | Some words ↦ 10 ∷ words ] in
    said_words m.said ++ place_words m.rank m.entry m.place ++ second
