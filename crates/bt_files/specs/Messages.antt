-- Messages with the author's names of files in place of the session's.
use Rattle.std.specs.Prelude.{ℕ, List, unwrap_or}
use Rattle.std.specs.Option.{option_map}
use Rattle.bt_log.specs.declared.message.Said.{Said}
use Rattle.bt_log.specs.declared.message.Said.TheVariants.{Words, OfFile}
use Rattle.bt_log.specs.declared.message.Place.{Place}
use Rattle.bt_log.specs.declared.message.Place.TheVariants.{Line, DatabaseLine, WholeFile, Step}
use Rattle.bt_log.specs.declared.message.Message.{Message}
use Rattle.bt_files.specs.Names.{author_name}

-- the author's name of a file; a name that stands for none stays
abbrev pub name_back : List (List ℕ) → List ℕ → List ℕ
name_back table file = unwrap_or (author_name table file) file

abbrev pub said_back : List (List ℕ) → Said → Said
said_back table (Words words) = Words words
said_back table (OfFile note file) = OfFile note (name_back table file)

abbrev pub place_back : List (List ℕ) → Place → Place
place_back table (Line file line byte) = Line (name_back table file) line byte
place_back table (DatabaseLine database line byte) = DatabaseLine database line byte
place_back table (WholeFile file) = WholeFile (name_back table file)
place_back table (Step style line) = Step (name_back table style) line

-- a message with the author's name of each file in place of the session's
abbrev pub put_back : List (List ℕ) → Message → Message
put_back table m = record m { said = said_back table m.said; place = option_map (place_back table) m.place }
