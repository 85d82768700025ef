-- What a folder in memory holds.
use Rattle.std.specs.Prelude.{List, [], None, Some, fold}
use Rattle.bt_one_shot.specs.Folders.{Contents, Written, Seen, with_file}

-- no file
abbrev pub nothing : Contents
nothing name = None

-- files that were given, and files that were written since: of those of a name the last
abbrev pub held_in : List Written → List Written → Contents
held_in given put = fold with_file (fold with_file nothing given) put

-- an empty folder, of which nothing was read and to which nothing was written
abbrev pub untouched : Seen
untouched = record { held = Some nothing; looked_up = Some []; written = Some []; failures = 0; reads = 0 }
