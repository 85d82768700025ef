-- A message in its parts.
use Rattle.std.specs.Prelude.{ℕ, List, ◌++◌, codes, Some, None}
use Rattle.bt_log.specs.declared.message.Rank.{Rank}
use Rattle.bt_log.specs.declared.message.Rank.TheVariants.{Error}
use Rattle.bt_log.specs.declared.message.FileNote.{FileNote}
use Rattle.bt_log.specs.declared.message.Said.{Said}
use Rattle.bt_log.specs.declared.message.Said.TheVariants.{Words, OfFile}
use Rattle.bt_log.specs.declared.message.Place.{Place}
use Rattle.bt_log.specs.declared.message.Message.{Message}

-- a message that says this, about no entry and without a place
abbrev pub plain : Rank → List ℕ → Message
plain rank words = record { rank = rank; said = Words words; entry = None; place = None; second = None }

-- a message that says this about a file; it is about no entry and has no place
abbrev pub of_file : Rank → FileNote → List ℕ → Message
of_file rank note file = record { rank = rank; said = OfFile note file; entry = None; place = None; second = None }

-- an error at a place, whose second line says that the rest of `what` is skipped
abbrev pub skipping : Said → Place → List ℕ → Message
skipping said place what =
    record {
      rank = Error;
      said = said;
      entry = None;
      place = Some place;
      second = Some (codes "I'm skipping whatever remains of this " ++ what);
    }

-- a message at a place
abbrev pub at : Place → Message → Message
at place m = record m { place = Some place }
