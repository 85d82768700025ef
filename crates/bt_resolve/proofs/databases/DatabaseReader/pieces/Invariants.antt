use Rattle.std.proofs.Common.{drop}
use Rattle.bt_resolve.specs.inner.Databases.{state_of}
use Rattle.bt_resolve.proofs.ReadingLemmas.{PiecesLeft}
use Rattle.bt_resolve.proofs.databases.DatabaseReader.pieces.Given as goal

abbrev pub invariant-pieces : goal.invariant-pieces
invariant-pieces l = PiecesLeft l.self.asked.now l.self.database (state_of l.initial.reading) l.pieces l.all (state_of l.reading) (drop l.k l.pieces)
