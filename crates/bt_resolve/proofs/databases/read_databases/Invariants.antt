use Rattle.std.proofs.Common.{◌+◌, drop}
use Rattle.bt_resolve.specs.inner.Databases.{state_of}
use Rattle.bt_resolve.proofs.ReadingLemmas.{DatabasesLeft}
use Rattle.bt_resolve.proofs.databases.read_databases.Given as goal

abbrev pub invariant-databases : goal.invariant-databases
invariant-databases l = DatabasesLeft l.asked (state_of l.initial.reading) l.databases l.all (l.i + 1) (state_of l.reading) (drop l.i l.databases)
