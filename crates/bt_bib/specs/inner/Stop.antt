-- The code's readers compared with those of the definitions: both stop at the same places, unless memory runs out.
use Rattle.std.specs.Prelude.{◌≡◌, List, Result, Ok, Err, IfOk}
use Rattle.std.specs.declared.alloc.AllocError.{AllocError}
use Rattle.bt_bib.specs.declared.spot.Spot.{Spot}
use Rattle.bt_bib.specs.declared.stop.ReadStop.{ReadStop}
use Rattle.bt_bib.specs.declared.stop.ReadStop.TheVariants.{OutOfMemory, Stopped}
use Rattle.std.specs.Prelude.{ℕ}
use Rattle.bt_bib.specs.Spot.{Here, here}
use Rattle.bt_bib.specs.inner.Spot.{IsAhead}
use Rattle.bt_bib.specs.Stop.{Stop}

-- A reader of the code stops where the definition does, unless memory ran out.
abbrev pub Stops : {Y : Type 0} → List ℕ → Spot → ReadStop → Result Y Stop → Type 0
Stops text from OutOfMemory read = Unit {0}
Stops text from (Stopped fault s) read = (read ≡ Err (fault, here text s)) × IsAhead text from s

-- It returns what the definition reads, and the spot after it.
abbrev pub Gives : {X : Type 0} → List ℕ → Spot → Result (X × Spot) ReadStop → Result (X × Here) Stop → Type 0
Gives text from (Ok x) read = (read ≡ Ok (x.0, here text x.1)) × IsAhead text from x.1
Gives text from (Err halt) read = Stops text from halt read

-- It returns the spot after what the definition reads.
abbrev pub Finds : List ℕ → Spot → Result Spot ReadStop → Result Here Stop → Type 0
Finds text from (Ok s) read = (read ≡ Ok (here text s)) × IsAhead text from s
Finds text from (Err halt) read = Stops text from halt read

-- It stores in x what the definition reads, and ends where the definition does.
abbrev pub FillsTo : {X : Type 0} → List ℕ → Spot → ReadStop → X → X × Result Here Stop → Type 0
FillsTo text from OutOfMemory x read = Unit {0}
FillsTo text from (Stopped fault s) x read = (read ≡ (x, Err (fault, here text s))) × IsAhead text from s

abbrev pub Fills : {X : Type 0} → List ℕ → Spot → Result Spot ReadStop → X → X × Result Here Stop → Type 0
Fills text from (Ok s) x read = (read ≡ (x, Ok (here text s))) × IsAhead text from s
Fills text from (Err halt) x read = FillsTo text from halt x read

-- what is always read, unless memory ran out
abbrev pub Makes : {X : Type 0} → List ℕ → Spot → Result (X × Spot) AllocError → X × Here → Type 0
Makes text from result read = IfOk result (λ x. (read ≡ (x.0, here text x.1)) × IsAhead text from x.1)
