-- Readers of a text: each returns what it read and the text after it, or stops at a fault.
use Rattle.std.specs.Prelude.{Result, Ok, Err, Option, Some, None}
use Rattle.bt_bib.specs.declared.fault.ItemFault.{ItemFault}
use Rattle.bt_bib.specs.Spot.{Here}

-- a fault, and its place
abbrev pub Stop : Type 0
Stop = ItemFault × Here

infixl 10 ◌>>=◌
-- one reader after the other
abbrev pub ◌>>=◌ : {A B : Type 0} → Result A Stop → (A → Result B Stop) → Result B Stop
(Ok x) >>= f = f x
(Err stop) >>= f = Err stop

-- what was read, if nothing stopped the reader
abbrev pub value_read : {A : Type 0} → Result (A × Here) Stop → Option A
value_read (Ok x) = Some x.0
value_read (Err stop) = None
