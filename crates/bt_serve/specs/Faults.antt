-- The numbers of the loop's faults, and what is flushed after one.
use Rattle.std.specs.Prelude.{◌≡◌, ℕ, Bool, true, Result, Ok, Err}
use Rattle.bt_serve.specs.declared.fault.ServeFault.{ServeFault}
use Rattle.bt_serve.specs.declared.fault.ServeFault.TheVariants.{ReadFailed, WriteFailed, Truncated}

-- the number of a fault
abbrev pub number_of_fault : ServeFault → ℕ
number_of_fault ReadFailed = 1
number_of_fault WriteFailed = 2
number_of_fault Truncated = 3

-- Unless a write failed, everything that was written is flushed at the end, if it was before.
abbrev pub HandsOn : {A : Type 0} → Bool → Bool → Result A ServeFault → Type 0
HandsOn old new (Ok x) = old ≡ true → new ≡ true
HandsOn old new (Err ReadFailed) = old ≡ true → new ≡ true
HandsOn old new (Err Truncated) = old ≡ true → new ≡ true
HandsOn old new (Err WriteFailed) = Unit {0}
