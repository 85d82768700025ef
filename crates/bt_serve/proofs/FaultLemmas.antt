-- What was handed on where the loop ends at a fault.
use Rattle.std.proofs.Common.{◌≡◌, Bool, true, Err}
use Rattle.bt_serve.specs.declared.fault.ServeFault.{ServeFault}
use Rattle.bt_serve.specs.declared.fault.ServeFault.TheVariants.{ReadFailed, WriteFailed, Truncated}
use Rattle.bt_serve.specs.Faults.{HandsOn}

-- All was handed on before the turn that ends at a fault, and at it.
pub handed_on_at_a_fault : (old mid new : Bool) (fault : ServeFault) →
    (old ≡ true → mid ≡ true) → HandsOn {A = Bool} mid new (Err fault) → HandsOn {A = Bool} old new (Err fault)
handed_on_at_a_fault old mid new ReadFailed before handed = λ start. handed (before start)
handed_on_at_a_fault old mid new Truncated before handed = λ start. handed (before start)
handed_on_at_a_fault old mid new WriteFailed before handed = tt
