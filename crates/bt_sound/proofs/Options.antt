-- Nothing is not something.
use Rattle.std.proofs.Common.{◌≡◌, Option, Some, None, subst}

abbrev IsNothing : {A : Type 0} → Option A → Type 0
IsNothing None = Unit {0}
IsNothing (Some a) = ⊥

pub nothing : {A P : Type 0} (x : A) → None ≡ Some x → P
nothing x e = absurd (subst IsNothing e tt)
