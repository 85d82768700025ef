-- What a reach has told of the held line, the preamble and the type.
use Rattle.std.proofs.Common.{◌⊎◌, ◌↔◌, sym, subst, Bool}
use Rattle.std.specs.Prelude.{Contains, IfOk, IsTrue, Result, Ok, Err}
use Rattle.bt_style.specs.declared.builtin.Builtin.TheVariants as builtins
use Rattle.bt_style.specs.declared.style.Target.TheVariants as targets
use Rattle.bt_style.specs.declared.reach.Reach.{Reach}
use Rattle.bt_style.proofs.FoundLemmas.{among_tells, either_tells}

pub held_tells : (r : Reach) → IsTrue r.held ↔ (Contains r.targets (targets.Builtin builtins.Write) ⊎ Contains r.targets (targets.Builtin builtins.Newline))
held_tells r =
    let P : Bool → Type 0 = λ b. IsTrue b ↔ (Contains r.targets (targets.Builtin builtins.Write) ⊎ Contains r.targets (targets.Builtin builtins.Newline)) in
    subst P (sym r.held_named) (either_tells r.targets (targets.Builtin builtins.Write) (targets.Builtin builtins.Newline))

pub preamble_tells : (r : Reach) → IsTrue r.preamble ↔ Contains r.targets (targets.Builtin builtins.Preamble)
preamble_tells r =
    let P : Bool → Type 0 = λ b. IsTrue b ↔ Contains r.targets (targets.Builtin builtins.Preamble) in
    subst P (sym r.preamble_named) (among_tells r.targets (targets.Builtin builtins.Preamble))

pub kind_tells : (r : Reach) → IsTrue r.kind ↔ (Contains r.targets (targets.Builtin builtins.Type) ⊎ Contains r.targets (targets.Builtin builtins.CallType))
kind_tells r =
    let P : Bool → Type 0 = λ b. IsTrue b ↔ (Contains r.targets (targets.Builtin builtins.Type) ⊎ Contains r.targets (targets.Builtin builtins.CallType)) in
    subst P (sym r.kind_named) (either_tells r.targets (targets.Builtin builtins.Type) (targets.Builtin builtins.CallType))

-- what holds of each value holds of a result's
pub each_ok : {A E : Type 0} (r : Result A E) (P : A → Type 0) → ((a : A) → P a) → IfOk r P
each_ok (Ok a) P h = h a
each_ok (Err e) P h = tt
