-- Parts of a command, up to the first wrong one.
use Rattle.std.proofs.Common.{◌≡◌, List, [], ◌∷◌, ◌++◌, ℕ, Option, Some, None, refl}
use Rattle.std.specs.Option.{option_map}
use Rattle.bt_bib.specs.declared.aux_argument.AuxFault.{AuxFault}
use Rattle.bt_bib.specs.declared.aux_argument.AuxFault.TheVariants.{NoBrace, WhiteSpace, StuffAfter}
use Rattle.bt_job.specs.declared.progress.Outcome.{Outcome}
use Rattle.bt_job.specs.declared.progress.Outcome.TheVariants.{Taken, Wrong}
use Rattle.bt_job.specs.Faults.{LineFault, IllEnded, said, PartFault, right_parts, first_fault}
use Rattle.bt_job.specs.inner.LineEffects.{fault_outcome}

-- the result of the code's step, given what is wrong
abbrev pub outcome_of : Option LineFault → Outcome
outcome_of None = Taken
outcome_of (Some fault) = Wrong (said fault)

-- the end of an argument
pub end_outcome : (end : Option AuxFault) → fault_outcome end ≡ outcome_of (option_map IllEnded end)
end_outcome None = refl
end_outcome (Some NoBrace) = refl
end_outcome (Some WhiteSpace) = refl
end_outcome (Some StuffAfter) = refl

pub right_wrong : (fault : PartFault) (before : List (List ℕ)) (part : List ℕ) (parts : List (List ℕ)) (f : LineFault)
    → fault before part ≡ Some f → right_parts fault before (part ∷ parts) ≡ []
right_wrong fault before part parts f is = rw is refl

pub right_more : (fault : PartFault) (before : List (List ℕ)) (part : List ℕ) (parts : List (List ℕ))
    → fault before part ≡ None → right_parts fault before (part ∷ parts) ≡ part ∷ right_parts fault (before ++ part ∷ []) parts
right_more fault before part parts is = rw is refl

pub first_wrong : (fault : PartFault) (before : List (List ℕ)) (part : List ℕ) (parts : List (List ℕ)) (f : LineFault)
    → fault before part ≡ Some f → first_fault fault before (part ∷ parts) ≡ Some f
first_wrong fault before part parts f is = rw is refl

pub first_more : (fault : PartFault) (before : List (List ℕ)) (part : List ℕ) (parts : List (List ℕ))
    → fault before part ≡ None → first_fault fault before (part ∷ parts) ≡ first_fault fault (before ++ part ∷ []) parts
first_more fault before part parts is = rw is refl
