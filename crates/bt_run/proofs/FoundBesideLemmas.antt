-- What READ finds changed, by the entries of the old run.
use Rattle.std.specs.Prelude.{bytes_eq, slice_index_or, slice_set}
use Rattle.std.proofs.Common.{◌≡◌, ◌≢◌, refl, sym, ap, ◌∙◌, subst, inl, inr, ℕ, zero, suc, ◌<◌, List, [], ◌∷◌, length, map, arith}
use Rattle.std.proofs.lemmas.Bool.{cases_eq}
use Rattle.std.proofs.lemmas.List.{get_or-set_other, get_or-set_same, length-map}
use Rattle.bt_style.specs.Program.{Program}
use Rattle.bt_actions.specs.declared.entry.Entry.{Entry}
use Rattle.bt_actions.specs.World.{no_entry}
use Rattle.bt_resolve.specs.declared.entry.Entry.{Entry as FoundEntry}
use Rattle.bt_resolve.specs.declared.entry.Resolved.{Resolved}
use Rattle.bt_run.specs.ReadCommand.{with_blank_variables}
use Rattle.bt_run.specs.inner.Alike.{AreFound, found_at, found_fixed}
use Rattle.bt_run.specs.inner.Beside.{HasKey}
use Rattle.bt_run.specs.inner.Earlier.{fixed, fixed_at}
use Rattle.bt_run.proofs.AlikeLemmas.{blank_fixed}

-- an entry that was found, in the place of another
found_other : (es : List FoundEntry) (n m : ℕ) (d : FoundEntry) → m ≢ n → found_at es m ≡ found_at (slice_set es n d) m
found_other [] n m d other = refl
found_other (e ∷ es) zero zero d other = absurd (other refl)
found_other (e ∷ es) zero (suc m) d other = refl
found_other (e ∷ es) (suc n) zero d other = refl
found_other (e ∷ es) (suc n) (suc m) d other = found_other es n m d (λ same. other (ap suc same))

found_own : (es : List FoundEntry) (n : ℕ) (d : FoundEntry) → n < length es → found_at (slice_set es n d) n ≡ found_fixed d
found_own [] n d lt = absurd (omega (arith, lt))
found_own (e ∷ es) zero d lt = refl
found_own (e ∷ es) (suc n) d lt = found_own es n d (omega (arith, lt))

-- The new run's entries are those that READ finds now, if those before were what it found before.
pub found_beside : (n : ℕ) (d : FoundEntry) (was is : Resolved) (p : Program) (entries : List Entry) (last : Entry) → is.entries ≡ slice_set was.entries n d → AreFound was entries → n < length was.entries → n < length entries → fixed last ≡ fixed (with_blank_variables p d) → AreFound is (slice_set entries n last)
found_beside n d was is p entries last finds found within lt same = λ m.
    let now : found_at (slice_set was.entries n d) m ≡ found_at is.entries m = ap (λ (es : List FoundEntry). found_at es m) (sym finds) in
    elim (cases_eq m n) [
      | inr other ↦
          ap fixed (get_or-set_other entries n m last no_entry other) ∙ found m ∙ found_other was.entries n m d other ∙ now
      | inl own ↦
          subst (λ (i : ℕ). fixed_at (slice_set entries n last) i ≡ found_at (slice_set was.entries n d) i) (sym own)
          (ap fixed (get_or-set_same entries n last no_entry lt) ∙ same ∙ sym (found_own was.entries n d within))
          ∙ now
    ]

-- The entry of a key that is the only one among the kept entries is the only one that READ found.
pub keyed_found : (n : ℕ) (key : List ℕ) (p : Program) (was : Resolved) (entries : List Entry) → AreFound was entries → length was.entries ≡ length entries → HasKey n key entries → HasKey n key (map (with_blank_variables p) was.entries)
keyed_found n key p was entries found counted keyed =
    let all = length-map was.entries (with_blank_variables p) in
    let same : (m : ℕ) → bytes_eq (slice_index_or (map (with_blank_variables p) was.entries) m no_entry).key key ≡ bytes_eq (slice_index_or entries m no_entry).key key =
    λ m. ap (λ (e : Entry). bytes_eq e.key key) (blank_fixed p was.entries m ∙ sym (found m))
    in
    record {
      here = λ lt. same n ∙ keyed.here (omega (arith, lt, all, counted));
      apart = λ m lt other. same m ∙ keyed.apart m (omega (arith, lt, all, counted)) other;
    }
