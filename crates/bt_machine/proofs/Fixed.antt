-- Entries that are the same but for their variables.
use Rattle.std.proofs.Common.{◌≡◌, ℕ, true, List, None, refl, subst}
use Rattle.std.specs.Prelude.{nat_eq, bytes_eq, slice_index_or}
use Rattle.std.specs.Option.{option_eq}
use Rattle.std.proofs.lemmas.Bool.{eq-eqb}
use Rattle.std.proofs.lemmas.Slice.Eq.{bytes_eq-Decides}
use Rattle.bt_style.specs.declared.reach.Reach.{Reach}
use Rattle.bt_actions.specs.declared.entry.Entry.{Entry}
use Rattle.bt_machine.specs.Agreement.{fixed, same_field_at, same_fields, same_fixed, same_kind, same_where}
use Rattle.bt_machine.proofs.Comparing.{option_same}
use Rattle.bt_machine.proofs.Truths.{and_true, true_where, all_from}

bytes_same : (t : List ℕ) → bytes_eq t t ≡ true
bytes_same t = (bytes_eq-Decides t t).1 refl

kind_itself : (e : Entry) → same_kind e e ≡ true
kind_itself e = and_true (option_eq nat_eq e.function e.function) (bytes_eq e.kind e.kind) (option_same nat_eq (λ n. eq-eqb n n refl) e.function) (bytes_same e.kind)

fixed_itself : (r : Reach) (e : Entry) → same_fixed r e e ≡ true
fixed_itself r e =
    and_true (same_where r.kind (same_kind e e)) (same_fields r.fields e.fields e.fields) (true_where r.kind (same_kind e e) (λ k. kind_itself e))
    (all_from (λ n. same_field_at n e.fields e.fields) r.fields (λ n k. option_same bytes_eq bytes_same (slice_index_or e.fields n None)))

-- what is reached of them, but for the variables, is the same
pub fixed_same : (r : Reach) (e d : Entry) → fixed e ≡ fixed d → same_fixed r e d ≡ true
fixed_same r e d h = subst (λ (a : Entry). same_fixed r e a ≡ true) h (fixed_itself r e)
