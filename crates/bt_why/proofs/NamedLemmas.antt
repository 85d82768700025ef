-- Ways to see that a byte is right.
use Rattle.std.proofs.Common.{◌≡◌, refl, ap, ℕ, Bool, true, List, Option, Some, None, ◌⊎◌, inl, inr}
use Rattle.std.proofs.lemmas.Option.{none-some}
use Rattle.std.specs.Prelude.{option_and_then, slice_get}
use Rattle.bt_style.specs.declared.builtin.Builtin.{Builtin}
use Rattle.bt_why.specs.declared.machine.Machine.{Machine}
use Rattle.bt_marks.specs.declared.marks.Mark.{Mark}
use Rattle.bt_marks.specs.declared.marks.Source.{Source}
use Rattle.bt_marks.specs.declared.marks.Source.TheVariants.{Added, Put}
use Rattle.bt_marks.specs.Places.{mark_at}
use Rattle.bt_why.specs.Named.{IsRight, is_added, is_byte_of, text_named}

pub is_added_source : (s : Source) → ((b : Builtin) × (of : Option ℕ) × (s ≡ Added b of)) ⊎ ((b : Builtin) × (s ≡ Put b)) → is_added s ≡ true
is_added_source s (inl (b, of, e)) = ap is_added e
is_added_source s (inr (b, e)) = ap is_added e

named_in : (m : Machine) (byte at : ℕ) (made : Bool) (number : ℕ) (mark : Mark) (named : ℕ) (text : Option (List ℕ)) →
    text_named m mark.site mark.source ≡ text → mark_at m.marks number ≡ Some mark →
    option_and_then (λ (t : List ℕ). slice_get t at) text ≡ Some named → is_byte_of made named byte ≡ true → IsRight m byte at made number
named_in m byte at made number mark named None e known found same = absurd (none-some named found)
named_in m byte at made number mark named (Some t) e known found same = IsRight.Named made number mark t named known e found same

pub right_if_named : (m : Machine) (byte at : ℕ) (made : Bool) (number : ℕ) (mark : Mark) (named : ℕ) → mark_at m.marks number ≡ Some mark →
    option_and_then (λ (t : List ℕ). slice_get t at) (text_named m mark.site mark.source) ≡ Some named →
    is_byte_of made named byte ≡ true → IsRight m byte at made number
right_if_named m byte at made number mark named known found same =
    named_in m byte at made number mark named (text_named m mark.site mark.source) refl known found same
