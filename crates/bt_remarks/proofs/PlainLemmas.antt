-- Diagnostics of findings have no floats.
use Rattle.std.proofs.Common.{◌≡◌, ℕ, List, map, refl, false}
use Rattle.std.specs.List.{AllByRecursion}
use Rattle.serde_json.specs.Written.{has_float}
use Rattle.serde_json.specs.Data.{Data, array}
use Rattle.serde_json.specs.View.{items_of}
use Rattle.bt_positions.specs.declared.counting.Counting.{Counting}
use Rattle.bt_shapes.specs.Shapes.{range_of}
use Rattle.bt_shapes.proofs.PlainLists.{IsPlain, items_plain, all_mapped}
use Rattle.bt_remarks.specs.declared.finding.Finding.{Finding}
use Rattle.bt_remarks.specs.declared.finding.Weight.{Weight}
use Rattle.bt_remarks.specs.declared.finding.Weight.TheVariants.{Fault, Hint, Unused}
use Rattle.bt_remarks.specs.Values.{call, diagnostic, finding}

diagnostic_plain : (weight : Weight) (range : Data) (code words : List ℕ) (calls : Data) → has_float range ≡ false → has_float calls ≡ false →
    has_float (diagnostic weight range code words calls) ≡ false
diagnostic_plain Fault range code words calls p q = rw p (rw q refl)
diagnostic_plain Hint range code words calls p q = rw p (rw q refl)
diagnostic_plain Unused range code words calls p q = rw p (rw q refl)

pub finding_plain : (c : Counting) (uri words : List ℕ) (f : Finding) → has_float (finding c uri words f) ≡ false
finding_plain c uri words f =
    diagnostic_plain f.weight (range_of c words f.start f.end) f.code f.words (array (items_of (map (call c uri words) f.calls))) refl
    (items_plain (map (call c uri words) f.calls) (all_mapped (call c uri words) (λ p. refl) f.calls))

pub findings_plain : (c : Counting) (uri words : List ℕ) (found : List Finding) → AllByRecursion IsPlain (map (finding c uri words) found)
findings_plain c uri words found = all_mapped (finding c uri words) (finding_plain c uri words) found
