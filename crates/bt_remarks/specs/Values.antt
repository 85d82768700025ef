-- Findings as diagnostics of the protocol.
use Rattle.std.specs.Prelude.{ℕ, List, map, codes}
use Rattle.serde_json.specs.Data.{Data, number, unsigned, string, array, item, no_items, object, member, no_members}
use Rattle.serde_json.specs.View.{items_of}
use Rattle.bt_positions.specs.declared.counting.Counting.{Counting}
use Rattle.bt_shapes.specs.Shapes.{text, location, range_of}
use Rattle.bt_remarks.specs.declared.finding.Weight.{Weight}
use Rattle.bt_remarks.specs.declared.finding.Weight.TheVariants.{Fault, Hint, Unused}
use Rattle.bt_remarks.specs.declared.finding.CallPlace.{CallPlace}
use Rattle.bt_remarks.specs.declared.finding.Finding.{Finding}

-- a fault is a warning
abbrev pub severity : Weight → ℕ
severity Fault = 2
severity Hint = 4
severity Unused = 4

-- the tag of what could go
abbrev pub tags : Weight → Data
tags Fault = array no_items
tags Hint = array no_items
tags Unused = array (item (number (unsigned 1)) no_items)

-- a call as a related place of a document
abbrev pub call : Counting → List ℕ → List ℕ → CallPlace → Data
call c uri words p =
    object (member (codes "location") (location uri (range_of c words p.start p.end))
    (member (codes "message") (text p.words) no_members))

abbrev pub diagnostic : Weight → Data → List ℕ → List ℕ → Data → Data
diagnostic weight range code words calls =
    object (member (codes "code") (text code) (member (codes "message") (text words) (member (codes "range") range
    (member (codes "relatedInformation") calls (member (codes "severity") (number (unsigned (severity weight)))
    (member (codes "source") (string (codes "bibtex-check")) (member (codes "tags") (tags weight) no_members)))))))

-- a finding in a document's text, with its calls
abbrev pub finding : Counting → List ℕ → List ℕ → Finding → Data
finding c uri words f =
    diagnostic f.weight (range_of c words f.start f.end) f.code f.words (array (items_of (map (call c uri words) f.calls)))
