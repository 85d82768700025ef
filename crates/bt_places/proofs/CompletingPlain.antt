-- What completions offer has no floats.
use Rattle.std.proofs.Common.{◌≡◌, Bool, true, false, if◌then◌else◌}
use Rattle.serde_json.specs.Written.{has_float}
use Rattle.serde_json.specs.Data.{Data}

pub one_plain : (b : Bool) (d e : Data) → has_float d ≡ false → has_float e ≡ false → has_float (if b then d else e) ≡ false
one_plain true d e p q = p
one_plain false d e p q = q
