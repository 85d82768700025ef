use Rattle.std.proofs.Common.{◌≡◌, ◌++◌, flat_map}
use Rattle.bt_names.specs.declared.tokens.Parts.{Parts}
use Rattle.bt_names.specs.Groups.{formatted}
use Rattle.bt_names.specs.inner.Pieces.{kept_output}
use Rattle.bt_names.specs.inner.Rest.{IsSound, rest_output, rest_size}
use Rattle.bt_names.proofs.kept_pieces.kept_pieces.Given as goal

abbrev pub invariant-walk : goal.invariant-walk
invariant-walk l =
    (IsSound l.rest) × ((parts : Parts) → flat_map (kept_output parts) l.pieces.items ++ rest_output parts l.rest ≡ formatted parts l.pattern)

abbrev pub decreases-walk : goal.decreases-walk
decreases-walk l = rest_size l.rest
