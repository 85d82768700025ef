use Rattle.std.proofs.Common.{◌≡◌, ◌+◌, ◌≤◌, ◌++◌, length}
use Rattle.bt_names.specs.inner.Rest.{IsSound, rest_output, rest_size}
use Rattle.bt_names.proofs.writing.push_pieces.Given as goal

abbrev pub invariant-walk : goal.invariant-walk
invariant-walk l =
    record {
      text : l.out.items ++ rest_output l.parts l.rest ≡ l.fn.out.items ++ rest_output l.parts l.pattern;
      sound : IsSound l.rest;
      grown : length l.fn.out.items ≤ length l.out.items;
      within : length l.out.items ≤ length l.fn.out.items + l.limit;
    }

abbrev pub decreases-walk : goal.decreases-walk
decreases-walk l = rest_size l.rest
