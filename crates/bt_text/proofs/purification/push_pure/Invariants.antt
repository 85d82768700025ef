use Rattle.std.proofs.Common.{◌≡◌, ◌+◌, ◌≤◌, ◌++◌, length, drop, take, flat_map}
use Rattle.bt_text.specs.Purification.{purified_byte}
use Rattle.bt_text.proofs.purification.push_pure.Given as goal

abbrev pub invariant-bytes : goal.invariant-bytes
invariant-bytes l =
    record {
      room : l.end + length (drop l.byte-index l.text) ≤ length l.out.items;
      kept : take l.end l.out.items ++ flat_map purified_byte (drop l.byte-index l.text) ≡ l.fn.out.items ++ flat_map purified_byte l.text;
    }
