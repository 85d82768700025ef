use Rattle.std.proofs.Common.{◌≡◌, ◌≤◌, length, take, drop, map}
use Rattle.bt_names.specs.Joints.{by_text, joined}
use Rattle.bt_names.specs.inner.Spelling.{spell}
use Rattle.bt_names.proofs.groups.push_by_text.Given as goal

abbrev pub invariant-walk : goal.invariant-walk
invariant-walk l =
    record {
      front : take l.start l.out.items ≡ take l.start l.fn.out.items;
      size : l.start ≤ length l.out.items;
      group : joined (by_text l.own) (drop l.start l.out.items) (map (spell l.is_whole) l.rest) ≡ joined (by_text l.own) (drop l.start l.fn.out.items) (map (spell l.is_whole) l.tokens);
    }

abbrev pub decreases-walk : goal.decreases-walk
decreases-walk l = length l.rest
