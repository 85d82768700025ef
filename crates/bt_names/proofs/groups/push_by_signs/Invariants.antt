use Rattle.std.proofs.Common.{◌≡◌, ◌≤◌, false, length, take, drop, map}
use Rattle.bt_text.specs.Length.{text_length_of}
use Rattle.bt_names.specs.Joints.{by_signs, joined}
use Rattle.bt_names.specs.inner.Spelling.{form_of, spell}
use Rattle.bt_names.proofs.groups.push_by_signs.Given as goal

abbrev pub invariant-walk : goal.invariant-walk
invariant-walk l =
    let between = by_signs (form_of l.is_whole) in
    record {
      front : take l.start l.out.items ≡ take l.start l.fn.out.items;
      size : l.start ≤ length l.out.items;
      group : joined between (drop l.start l.out.items) (map (spell l.is_whole) l.rest) ≡ joined between (drop l.start l.fn.out.items) (map (spell l.is_whole) l.tokens);
      short : l.is_short ≡ false → 3 ≤ text_length_of (drop l.start l.out.items);
    }

abbrev pub decreases-walk : goal.decreases-walk
decreases-walk l = length l.rest
