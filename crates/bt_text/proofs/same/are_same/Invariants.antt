use Rattle.std.proofs.Common.{◌≡◌, take}
use Rattle.bt_text.proofs.same.are_same.Given as goal

abbrev pub invariant-items : goal.invariant-items
invariant-items g l = take l.place l.items ≡ take l.place l.others
