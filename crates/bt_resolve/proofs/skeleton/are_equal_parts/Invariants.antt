use Rattle.std.proofs.Common.{◌≡◌, take}
use Rattle.bt_resolve.proofs.skeleton.are_equal_parts.Given as goal

abbrev pub invariant-parts : goal.invariant-parts
invariant-parts l = take l.k l.old ≡ take l.k l.new
