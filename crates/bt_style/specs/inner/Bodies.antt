-- The elements before each open brace, as the code keeps them.
use Rattle.std.specs.Prelude.{List, map, reverse, Vec}
use Rattle.std.specs.declared.alloc.Global.{Global}
use Rattle.bt_style.specs.declared.style.Op.{Op}
use Rattle.bt_style.specs.Tree.{Element, elements_of}

-- What the code keeps; no part of the meaning: the elements before each brace that stands open, the innermost first,
-- where a vector holds them the innermost last.
abbrev pub open_bodies : List (Vec Op Global) → List (List Element)
open_bodies vs = reverse (map (λ v. elements_of v.items) vs)
