use Rattle.std.proofs.Common.{◌≡◌, ◌≤◌, []}
use Rattle.bt_style.specs.Program.{program_of}
use Rattle.bt_style.specs.Token.{count}
use Rattle.bt_style.specs.Tree.{elements_of}
use Rattle.bt_style.specs.Bodies.{body_at}
use Rattle.bt_style.specs.inner.Bodies.{open_bodies}
use Rattle.bt_style.proofs.bodies.body.Given as goal

abbrev pub invariant-elements : goal.invariant-elements
invariant-elements l = record {
  same : body_at (program_of l.draft) (open_bodies l.outer.items) (elements_of l.now.items) l.cursor ≡ body_at (program_of l.draft) [] [] l.fn.cursor;
  shorter : count l.cursor ≤ count l.fn.cursor;
}

abbrev pub decreases-elements : goal.decreases-elements
decreases-elements l = count l.cursor
