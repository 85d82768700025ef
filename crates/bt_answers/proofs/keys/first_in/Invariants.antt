use Rattle.std.proofs.Common.{◌≡◌, ◌≤◌, drop, length}
use Rattle.bt_text.specs.ByName.{known}
use Rattle.bt_answers.specs.Keys.{first_in}
use Rattle.bt_answers.proofs.keys.first_in.Given as goal

abbrev pub invariant-found : goal.invariant-found
invariant-found l = record {
  within : l.n ≤ length l.found;
  later : known l.spans ≡ first_in l.text (drop l.n l.found);
}

abbrev pub decreases-found : goal.decreases-found
decreases-found l = l.n
