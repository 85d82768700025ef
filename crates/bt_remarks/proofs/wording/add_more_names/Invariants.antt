use Rattle.std.proofs.Common.{◌≡◌, ◌++◌, drop, map}
use Rattle.bt_remarks.specs.Wording.{more_names}
use Rattle.bt_remarks.proofs.wording.add_more_names.Given as goal

abbrev pub invariant-names : goal.invariant-names
invariant-names l =
    l.words ++ more_names (map (λ name. name.now) (drop l.place l.names)) ≡ l.initial.words ++ more_names (map (λ name. name.now) l.names)
