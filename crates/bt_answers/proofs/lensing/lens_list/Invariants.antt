use Rattle.std.proofs.Common.{◌≡◌, ◌++◌, drop, map}
use Rattle.serde_json.specs.View.{view}
use Rattle.bt_answers.specs.Lensing.{lens_value}
use Rattle.bt_answers.proofs.lensing.lens_list.Given as goal

abbrev pub invariant-lenses : goal.invariant-lenses
invariant-lenses l = map view l.list.items ++ map lens_value (drop l.lens-index l.lenses) ≡ map lens_value l.lenses
