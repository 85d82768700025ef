use Rattle.std.proofs.Common.{◌≡◌, ◌++◌, drop, flat_map}
use Rattle.bt_files.specs.AuxText.{names_in}
use Rattle.bt_front.specs.Job.{names_given}
use Rattle.bt_front.proofs.job.add_text.Given as goal

abbrev pub invariant-items : goal.invariant-items
invariant-items l = l.names ++ flat_map names_in (drop l.item-index l.item-items) ≡ l.fn.names ++ names_given l.text
