use Rattle.std.proofs.Common.{◌≡◌, map, take}
use Rattle.bt_files.specs.AuxText.{item_with}
use Rattle.bt_front.specs.Job.{renamed}
use Rattle.bt_front.proofs.job.items_under.Given as goal

abbrev pub invariant-items : goal.invariant-items
invariant-items l = l.under ≡ map (item_with (renamed l.names)) (take l.item-index l.item-items)
