use Rattle.std.proofs.Common.{◌≡◌, map, take}
use Rattle.bt_files.specs.AuxText.{part_with}
use Rattle.bt_front.specs.Job.{renamed}
use Rattle.bt_front.proofs.job.item_under.Given as goal

abbrev pub invariant-parts : goal.invariant-parts
invariant-parts l = l.parts ≡ map (part_with (renamed l.names) l.item.command) (take l.part-index l.item.parts)
