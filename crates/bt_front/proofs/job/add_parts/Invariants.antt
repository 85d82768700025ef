use Rattle.std.proofs.Common.{◌≡◌, ◌++◌, drop}
use Rattle.bt_files.specs.AuxText.{names_by}
use Rattle.bt_front.proofs.job.add_parts.Given as goal

abbrev pub invariant-parts : goal.invariant-parts
invariant-parts l = l.names ++ names_by l.command (drop l.part-index l.parts) ≡ l.fn.names ++ names_by l.command l.parts
