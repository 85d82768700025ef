use Rattle.std.proofs.Common.{◌≡◌, drop}
use Rattle.bt_job.specs.inner.LineEffects.{parts_taken}
use Rattle.bt_job.proofs.reader.Reader.take_item.Given as goal

abbrev pub invariant-parts : goal.invariant-parts
invariant-parts l = parts_taken l.files l.item.command l.item.fault (drop l.part-index l.item.parts) l.self.progress ≡ parts_taken l.files l.item.command l.item.fault l.item.parts l.initial.self.progress
