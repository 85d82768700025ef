use Rattle.std.proofs.Common.{◌≡◌, ◌+◌, ◌-◌, length, drop}
use Rattle.bt_job.specs.inner.NestedFiles.{lines_taken, file_taken}
use Rattle.bt_job.proofs.reader.Reader.+take_file.Given as goal

abbrev pub decreases-take_file : goal.decreases-take_file
decreases-take_file l = l.bound

abbrev pub invariant-items : goal.invariant-items
invariant-items l = lines_taken (file_taken (l.bound - 1) l.files (length l.files + 1 - (l.bound - 1))) l.files l.file (drop l.item-index l.item-items) l.self.progress ≡ file_taken l.bound l.files (length l.files + 1 - l.bound) l.file l.fn.self.progress
