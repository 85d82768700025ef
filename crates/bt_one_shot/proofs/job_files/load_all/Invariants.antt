use Rattle.std.proofs.Common.{◌-◌, ◌^◌, length}
use Rattle.bt_one_shot.specs.inner.Progress.{Goes}
use Rattle.bt_one_shot.proofs.job_files.load_all.Given as goal

abbrev pub invariant-rounds : goal.invariant-rounds
invariant-rounds g l =
    let folder = g.F.Folder in
    let sink = g.E.Sink in
    record {
      goes : Goes l.fn.failures_before l.fn.draft l.draft l.fn.met l.met (folder.seen l.fn.folder) (folder.seen l.folder)
          (sink.seen l.fn.err) (sink.seen l.err);
    }

abbrev pub decreases-rounds : goal.decreases-rounds
decreases-rounds g l = 2 ^ 63 - length l.met
