use Rattle.std.proofs.Common.{◌≡◌, ◌≤◌, true, length, take}
use Rattle.std.specs.List.{list_all}
use Rattle.bibtex.specs.Present.{shown}
use Rattle.bt_one_shot.specs.inner.Progress.{Goes}
use Rattle.bt_one_shot.proofs.WantLemmas.{is_met}
use Rattle.bt_one_shot.proofs.job_files.look_up_wanted.Given as goal

abbrev pub invariant-wanted : goal.invariant-wanted
invariant-wanted g l =
    let folder = g.F.Folder in
    let sink = g.E.Sink in
    record {
      wanted : l.name-items ≡ (shown l.draft).wanted;
      front : list_all (is_met l.met) (take l.name-index l.name-items) ≡ true;
      goes : Goes l.fn.failures_before l.fn.draft l.draft l.fn.met l.met (folder.seen l.fn.folder) (folder.seen l.folder)
          (sink.seen l.fn.err) (sink.seen l.err);
      more : length l.fn.met ≤ length l.met;
    }
