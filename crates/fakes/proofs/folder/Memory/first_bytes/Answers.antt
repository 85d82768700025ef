use Rattle.std.proofs.Common.{◌∙◌, ap, take}
use Rattle.bt_one_shot.specs.Folders.{most_read}
use Rattle.fakes.proofs.FolderLemmas.{some_first, none_first}
use Rattle.fakes.proofs.folder.Memory.first_bytes.Goals as goal

pub returns-in_ok-copied-in-Some : goal.returns-in_ok-copied-in-Some
returns-in_ok-copied-in-Some c =
    some_first most_read _ c.in-Some.bytes.now _ c.in-Some.ensures
    (c.in_ok-copied-in-Some.ensures ∙ ap (λ n. take n c.in-Some.bytes.now) c.min.ensures)

pub returns-in-None : goal.returns-in-None
returns-in-None c = none_first most_read _ c.in-None.ensures
