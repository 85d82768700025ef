use Rattle.std.proofs.Common.{◌∙◌, sym}
use Rattle.bt_one_shot.specs.Folders.{most_read}
use Rattle.fakes.proofs.FolderLemmas.{first_within}
use Rattle.fakes.proofs.folder.MemoryFolder.read.Goals as goal

pub returns-in-Some-clause-found : goal.returns-in-Some-clause-found
returns-in-Some-clause-found c = sym c.in-Ok.ensures ∙ c.in-Some.is

pub returns-in-Some-clause-within : goal.returns-in-Some-clause-within
returns-in-Some-clause-within c = first_within most_read _ c.in-Some.bytes (sym c.in-Ok.ensures ∙ c.in-Some.is)
