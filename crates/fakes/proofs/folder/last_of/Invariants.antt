use Rattle.std.proofs.Common.{◌≡◌, drop}
use Rattle.std.specs.Option.{option_map}
use Rattle.fakes.proofs.FolderLemmas.{last_of}
use Rattle.fakes.proofs.folder.last_of.Given as goal

abbrev pub invariant-files : goal.invariant-files
invariant-files l =
    last_of (option_map (λ b. b.now) l.found) (drop l.file-index l.files) l.name
    ≡ last_of (option_map (λ b. b.now) l.fn.before) l.files l.name
