use Rattle.std.proofs.Common.{◌∙◌, ap, List, None}
use Rattle.std.specs.Option.{option_map}
use Rattle.bt_one_shot.specs.Folders.{Written}
use Rattle.fakes.proofs.FolderLemmas.{last_of, last_of_both}
use Rattle.fakes.proofs.folder.Memory.held.Goals as goal

pub returns : goal.returns
returns c =
    let name = c.args.name.now in
    c.last_of-2.ensures
    ∙ ap (λ (fs : List Written). last_of (option_map (λ b. b.now) c.last_of.result) fs name) c.as_slice.ensures
    ∙ last_of_both c.args.self.now.given c.args.self.now.written name _
    (c.last_of.ensures ∙ ap (λ (fs : List Written). last_of None fs name) c.as_slice-2.ensures)
