use Rattle.std.proofs.Common.{◌≡◌, [], drop}
use Rattle.std.specs.List.{fold}
use Rattle.bt_answers.specs.Renaming.{with_edit}
use Rattle.bt_answers.proofs.name_edits.Renaming.with_each.Given as goal

abbrev pub invariant-found : goal.invariant-found
invariant-found l =
    let add = with_edit l.page.counting l.self.wanted l.self.old.now l.self.new.now l.page.text.now in
    fold add l.all.items (drop l.one-index l.found) ≡ fold add [] l.found
