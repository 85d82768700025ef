use Rattle.std.proofs.Common.{◌≡◌, drop}
use Rattle.std.specs.List.{fold}
use Rattle.bt_answers.specs.Formatting.{with_gap}
use Rattle.bt_answers.proofs.formatting.with_each.Given as goal

abbrev pub invariant-found : goal.invariant-found
invariant-found l =
    let add = with_gap l.page.counting l.page.end l.page.text.now in
    fold add l.all.items (drop l.gap-index l.found) ≡ fold add l.fn.list.items l.found
