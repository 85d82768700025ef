use Rattle.std.proofs.Common.{◌≡◌, ◌++◌, length}
use Rattle.bt_text.specs.declared.modes.Mode.TheVariants.{Title}
use Rattle.bt_text.specs.Blocks.{blocks}
use Rattle.bt_text.specs.CaseChange.{changed_case}
use Rattle.bt_text.proofs.CasingLemmas.{changed_from}
use Rattle.bt_text.specs.inner.Titles.{place_of}
use Rattle.bt_text.proofs.titles.push_title.Given as goal

abbrev pub invariant-walk : goal.invariant-walk
invariant-walk l = l.out.items ++ changed_from Title (place_of l.place) (blocks l.rest) ≡ l.fn.out.items ++ changed_case Title l.text

abbrev pub decreases-walk : goal.decreases-walk
decreases-walk l = length l.rest
