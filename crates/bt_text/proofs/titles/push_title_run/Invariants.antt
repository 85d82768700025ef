use Rattle.std.proofs.Common.{◌≡◌, ◌++◌, length, fold}
use Rattle.bt_text.specs.inner.TitlePlace.{next_place}
use Rattle.bt_text.specs.inner.Titles.{place_of, title_run}
use Rattle.bt_text.proofs.titles.push_title_run.Given as goal

abbrev pub invariant-walk : goal.invariant-walk
invariant-walk l =
    record {
      built : l.out.items ++ title_run (place_of l.place) l.rest ≡ l.fn.out.items ++ title_run (place_of l.fn.place) l.text;
      moved : fold next_place (place_of l.place) l.rest ≡ fold next_place (place_of l.fn.place) l.text;
    }

abbrev pub decreases-walk : goal.decreases-walk
decreases-walk l = length l.rest
