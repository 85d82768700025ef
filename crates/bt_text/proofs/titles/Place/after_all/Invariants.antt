use Rattle.std.proofs.Common.{◌≡◌, fold, drop}
use Rattle.bt_text.specs.inner.TitlePlace.{next_place}
use Rattle.bt_text.specs.inner.Titles.{place_of}
use Rattle.bt_text.proofs.titles.Place.after_all.Given as goal

abbrev pub invariant-bytes : goal.invariant-bytes
invariant-bytes l = fold next_place (place_of l.place) (drop l.byte-index l.bytes) ≡ fold next_place (place_of l.fn.self) l.bytes
