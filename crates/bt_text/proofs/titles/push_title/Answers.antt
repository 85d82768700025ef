use Rattle.std.proofs.Common.{◌++◌, sym, ap}
use Rattle.bt_text.specs.declared.modes.Mode.TheVariants.{Title}
use Rattle.bt_text.proofs.CasingLemmas.{changed_from_start}
use Rattle.bt_text.specs.inner.Titles.{place_of}
use Rattle.bt_text.proofs.CaseLemmas.{title_pushed}
use Rattle.bt_text.proofs.titles.push_title.Goals as goal

pub walk-init : goal.walk-init
walk-init c = ap (λ l. c.args.out.now.items ++ l) (sym (changed_from_start Title c.args.text.now))

pub walk-preserved : goal.walk-preserved
walk-preserved c =
    let cut = c.split_at-else-first-eq123.ensures in
    let run = c.in_ok-place.ensures in
    title_pushed (place_of c.walk.place) (place_of c.in_ok-place.place) c.walk.out.items c.push_title_run.new.out.items c.walk.rest.now _ _ _ c.run_len.result c.run_len.ensures.cut cut.front cut.back run.run run.place c.walk.invariant
