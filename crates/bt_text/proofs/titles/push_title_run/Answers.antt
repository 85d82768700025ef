use Rattle.std.proofs.Common.{arith}
use Rattle.bt_text.specs.inner.Titles.{IsQuiet, place_of}
use Rattle.std.proofs.Common.{subst, sym, length, ◌<◌}
use Rattle.bt_text.proofs.QuietLemmas.{quiet_moved, quiet_pushed}
use Rattle.bt_text.proofs.titles.push_title_run.Goals as goal

pub walk-preserved : goal.walk-preserved
walk-preserved c =
    let t = c.walk.rest.now in
    let front = c.split_at.result.0.now in
    let back = c.split_at.result.1.now in
    let p = place_of c.walk.place in
    let q = place_of c.place_after_quiet-place.result in
    let later = c.wants_care.ensures.first c.if-wants_care.false in
    let no_colon = c.wants_care.ensures.colon c.if-wants_care.false in
    let quiet : IsQuiet front = subst IsQuiet (sym c.split_at.ensures.front) c.quiet_len.ensures.quiet in
    let some : 0 < length front = omega arith in
    record {
      built = quiet_pushed p q c.walk.out.items c.push_changed.new.out.items t front back _ c.quiet_len.result later no_colon c.split_at.ensures.front c.split_at.ensures.back quiet some c.in_ok-push_changed.ensures c.place_after_quiet-place.ensures c.walk.invariant.built;
      moved = quiet_moved p q _ t front back c.quiet_len.result no_colon c.split_at.ensures.front c.split_at.ensures.back quiet some c.place_after_quiet-place.ensures c.walk.invariant.moved;
    }
