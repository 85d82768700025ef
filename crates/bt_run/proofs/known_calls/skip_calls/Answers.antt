use Rattle.std.proofs.Common.{◌≡◌, ◌∙◌, ap, sym, refl, ℕ, ◌+◌, ◌<◌, length, Some, arith}
use Rattle.std.specs.Prelude.{replicate, slice_get}
use Rattle.std.proofs.lemmas.List.{get_or-replicate}
use Rattle.std.proofs.lemmas.Option.{slice_get_read}
use Rattle.bt_run.proofs.TurnLemmas.{calls_skipped}
use Rattle.bt_run.proofs.known_calls.skip_calls.Goals as goal

pub skipped-preserved : goal.skipped-preserved
skipped-preserved c =
    let earlier = c.args.earlier.now in
    let at = c.args.from + c.skipped.skipped in
    let next : c.args.from + (c.skipped.skipped + 1) ≡ at + 1 = omega arith in
    let less : at < length earlier = omega (arith, c.requires, c.skipped-test.true) in
    let here : slice_get earlier at ≡ Some c.deref.result.now = slice_get_read earlier (length earlier) at c.index-earlier-from.result refl less c.index-earlier-from.is ∙ ap Some (sym c.deref.ensures) in
    record {
      within = omega (arith, c.skipped-test.true);
      so_far = λ steps are.
          calls_skipped earlier steps c.deref.result.now at (c.args.from + (c.skipped.skipped + 1)) (replicate 37 0) c.skipped.sums c.exchange_calls.new.sums here next (λ place lt. get_or-replicate {A = ℕ} 37 place 0 0 lt) c.in_ok-exchange_calls.ensures
          (c.skipped.invariant.so_far steps are);
    }
