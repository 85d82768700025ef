use Rattle.std.proofs.Common.{◌≡◌, ◌∙◌, ap, refl, sym, codes, ℕ, List, ◌++◌}
use Rattle.bt_streams.proofs.WriteLemmas.{on_err_any}
use Rattle.bt_one_shot.proofs.LoadLemmas.{loads_root}
use Rattle.bt_one_shot.proofs.ShotLemmas.{stops_after, runs_after}
use Rattle.bt_one_shot.proofs.job.one_shot.Goals as goal

pub returns-in_err-snapshot-clause-err : goal.returns-in_err-snapshot-clause-err
returns-in_err-snapshot-clause-err g c =
    on_err_any _ (stops_after _ _ _ c.failures-failures_before.result _ _ _ _ _ refl (sym c.failures-failures_before.ensures) c.in_err-snapshot.ensures.err)

pub write_out-status-requires-clause-bbl : goal.write_out-status-requires-clause-bbl
write_out-status-requires-clause-bbl g c =
    let root : c.as_slice-root.result.now ≡ c.in_ok-snapshot.snapshot.root = c.as_slice-root.ensures ∙ sym (loads_root _ _ _ _ _ _ _ _ c.in_ok-snapshot.ensures.ok) in
    c.as_slice.ensures ∙ c.in_ok-bbl.ensures ∙ ap (λ (r : List ℕ). r ++ codes ".bbl") root

pub write_out-status-requires-clause-blg : goal.write_out-status-requires-clause-blg
write_out-status-requires-clause-blg g c =
    let root : c.as_slice-root.result.now ≡ c.in_ok-snapshot.snapshot.root = c.as_slice-root.ensures ∙ sym (loads_root _ _ _ _ _ _ _ _ c.in_ok-snapshot.ensures.ok) in
    c.as_slice-2.ensures ∙ c.in_ok-blg.ensures ∙ ap (λ (r : List ℕ). r ++ codes ".blg") root

pub returns-clause-ok : goal.returns-clause-ok
returns-clause-ok g c =
    runs_after _ _ _ c.failures-failures_before.result _ _ _ _ _ _ _ _ _ _ _ _ refl (sym c.failures-failures_before.ensures)
    c.printed_log.ensures c.in_ok-snapshot.ensures.ok c.write_out-status.ensures
