use Rattle.std.proofs.Common.{◌∙◌, ap, sym, rules}
use Rattle.bibtex.specs.declared.state.State.{State}
use Rattle.bibtex.specs.Present.{shown}
use Rattle.bt_one_shot.proofs.LoadLemmas.{goes_then}
use Rattle.bt_one_shot.proofs.WantLemmas.{front_old, front_new, none_left, longer}
use Rattle.bt_one_shot.proofs.job_files.look_up_wanted.Goals.{then-not-has+in_ok-put+else-look_up, else-not-has}
use Rattle.bt_one_shot.proofs.job_files.look_up_wanted.Goals as goal

pub returns-then-look_up-clause-goes : goal.returns-then-look_up-clause-goes
returns-then-look_up-clause-goes g c =
    let before = c.wanted.invariant in
    goes_then _ _ _ _ _ c.wanted.met _ c.as_slice-name.result.now _ _ _ _ _ _ c.as_slice-name-items.result.now c.wanted.name-index c.name-item.result
    before.goes before.wanted c.wanted-test.true (sym c.name-item.is ∙ sym c.as_slice-name.ensures) before.front
    (sym c.has.ensures.value ∙ c.if-not-has.true) c.in_ok-put.ensures.ok c.look_up.ensures.looks

pub wanted-preserved : goal.wanted-preserved
wanted-preserved g c =
    let before = c.wanted.invariant in
    let here = sym c.name-item.is ∙ sym c.as_slice-name.ensures in
    let items = c.as_slice-name-items.result.now in
    elim c.if-not-has.branch [
      | then-not-has+in_ok-put+else-look_up w ↦
          let fresh = sym c.has.ensures.value ∙ w.if-not-has.true in
          record {
            wanted = before.wanted ∙ ap (λ (s : State). (shown s).wanted) (sym (w.draft-is ∙ w.look_up.ensures.unchanged w.if-look_up.false));
            front = front_new c.wanted.met _ c.as_slice-name.result.now items c.wanted.name-index c.name-item.result c.wanted-test.true here before.front fresh (w.met-is ∙ w.in_ok-put.ensures.ok);
            goes = rw (w.draft-is, w.folder-is, w.err-is)
                (goes_then _ _ _ _ _ c.wanted.met _ c.as_slice-name.result.now _ _ _ _ _ _ items c.wanted.name-index c.name-item.result
                before.goes before.wanted c.wanted-test.true here before.front fresh (w.met-is ∙ w.in_ok-put.ensures.ok) w.look_up.ensures.looks);
            more = longer _ c.wanted.met _ c.as_slice-name.result.now before.more (w.met-is ∙ w.in_ok-put.ensures.ok);
          }
      | else-not-has w ↦
          let old = sym c.has.ensures.value ∙ w.if-not-has.false in
          record {
            wanted = before.wanted ∙ ap (λ (s : State). (shown s).wanted) (sym w.draft-is);
            front = rw w.met-is (front_old c.wanted.met c.as_slice-name.result.now items c.wanted.name-index c.name-item.result c.wanted-test.true here before.front old);
            goes = rw (w.draft-is, w.met-is, w.folder-is, w.err-is) before.goes;
            more = rw w.met-is before.more;
          }
    ]

pub returns-clause-end : goal.returns-clause-end
returns-clause-end g c = λ same.
    let end = c.wanted.invariant in
    rw (← end.wanted) (none_left c.wanted.met c.as_slice-name-items.result.now c.wanted.name-index (search rules) end.front)
