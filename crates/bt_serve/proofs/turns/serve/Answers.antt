use Rattle.std.proofs.Common.{◌≡◌, ◌++◌, ◌∷◌, [], refl, sym, append-nil, ◌∙◌}
use Rattle.std.proofs.Common.{ap, Err, ◌+◌}
use Rattle.bt_serve.specs.declared.fault.ServeFault.TheVariants.{ReadFailed, WriteFailed}
use Rattle.bt_serve.proofs.EditedLemmas.{ends_edited, fails_edited}
use Rattle.bt_serve.proofs.TurnLemmas.{answered_more}
use Rattle.bt_serve.proofs.FaultLemmas.{handed_on_at_a_fault}
use Rattle.bt_serve.proofs.turns.serve.Goals as goal

pub turns-init : goal.turns-init
turns-init g c = record {
  reads = refl;
  writes = refl;
  flushed = λ before. before;
  answered = λ input said known held. ([], [], input, said, known, held, record { each = tt; goes_on = tt; one_each = refl; read = refl; written = sym (append-nil said); edited = refl; wanting = tt });
}

pub turns-preserved : goal.turns-preserved
turns-preserved g c =
    let now = c.in-Ok-false.ensures in
    let turns = rw c.in-Ok-false.field-0-test at now.turns in
    record {
      reads = now.failures.0 ∙ c.turns.invariant.reads;
      writes = now.failures.1 ∙ c.turns.invariant.writes;
      flushed = λ before. now.flushed (c.turns.invariant.flushed before);
      answered = λ input said known held.
          let before = c.turns.invariant.answered input said known held in
          let turn = turns before.2 before.3 before.4 before.5 in (
            before.0 ++ turn.4.0 ∷ [],
            before.1 ++ turn.4.1 ∷ [],
            turn.0,
            turn.1,
            turn.2,
            turn.3,
            answered_more input before.2 turn.0 said before.3 turn.1 c.args.session.now c.turns.session c.serve_one.new.session before.0 before.1 before.6 turn.4,
          );
    }

pub returns-in-Err-clause-read_failed : goal.returns-in-Err-clause-read_failed
returns-in-Err-clause-read_failed g c = λ is.
    let fault : c.in-Err.fault ≡ ReadFailed = cc in
    c.in-Err.ensures.failures.2 (ap Err fault) ∙ ap (λ n. n + 1) c.turns.invariant.reads

pub returns-in-Err-clause-write_failed : goal.returns-in-Err-clause-write_failed
returns-in-Err-clause-write_failed g c = λ is.
    let fault : c.in-Err.fault ≡ WriteFailed = cc in
    c.in-Err.ensures.failures.3 (ap Err fault) ∙ ap (λ n. n + 1) c.turns.invariant.writes

pub returns-in-Err-clause-flushed : goal.returns-in-Err-clause-flushed
returns-in-Err-clause-flushed g c = handed_on_at_a_fault _ _ _ c.in-Err.fault c.turns.invariant.flushed c.in-Err.ensures.flushed

pub returns-in-Ok-true-clause-served : goal.returns-in-Ok-true-clause-served
returns-in-Ok-true-clause-served g c = λ input said known held.
    let before = c.turns.invariant.answered input said known held in
    let turns = rw c.in-Ok-true.field-0-test at c.in-Ok-true.ensures.turns in
    let turn = turns before.2 before.3 before.4 before.5 in
    (turn.0, turn.1, turn.2, turn.3, (before.0, before.1, before.2, before.3, c.turns.session, before.6, turn.4))

pub returns-in-Err-clause-served : goal.returns-in-Err-clause-served
returns-in-Err-clause-served g c = λ input said known held.
    let before = c.turns.invariant.answered input said known held in
    let turn = c.in-Err.ensures.turns before.2 before.3 before.4 before.5 in
    (turn.0, turn.1, turn.2, turn.3, (before.0, before.1, before.2, before.3, c.turns.session, before.6, turn.4))

pub returns-in-Ok-true-clause-edited : goal.returns-in-Ok-true-clause-edited
returns-in-Ok-true-clause-edited g c = λ input said known held.
    let before = c.turns.invariant.answered input said known held in
    let turns = rw c.in-Ok-true.field-0-test at c.in-Ok-true.ensures.turns in
    let turn = turns before.2 before.3 before.4 before.5 in
    ends_edited input turn.0 said turn.1 c.args.session.now c.serve_one.new.session (before.0, before.1, before.2, before.3, c.turns.session, before.6, turn.4)

pub returns-in-Err-clause-edited : goal.returns-in-Err-clause-edited
returns-in-Err-clause-edited g c = λ input said known held.
    let before = c.turns.invariant.answered input said known held in
    let turn = c.in-Err.ensures.turns before.2 before.3 before.4 before.5 in
    fails_edited input turn.0 said turn.1 c.args.session.now c.serve_one.new.session c.in-Err.fault (before.0, before.1, before.2, before.3, c.turns.session, before.6, turn.4)
