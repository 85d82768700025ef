use Rattle.std.proofs.Common.{◌∙◌, ap, sym, subst}
use Rattle.bt_style.specs.declared.fault.StyleFault.{StyleFault}
use Rattle.bt_style.specs.declared.fault.StyleRefusal.{StyleRefusal}
use Rattle.bt_style.specs.Fault.{Fails}
use Rattle.bt_style.specs.Program.{program_of}
use Rattle.bt_style.specs.Reader.{style_of}
use Rattle.bt_run.specs.Shown.{meaning_of}
use Rattle.bt_run.proofs.WrittenLemmas.{read_shown, faulty_shown}
use Rattle.bt_run.proofs.once.show_asked.Goals as goal

pub invariant_of-job-clause-fields_apart : goal.invariant_of-job-clause-fields_apart
invariant_of-job-clause-fields_apart c =
    c.fields_are_apart.ensures c.in_ok-text.text (program_of c.in-Ok.style) (ap style_of (sym (c.as_slice.ensures ∙ c.deref.ensures)) ∙ c.in-Ok.ensures)

pub returns-in-Ok : goal.returns-in-Ok
returns-in-Ok c =
    let cited = c.args.citations in
    let name = c.as_slice-name.result.now in
    let names = c.as_slice-in-Ok.result.now in
    let p = program_of c.in-Ok.style in
    let read = ap style_of (sym (c.as_slice.ensures ∙ c.deref.ensures)) ∙ c.in-Ok.ensures in
    read_shown c.args.files.now cited c.args.min c.in-Some.name name name c.in_ok-text.text names p (meaning_of c.in_ok-answers-in-Ok.answers)
    c.in_ok-answers-in-Ok.ensures c.in-Some.is c.as_slice-in-Ok.ensures c.as_slice-name.ensures read c.in_ok-text.ensures c.as_slice-name.ensures

pub returns-in-Err-Fault : goal.returns-in-Err-Fault
returns-in-Err-Fault c =
    let cited = c.args.citations in
    let name = c.as_slice-name.result.now in
    let fault : StyleFault = record { kind = c.in-Err-Fault.kind; line = c.in-Err-Fault.line } in
    let refused = subst (λ (e : StyleRefusal). Fails e (style_of c.as_slice.result.now)) c.in-Err-Fault.field-0-is c.in-Err-Fault.ensures in
    let read = ap style_of (sym (c.as_slice.ensures ∙ c.deref.ensures)) ∙ refused in
    faulty_shown c.args.files.now cited c.args.min c.in-Some.name name name c.in_ok-text.text c.new-in-Err-Fault.result fault c.in_ok-log-in-Err-Fault.log (meaning_of c.in_ok-answers-in-Err-Fault.answers)
    c.in_ok-answers-in-Err-Fault.ensures c.new-in-Err-Fault.ensures c.in_ok-log-in-Err-Fault.ensures c.in-Some.is c.as_slice-name.ensures read c.in_ok-text.ensures c.as_slice-name.ensures
