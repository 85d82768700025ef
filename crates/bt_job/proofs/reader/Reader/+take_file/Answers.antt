use Rattle.std.proofs.Common.{sym, ◌∙◌, ap, length, ◌+◌, ◌-◌, ◌≡◌, ℕ, List, Some, None}
use Rattle.bt_bib.specs.declared.aux_line.AuxItem.{AuxItem}
use Rattle.bt_log.specs.declared.message.Message.{Message}
use Rattle.bt_job.specs.declared.progress.Progress.{Progress}
use Rattle.bt_job.specs.declared.reader.Reader.{Reader}
use Rattle.bt_job.specs.declared.progress.Outcome.{Outcome}
use Rattle.bt_bib.specs.AuxLine.{aux_lines}
use Rattle.bt_job.specs.FileNames.{text_of}
use Rattle.bt_job.specs.Citations.{file_line}
use Rattle.bt_job.specs.inner.LineEffects.{told}
use Rattle.bt_job.specs.inner.NestedFiles.{lines_taken, file_taken, in_place}
use Rattle.bt_job.proofs.NestingLemmas.{file_zero, opens_within, line_more, lines_end}
use Rattle.bt_job.proofs.reader.Reader.+take_file.Goals.{in-Taken, in-Wrong+in_ok-tell_at-in-Wrong, in-Opens+in_ok-take_file-in-Opens}
use Rattle.bt_job.proofs.reader.Reader.+take_file.Goals as goal

pub returns-then-bound-eq0 : goal.returns-then-bound-eq0
returns-then-bound-eq0 t c = file_zero c.args.bound c.args.files.now (length c.args.files.now + 1 - c.args.bound) c.args.file.now c.args.self.now.progress c.if-bound-eq0.true

pub returns-in_default : goal.returns-in_default
returns-in_default t c = sym (opens_within c.args.bound c.args.files.now c.args.file.now None c.args.self.now.progress c.requires c.if-bound-eq0.false (c.in_default.ensures ∙ ap (text_of c.args.files.now) (c.as_slice.ensures ∙ c.deref.ensures)))

pub items-init : goal.items-init
items-init t c =
    let nested : List ℕ → Progress → Progress = file_taken (c.args.bound - 1) c.args.files.now (length c.args.files.now + 1 - (c.args.bound - 1)) in
    ap (λ (is : List AuxItem). lines_taken nested c.args.files.now c.args.file.now is c.tell.new.self.progress) (c.as_slice-item-items.ensures ∙ c.deref-2.ensures ∙ c.in_ok-items.ensures)
    ∙ ap (lines_taken nested c.args.files.now c.args.file.now (aux_lines c.in-Some.text.now)) (c.in_ok-tell.ensures.ok ∙ ap (λ (m : Message). told m c.args.self.now.progress) (c.file_line.ensures ∙ ap (file_line (length c.args.files.now + 1 - c.args.bound)) c.in_ok-share.ensures))
    ∙ sym (opens_within c.args.bound c.args.files.now c.args.file.now (Some c.in-Some.text.now) c.args.self.now.progress c.requires c.if-bound-eq0.false (c.in-Some.ensures ∙ ap (text_of c.args.files.now) (c.as_slice.ensures ∙ c.deref.ensures)))

pub items-preserved : goal.items-preserved
items-preserved t c =
    let nested : List ℕ → Progress → Progress = file_taken (c.args.bound - 1) c.args.files.now (length c.args.files.now + 1 - (c.args.bound - 1)) in
    let asked : Reader → Progress = λ reader. reader.progress in
    let place : Outcome → Progress = λ o. in_place nested c.args.file.now c.item-item.result.line (c.take_item.new.self.progress, o) in
    let placed : c.match-branch-5.self.progress ≡ place c.in_ok-take_item.field-0 = elim c.match-branch-5.branch [
      | in-Taken w ↦ ap asked w.self-is ∙ sym (ap place w.in-Taken.is)
      | in-Wrong+in_ok-tell_at-in-Wrong w ↦ ap asked w.self-is ∙ w.in_ok-tell_at-in-Wrong.ensures.ok ∙ sym (ap place w.in-Wrong.is)
      | in-Opens+in_ok-take_file-in-Opens w ↦ ap asked w.self-is ∙ w.in_ok-take_file-in-Opens.ensures ∙ sym (ap place w.in-Opens.is)
    ] in
    line_more nested c.args.files.now c.args.file.now c.as_slice-item-items.result.now c.items.item-index c.item-item.result c.items.self.progress c.take_item.new.self.progress c.match-branch-5.self.progress _ c.in_ok-take_item.field-0
    c.items-test.true c.item-item.is c.in_ok-take_item.ensures placed c.items.invariant

pub returns : goal.returns
returns t c =
    lines_end (file_taken (c.args.bound - 1) c.args.files.now (length c.args.files.now + 1 - (c.args.bound - 1))) c.args.files.now c.args.file.now c.as_slice-item-items.result.now c.items.item-index c.items.self.progress _ c.items-test.false c.items.invariant
