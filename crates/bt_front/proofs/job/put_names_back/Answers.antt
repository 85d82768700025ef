use Rattle.std.proofs.Common.{◌∙◌, ap, map, rules}
use Rattle.bt_log.specs.Log.{log_bytes, terse_bytes}
use Rattle.bt_run.specs.Shown.{meaning_of}
use Rattle.bt_files.specs.Messages.{name_back, put_back}
use Rattle.bt_front.proofs.JobLemmas.{told}
use Rattle.bt_front.proofs.PlainLemmas.{told_if_none}
use Rattle.bt_front.proofs.job.put_names_back.Goals as goal

pub returns-then-is_empty : goal.returns-then-is_empty
returns-then-is_empty c = told_if_none c.args.names.now (meaning_of c.args.answers.now) (search rules) c.requires

pub returns : goal.returns
returns c =
    told c.args.names.now (meaning_of c.args.answers.now) c.in_ok-messages.messages c.in_ok-blg.blg c.in_ok-terse.terse c.in_ok-wanted.wanted
    (c.in_ok-messages.ensures ∙ ap (map (put_back c.args.names.now)) c.as_slice.ensures)
    (c.in_ok-blg.ensures ∙ ap log_bytes c.as_slice-2.ensures)
    (c.in_ok-terse.ensures ∙ ap terse_bytes c.as_slice-3.ensures)
    (c.in_ok-wanted.ensures ∙ ap (map (name_back c.args.names.now)) c.as_slice-4.ensures)
