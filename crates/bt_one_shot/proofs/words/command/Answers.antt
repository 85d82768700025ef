use Rattle.std.proofs.Common.{◌≡◌, ◌∙◌, ap, ap₂, codes}
use Rattle.std.proofs.lemmas.Result.{IfOk-weaker}
use Rattle.clap.specs.Simple.{app_of_fields}
use Rattle.clap.specs.Words.{app_of, new_app, with_rule}
use Rattle.bt_one_shot.specs.Words.{min_rule, terse_rule, resident_rule}
use Rattle.bt_one_shot.proofs.words.command.Goals as goal

pub returns : goal.returns
returns c =
    let bare : app_of c.after_help.result ≡ new_app (codes "bibtex") = ap app_of_fields c.after_help.ensures ∙ (ap app_of_fields c.about.ensures ∙ c.new.ensures.app) in
    let one : app_of c.in_ok-arg.field-0 ≡ with_rule (new_app (codes "bibtex")) min_rule = c.in_ok-arg.ensures.shape c.min_crossrefs.ensures.own ∙ ap₂ with_rule bare c.min_crossrefs.ensures.rule in
    let two : app_of c.in_ok-arg-2.field-0 ≡ with_rule (with_rule (new_app (codes "bibtex")) min_rule) terse_rule = c.in_ok-arg-2.ensures.shape c.terse.ensures.own ∙ ap₂ with_rule one c.terse.ensures.rule in
    let three : app_of c.in_ok-arg-3.field-0 ≡ with_rule (with_rule (with_rule (new_app (codes "bibtex")) min_rule) terse_rule) resident_rule = c.in_ok-arg-3.ensures.shape c.resident.ensures.own ∙ ap₂ with_rule two c.resident.ensures.rule in
    IfOk-weaker c.arg-4.result _ _ (λ r h. h.shape c.job.ensures.own ∙ ap₂ with_rule three c.job.ensures.rule) c.arg-4.ensures
