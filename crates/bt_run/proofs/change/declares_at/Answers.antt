use Rattle.std.specs.Prelude.{slice_get, true}
use Rattle.std.proofs.Common.{◌≡◌, ◌∙◌, ap, List}
use Rattle.std.proofs.lemmas.Option.{get_or_from_slice_get}
use Rattle.bt_style.specs.declared.style.Action.TheVariants.{Read}
use Rattle.bt_style.specs.declared.style.Command.{Command}
use Rattle.bt_run.specs.inner.WalkContext.{is_read}
use Rattle.bt_run.proofs.change.declares_at.Goals as goal

pub returns-then-not-is_read : goal.returns-then-not-is_read
returns-then-not-is_read c = λ go line here.
    let commands = c.as_slice.result.now in
    let there = ap (λ (cs : List Command). slice_get cs c.args.number) c.as_slice.ensures ∙ here in
    let reads : c.is_read.result ≡ true =
    c.is_read.ensures ∙ ap (λ (d : Command). is_read d.action) (get_or_from_slice_get commands c.args.number (record { action = Read; line = line }) _ there)
    in
    absurd cc
