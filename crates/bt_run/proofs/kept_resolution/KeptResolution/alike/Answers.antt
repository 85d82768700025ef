use Rattle.bt_run.proofs.kept_resolution.KeptResolution.alike.Goals as goal

pub returns : goal.returns
returns c = λ known.
    record { edit = c.in-Some.edit; made = c.in-Some-made.made; is_edit = c.in-Some.is; is_made = c.in-Some-made.is; is = c.in_ok-alike.ensures }
