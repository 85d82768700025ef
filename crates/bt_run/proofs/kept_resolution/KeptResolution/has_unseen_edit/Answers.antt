use Rattle.bt_run.proofs.UnseenLemmas.{is_unseen}
use Rattle.bt_run.proofs.kept_resolution.KeptResolution.has_unseen_edit.Goals as goal

pub returns : goal.returns
returns c = λ go.
    is_unseen c.args.self.now c.in-Some.edit c.in-Some-made.made c.resolved.result.now c.resolved.ensures c.in-Some.is c.in-Some-made.is (c.is_unseen.ensures.seen go) (c.is_unseen.ensures.messages go)
