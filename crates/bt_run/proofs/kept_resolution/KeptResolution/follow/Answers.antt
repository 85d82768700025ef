use Rattle.bt_run.proofs.AlikeLemmas.{edited_alike, edited_texts, stays_known}
use Rattle.bt_run.proofs.kept_resolution.KeptResolution.follow.Goals as goal

pub returns-then-is_edited-clause-done : goal.returns-then-is_edited-clause-done
returns-then-is_edited-clause-done c = λ known.
    edited_texts c.args.self.now c.put.new.self.resolution c.in_ok-alike.alike c.args.texts.now (c.in_ok-alike.ensures known) c.put.ensures.resolution (c.is_edited.ensures c.if-is_edited.true)

pub returns-then-is_edited-clause-alike : goal.returns-then-is_edited-clause-alike
returns-then-is_edited-clause-alike c = λ n stays.
    edited_alike c.args.self.now c.put.new.self.resolution c.in_ok-alike.alike (c.in_ok-alike.ensures (stays_known c.in_ok-alike.alike n stays)) c.put.ensures.resolution n stays
