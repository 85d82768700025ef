use Rattle.bt_sound.proofs.Runs.{checked_promises}
use Rattle.bt_sound.proofs.checked_styles_keep_their_promise.Goals as goal

pub returns : goal.returns
returns c = checked_promises
