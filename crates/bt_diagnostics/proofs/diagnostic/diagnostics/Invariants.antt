use Rattle.std.proofs.Common.{◌≡◌, take}
use Rattle.bt_text.specs.ByName.{known}
use Rattle.bt_diagnostics.specs.Diagnostics.{diagnostics}
use Rattle.bt_diagnostics.proofs.diagnostic.diagnostics.Given as goal

abbrev pub invariant-messages : goal.invariant-messages
invariant-messages l = l.shown ≡ diagnostics l.file.name.now l.file.counting l.file.text.now l.keys.role (known l.keys.spans) (take l.message-index l.messages)
