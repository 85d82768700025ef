use Rattle.std.proofs.Common.{◌≡◌, ◌++◌, drop}
use Rattle.bibtex.specs.EntryText.{entry_text}
use Rattle.bt_session.proofs.entry_lines.entry_text.Given as goal

abbrev pub invariant-steps : goal.invariant-steps
invariant-steps l = l.text ++ entry_text l.key (drop l.step-index l.steps) ≡ entry_text l.key l.steps
