use Rattle.std.proofs.Common.{◌≡◌, map, take}
use Rattle.bt_bib.specs.BibText.{pieces_of}
use Rattle.bt_run.proofs.finding.all_items.Given as goal

abbrev pub invariant-texts : goal.invariant-texts
invariant-texts l = l.all ≡ map pieces_of (take l.text-index l.texts)
