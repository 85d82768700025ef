use Rattle.std.proofs.Common.{◌≡◌, drop}
use Rattle.bt_style_faults.specs.Faulty.{first_faulty}
use Rattle.bt_style_faults.proofs.faulty.first_faulty.Given as goal

abbrev pub invariant-tried : goal.invariant-tried
invariant-tried l = first_faulty l.line l.words l.text (drop l.word-index l.tried) ≡ first_faulty l.line l.words l.text l.tried
