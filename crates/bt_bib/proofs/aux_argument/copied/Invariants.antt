use Rattle.std.proofs.Common.{◌≡◌, map, take}
use Rattle.bt_bib.proofs.aux_argument.copied.Given as goal

abbrev pub invariant-parts : goal.invariant-parts
invariant-parts l = l.copies ≡ map (λ p. p.now) (take l.part-index l.parts)
