use Rattle.bt_style.specs.Program.{program_of}
use Rattle.bt_style.proofs.SearchLemmas.{Searched, work}
use Rattle.bt_style.proofs.style.Style.find_all.Given as goal

abbrev pub invariant-targets : goal.invariant-targets
invariant-targets l = Searched (program_of l.self) l.type_function l.fn.target l.found l.place

abbrev pub decreases-targets : goal.decreases-targets
decreases-targets l = work (program_of l.self) l.type_function l.fn.target l.found l.place
