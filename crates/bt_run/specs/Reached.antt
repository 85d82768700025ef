-- The names that a step can reach, as a list.
use Rattle.std.specs.Prelude.{ℕ, zero, suc, ◌+◌, List, [], ◌∷◌, length, Option, Some, None, slice_get}
use Rattle.bt_style.specs.declared.style.Target.{Target}
use Rattle.bt_style.specs.Program.{Program}
use Rattle.bt_style.specs.Reach.{leads_to, noted_all, reachable}
use Rattle.bt_machine.specs.declared.input.Input.{Input}
use Rattle.bt_machine.specs.Step.{function_of}

-- the names that a name leads to, if there is one
abbrev pub next_names : Program → Option ℕ → Option Target → List Target
next_names p type_function None = []
next_names p type_function (Some t) = leads_to p type_function t

-- Goes through the names that were found, from a place on, for so many rounds. Each round adds what one name leads to.
abbrev pub found_from : Program → Option ℕ → ℕ → ℕ → List Target → List Target
found_from p type_function zero place found = found
found_from p type_function (suc rounds) place found =
    found_from p type_function rounds (place + 1) (noted_all found (next_names p type_function (slice_get found place)))

-- The names that are reached from one. There are as many rounds as names that can be reached, and one more, so each name
-- has its round.
unfoldable pub reach_of : Program → Option ℕ → Target → List Target
reach_of p type_function start =
    found_from p type_function (length (reachable p type_function start) + 1) 0 (start ∷ [])

-- the names that the step of an input can reach
abbrev pub names_in : Program → Input → List Target
names_in p i = reach_of p (function_of i.entry) i.target
