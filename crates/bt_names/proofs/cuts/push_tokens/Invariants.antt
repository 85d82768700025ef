use Rattle.std.proofs.Common.{◌≡◌, ◌≤◌, length, take, drop}
use Rattle.bt_names.specs.Cuts.{runs, tokens}
use Rattle.bt_names.specs.inner.Cuts.{first_section, other_sections}
use Rattle.bt_names.proofs.CuttingLemmas.{tokens_behind}
use Rattle.bt_names.proofs.cuts.push_tokens.Given as goal

abbrev pub invariant-walk : goal.invariant-walk
invariant-walk l =
    record {
      within : l.start ≤ length l.found.items;
      front : take l.start l.found.items ≡ l.fn.found.items;
      tokens : tokens_behind (drop l.start l.found.items) l.lead (runs (first_section l.rest)) ≡ tokens l.lead (runs (first_section l.text));
      others : other_sections l.rest ≡ other_sections l.text;
    }

abbrev pub decreases-walk : goal.decreases-walk
decreases-walk l = length l.rest
