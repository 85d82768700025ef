use Rattle.std.proofs.Common.{◌≡◌, ◌-◌, ◌≤◌, length, take, drop}
use Rattle.bt_names.specs.Cuts.{runs}
use Rattle.bt_names.specs.inner.Cuts.{first_section, other_sections}
use Rattle.bt_names.proofs.CuttingLemmas.{onto_run}
use Rattle.bt_names.proofs.cuts.token_len.Given as goal

abbrev pub invariant-walk : goal.invariant-walk
invariant-walk l =
    record {
      within : l.len ≤ length l.text;
      token : onto_run (take l.len l.text) (runs (first_section (drop l.len l.text))) ≡ runs (first_section l.text);
      others : other_sections (drop l.len l.text) ≡ other_sections l.text;
    }

abbrev pub decreases-walk : goal.decreases-walk
decreases-walk l = length l.text - l.len
