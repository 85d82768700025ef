use Rattle.std.specs.List.{cons_option}
use Rattle.std.proofs.Common.{[], ◌∙◌, ◌+◌, ◌++◌, ap, length, refl, length-drop, arith}
use Rattle.bt_mentions.specs.Keys.{with_entry_keys}
use Rattle.bt_mentions.proofs.KeyLemmas.{found_one, no_more}
use Rattle.bt_mentions.proofs.keys.entry_keys.Goals as goal

pub entries-preserved : goal.entries-preserved
entries-preserved c =
    let first = c.in-Some.ensures in
    let count = c.in-Some.count in
    let before = c.entries.rest.now in
    let back = c.split_at.ensures.back in
    let rest = c.split_at.result.1.now in
    let m = c.entries.place + (count + 1) in record {
      within = omega (arith, c.entries.invariant.within, ap length back, length-drop (count + 1) before, first.0.high);
      same = ap (λ found. with_entry_keys found m rest) (c.in_ok-push_if_any.ensures.ok ∙ ap (λ key. c.entries.found ++ cons_option key []) c.entry_key.ensures)
          ∙ found_one c.entries.found c.entries.place count m before rest first back refl
          ∙ c.entries.invariant.same;
    }

pub returns : goal.returns
returns c = no_more c.entries.found c.entries.place c.entries.rest.now c.in_default.ensures ∙ c.entries.invariant.same
