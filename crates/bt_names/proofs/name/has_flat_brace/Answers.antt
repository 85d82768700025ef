use Rattle.std.proofs.Common.{List, ℕ, sym, ap, ◌∙◌}
use Rattle.std.proofs.lemmas.List.{at_drop_all}
use Rattle.bt_text.specs.Blocks.{blocks}
use Rattle.bt_names.proofs.StrayLemmas.{kept_from, blocks_kept}
use Rattle.bt_names.proofs.name.has_flat_brace.Goals as goal

pub returns : goal.returns
returns c =
    let t = c.args.name.now in
    let end = at_drop_all (kept_from c.loop-byte.depth) t c.loop-byte.byte-index c.loop-byte-test.false in
    let none = at_drop_all (λ (l : List ℕ). l) t c.loop-byte.byte-index c.loop-byte-test.false in
    λ _. sym (ap blocks (c.loop-byte.invariant.1 (end ∙ sym none))) ∙ blocks_kept t
