use Rattle.std.proofs.Common.{◌++◌, append-nil, sym, ap, ◌∙◌}
use Rattle.std.proofs.lemmas.List.{at_drop_all}
use Rattle.bt_text.specs.Blocks.{blocks}
use Rattle.bt_names.proofs.StrayLemmas.{kept_from, blocks_kept}
use Rattle.bt_names.proofs.name.without_stray_braces.Goals as goal

pub returns : goal.returns
returns c =
    let t = c.args.name.now in
    let kept = c.loop-byte.kept.items in
    let end = at_drop_all (kept_from c.loop-byte.depth) t c.loop-byte.byte-index c.loop-byte-test.false in
    ap blocks (c.from_vec.ensures ∙ sym (append-nil kept) ∙ ap (λ l. kept ++ l) (sym end) ∙ c.loop-byte.invariant.1) ∙ blocks_kept t
