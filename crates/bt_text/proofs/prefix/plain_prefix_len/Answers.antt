use Rattle.std.proofs.Common.{◌++◌, map, take, drop, append-nil, sym, ap, ◌∙◌}
use Rattle.bt_text.specs.inner.Cases.{single}
use Rattle.bt_text.proofs.CuttingLemmas.{first_bytes, first_bytes_none}
use Rattle.bt_text.proofs.prefix.plain_prefix_len.Goals as goal

pub returns-then-left-eq0-clause-prefix : goal.returns-then-left-eq0-clause-prefix
returns-then-left-eq0-clause-prefix c =
    let t = c.args.text.now in
    let i = c.loop-place.place in
    sym (append-nil (take i t)) ∙ ap (λ l. take i t ++ l) (sym (first_bytes_none (drop i t))) ∙ ap (λ k. take i t ++ first_bytes k (map single (drop i t))) (sym c.if-left-eq0.true) ∙ c.loop-place.invariant
