use Rattle.std.proofs.Common.{◌≡◌, ◌-◌, ◌++◌, take, count_by, append-nil, sym, ap, ◌∙◌, arith}
use Rattle.bt_text.specs.Pieces.{is_character, pieces, block_pieces}
use Rattle.bt_text.proofs.CuttingLemmas.{first_bytes, first_bytes_block, first_bytes_end, first_bytes_zero}
use Rattle.bt_text.proofs.PrefixLemmas.{run_taken}
use Rattle.bt_text.proofs.prefix.push_first_characters.Goals as goal

pub loop-left-preserved-then-wanted-gt0 : goal.loop-left-preserved-then-wanted-gt0
loop-left-preserved-then-wanted-gt0 c =
    let cut = c.split_at.ensures in
    rw c.in_ok-extend_from_slice.ensures.items (run_taken c.loop-left.out.items c.loop-left.rest.now _ _ _ c.loop-left.left c.wanted_len-wanted.result _ cut.front cut.back (omega arith) c.wanted_len-wanted.ensures.prefix c.loop-left.invariant)

pub loop-left-preserved : goal.loop-left-preserved
loop-left-preserved c =
    let t = c.loop-left.rest.now in
    let n = c.loop-left.left in
    let cut = c.split_at-else-wanted-gt0.ensures in
    let shown = rw cut.front at c.block_prefix.ensures in
    let count = rw cut.front at c.block_characters.ensures.count in
    let fewer : c.saturating_sub-left.result ≡ n - count_by is_character (block_pieces (take c.block_len.result t)) = omega (arith, c.saturating_sub-left.ensures, count) in
    rw (c.in_ok-extend_from_slice-2.ensures.items, cut.back) (first_bytes_block c.loop-left.out.items t _ _ c.block_len.result n _ c.block_len.ensures.first shown fewer c.loop-left.invariant)

pub returns-else-not-is_empty : goal.returns-else-not-is_empty
returns-else-not-is_empty c =
    let out = c.loop-left.out.items in
    sym (append-nil out) ∙ ap (λ l. out ++ l) (sym (first_bytes_end c.loop-left.left c.loop-left.rest.now (sym c.is_empty.ensures ∙ c.if-not-is_empty.false))) ∙ c.loop-left.invariant

pub returns-after-loop-left : goal.returns-after-loop-left
returns-after-loop-left c =
    let out = c.loop-left.out.items in
    let zero : c.loop-left.left ≡ 0 = omega arith in
    sym (append-nil out) ∙ ap (λ l. out ++ l) (sym (ap (λ k. first_bytes k (pieces c.loop-left.rest.now)) zero ∙ first_bytes_zero (pieces c.loop-left.rest.now))) ∙ c.loop-left.invariant
