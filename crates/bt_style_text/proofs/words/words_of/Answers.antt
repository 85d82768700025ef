use Rattle.std.proofs.Common.{◌≡◌, ◌<◌, length, arith}
use Rattle.std.proofs.lemmas.Grind.{common_steps}
use Rattle.bt_style_text.proofs.WordLemmas.{next_words, all_words}
use Rattle.bt_style_text.proofs.words.words_of.Goals as goal

pub pieces-preserved : goal.pieces-preserved
pieces-preserved c =
    let some : 0 < length c.pieces.rest.now = grind (arith, common_steps) in
    record {
      within = omega (arith, c.split_at.ensures.back_len, c.pieces.invariant.within);
      so_far = rw c.split_at.ensures.back (next_words c.pieces.words.items c.put.new.words.items c.pieces.start c.pieces.rest.now c.piece-kind.result.0 c.piece-kind.result.1 _ some c.piece-kind.ensures c.in_ok-put.ensures c.pieces.invariant.so_far);
    }

pub returns : goal.returns
returns c =
    let none : length c.pieces.rest.now ≡ 0 = grind (arith, common_steps) in
    all_words c.pieces.words.items c.pieces.start c.pieces.rest.now _ none c.pieces.invariant.so_far
