use Rattle.std.proofs.Common.{sym, ◌∙◌, arith}
use Rattle.bt_names.proofs.CuttingLemmas.{token_found, token_more}
use Rattle.bt_names.proofs.SectionLemmas.{others_behind_block}
use Rattle.bt_names.proofs.cuts.token_len.Goals as goal

pub returns-then-not-begins_token-clause-token : goal.returns-then-not-begins_token-clause-token
returns-then-not-begins_token-clause-token c =
    let none = rw c.split_at.ensures.back at c.begins_token.ensures in
    token_found c.args.text.now c.walk.len c.requires c.walk.invariant.within (sym none ∙ c.if-not-begins_token.true) c.walk.invariant.token

pub walk-preserved : goal.walk-preserved
walk-preserved c =
    let t = c.args.text.now in
    let i = c.walk.len in
    let n = c.first_len-len.result in
    let token = rw c.split_at.ensures.back at c.begins_token.ensures in
    let first = rw c.split_at.ensures.back at c.first_len-len.ensures.first in
    let begins = sym token ∙ c.if-not-begins_token.false in
    record {
      within = omega arith;
      token = token_more t i n _ c.first_len-len.ensures.some begins first c.walk.invariant.token;
      others = others_behind_block t i n _ begins first c.walk.invariant.others;
    }
