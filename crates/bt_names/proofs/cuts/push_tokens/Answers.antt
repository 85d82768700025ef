use Rattle.std.proofs.Common.{sym, ◌∙◌}
use Rattle.bt_names.proofs.SectionLemmas.{front_kept, others_behind_gap, section_end, section_step, within_kept}
use Rattle.bt_names.proofs.cuts.push_tokens.Goals as goal

pub returns-then-not-begins_token-clause-tokens : goal.returns-then-not-begins_token-clause-tokens
returns-then-not-begins_token-clause-tokens c =
    let none = rw c.split_at.ensures.back at c.begins_token.ensures in
    section_end c.walk.found.items _ c.args.start c.args.lead c.walk.rest.now c.gap_len.result _ c.walk.invariant.front c.gap_len.ensures.len (sym none ∙ c.if-not-begins_token.true) c.walk.invariant.tokens

pub returns-then-not-begins_token-clause-rest : goal.returns-then-not-begins_token-clause-rest
returns-then-not-begins_token-clause-rest c =
    rw c.split_at.ensures.back (others_behind_gap c.walk.rest.now c.gap_len.result c.gap_len.ensures.len ∙ c.walk.invariant.others)

pub walk-preserved : goal.walk-preserved
walk-preserved c =
    let token = rw c.split_at.ensures.back at c.token_len.ensures.token in
    let sign = rw (c.deref.ensures.value, c.split_at.ensures.front) at c.sign_or_lead-before.ensures in
    let others = rw c.split_at.ensures.back at c.token_len.ensures.others in
    let behind = others_behind_gap c.walk.rest.now c.gap_len.result c.gap_len.ensures.len in
    rw (c.in_ok-push_token.ensures, c.split_at-in-walk.ensures.front, c.split_at-in-walk.ensures.back, c.split_at.ensures.back) (record {
      within = within_kept c.walk.found.items c.args.start _ c.walk.invariant.within;
      front = front_kept c.walk.found.items _ c.args.start _ c.walk.invariant.within c.walk.invariant.front;
      tokens = section_step c.walk.found.items c.args.start c.args.lead c.sign_or_lead-before.result c.walk.rest.now c.gap_len.result c.token_len.result _ c.walk.invariant.within c.gap_len.ensures.len token sign c.walk.invariant.tokens;
      others = others ∙ behind ∙ c.walk.invariant.others;
    })
