use Rattle.std.proofs.Common.{Some, sym, ap, ◌∙◌, arith}
use Rattle.bt_names.proofs.CutLemmas.{cut_one, cut_two, cut_three}
use Rattle.bt_names.proofs.name_parts.cut_name.Goals as goal

pub returns-in-None : goal.returns-in-None
returns-in-None c =
    cut_one c.args.name.now c.kept.result.now c.in_ok-rest.rest.now _ _ c.kept.ensures c.in_ok-tokens.ensures.items c.in_ok-rest.ensures.tokens c.in_ok-rest.ensures.rest c.in-None.ensures.none ∙ ap Some (sym c.whole.ensures)

pub returns-in-None-after_comma : goal.returns-in-None-after_comma
returns-in-None-after_comma c =
    cut_two c.len-front.result c.args.name.now c.kept.result.now c.in_ok-rest.rest.now c.in-Some.second.now c.in_ok-rest-in-Some.rest.now _ _ _ c.kept.ensures c.in_ok-tokens.ensures.items c.in_ok-rest.ensures.tokens c.in_ok-rest.ensures.rest c.in-Some.ensures.some c.in_ok-rest-in-Some.ensures.tokens c.in_ok-rest-in-Some.ensures.rest c.in-None-after_comma.ensures.none (omega (arith, c.len-front.ensures)) ∙ ap Some (sym c.at.ensures)

pub returns-in_ok-push_section-in-Some-after_comma : goal.returns-in_ok-push_section-in-Some-after_comma
returns-in_ok-push_section-in-Some-after_comma c =
    cut_three c.len-front.result c.len-others.result c.args.name.now c.kept.result.now c.in_ok-rest.rest.now c.in-Some.second.now c.in_ok-rest-in-Some.rest.now c.in-Some-after_comma.third.now _ _ _ _ c.requires c.kept.ensures c.in_ok-tokens.ensures.items c.in_ok-rest.ensures.tokens c.in_ok-rest.ensures.rest c.in-Some.ensures.some c.in_ok-rest-in-Some.ensures.tokens c.in_ok-rest-in-Some.ensures.rest c.in-Some-after_comma.ensures.some c.in_ok-push_section-in-Some-after_comma.ensures.tokens (omega (arith, c.len-front.ensures)) (omega (arith, c.len-others.ensures)) ∙ ap Some (sym c.at-in-Some-after_comma.ensures)
