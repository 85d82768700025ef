use Rattle.std.proofs.Common.{◌≡◌, ◌∙◌, [], ◌∷◌}
use Rattle.std.specs.Prelude.{decimal}
use Rattle.bt_files.proofs.NumberLemmas.{stripped, in_pieces, not_in_pieces}
use Rattle.bt_files.proofs.names.is_numbered.Goals as goal

pub returns-in-Some-strip_prefix : goal.returns-in-Some-strip_prefix
returns-in-Some-strip_prefix c =
    let digits : c.as_bytes-digits.result.now ≡ decimal c.args.number = c.as_bytes-digits.ensures.value ∙ c.format.ensures.text in
    in_pieces c.args.number c.args.author.now c.args.session.now c.in-Some.rest.now c.as_bytes-digits.result.now c.in-Some-strip_prefix.ending.now c.ending_of.result.now c.eq.result
    digits c.ending_of.ensures
    (stripped c.args.session.now (43 ∷ 47 ∷ []) c.in-Some.rest.now c.in-Some.ensures.cases.0 c.in-Some.ensures.cases.1)
    (stripped c.in-Some.rest.now c.as_bytes-digits.result.now c.in-Some-strip_prefix.ending.now c.in-Some-strip_prefix.ensures.cases.0 c.in-Some-strip_prefix.ensures.cases.1)
    c.eq.ensures

pub returns-in-None : goal.returns-in-None
returns-in-None c =
    let digits : c.as_bytes-digits.result.now ≡ decimal c.args.number = c.as_bytes-digits.ensures.value ∙ c.format.ensures.text in
    not_in_pieces c.args.number c.args.author.now c.args.session.now c.in-Some.rest.now c.as_bytes-digits.result.now digits
    (stripped c.args.session.now (43 ∷ 47 ∷ []) c.in-Some.rest.now c.in-Some.ensures.cases.0 c.in-Some.ensures.cases.1)
    c.in-None.ensures.cases
