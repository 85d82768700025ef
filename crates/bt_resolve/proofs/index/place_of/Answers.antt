use Rattle.std.proofs.Common.{◌∙◌, sym, true, false}
use Rattle.bt_resolve.proofs.NameLemmas.{no_place, place_next, places_all}
use Rattle.bt_resolve.proofs.index.place_of.Goals as goal

pub names-init : goal.names-init
names-init c = places_all c.args.names.now c.args.name.now

pub names-preserved : goal.names-preserved
names-preserved c =
    place_next false c.args.names.now c.names.place c.as_slice.result.now c.index-names-place.result c.args.name.now
    (sym c.if-eq_ignore_ascii_case.false ∙ c.eq_ignore_ascii_case.ensures) c.names-test.true (c.as_slice.ensures ∙ c.index-names-place.is)
    ∙ c.names.invariant

pub returns-then-eq_ignore_ascii_case : goal.returns-then-eq_ignore_ascii_case
returns-then-eq_ignore_ascii_case c =
    place_next true c.args.names.now c.names.place c.as_slice.result.now c.index-names-place.result c.args.name.now
    (sym c.if-eq_ignore_ascii_case.true ∙ c.eq_ignore_ascii_case.ensures) c.names-test.true (c.as_slice.ensures ∙ c.index-names-place.is)
    ∙ c.names.invariant

pub returns : goal.returns
returns c = no_place c.args.names.now c.names.place c.args.name.now c.names-test.false ∙ c.names.invariant
