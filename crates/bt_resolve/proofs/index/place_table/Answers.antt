use Rattle.std.proofs.Common.{◌≡◌, ◌∙◌, ap, ℕ, ◌+◌, ◌-◌, ◌<◌, length, drop, List, arith}
use Rattle.std.proofs.Math.Seq.{drop-length}
use Rattle.bt_text.specs.ByName.{known, with_value}
use Rattle.bt_resolve.proofs.NameLemmas.{none_behind, place_more, place_all}
use Rattle.bt_resolve.proofs.index.place_table.Goals as goal

pub names-init : goal.names-init
names-init c =
    let whole : length c.args.names.now - 0 ≡ length c.args.names.now = omega arith in
    c.new-places.ensures.known ∙ none_behind c.args.names.now (length c.args.names.now - 0) (ap (λ (n : ℕ). drop n c.args.names.now) whole ∙ drop-length c.args.names.now)

pub names-preserved : goal.names-preserved
names-preserved c =
    let count = length c.args.names.now in
    let place = count - 1 - c.names.behind in
    let behind : c.names.behind < count = c.names-test.true in
    let next : count - c.names.behind ≡ place + 1 = omega (arith, behind) in
    let now : count - (c.names.behind + 1) ≡ place = omega arith in
    let less : place < count = omega (arith, behind) in
    c.in_ok-insert.ensures.known
    ∙ ap (λ (name : List ℕ). with_value name place (known c.names.places)) c.as_slice.ensures
    ∙ place_more (known c.names.places) c.args.names.now place (count - c.names.behind) (count - (c.names.behind + 1)) c.index-names-place.result next now less c.index-names-place.is c.names.invariant

pub returns : goal.returns
returns c =
    let count = length c.args.names.now in
    let none : count - c.names.behind ≡ 0 = omega (arith, c.names-test.false) in
    place_all (known c.names.places) c.args.names.now (count - c.names.behind) none c.names.invariant
