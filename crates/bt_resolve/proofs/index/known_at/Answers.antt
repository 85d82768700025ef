use Rattle.std.proofs.Common.{rules, arith, ◌≡◌, ◌<◌, length, refl}
use Rattle.std.proofs.lemmas.Bool.Decides.{nat_tests}
use Rattle.std.proofs.lemmas.Option.{slice_get_read}
use Rattle.bt_resolve.proofs.NameLemmas.{known_found}
use Rattle.bt_resolve.proofs.index.known_at.Goals as goal

pub returns-in-Some : goal.returns-in-Some
returns-in-Some c = λ places all.
    let slots = c.args.slots.now in
    let known = c.in-Some.known.now in
    let less : c.slot_of.result < length slots = grind (arith, nat_tests) in
    let there = slice_get_read slots (length slots) c.slot_of.result known refl less c.in-Some.ensures.lookup.1 in
    let same : known.name.now ≡ c.args.name.now = search rules in
    known_found places slots c.slot_of.result known c.args.name.now all there same
