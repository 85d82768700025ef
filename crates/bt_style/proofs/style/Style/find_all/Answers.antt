use Rattle.std.proofs.Common.{◌<◌, length, arith, rules, ◌≡◌, ◌∙◌, ap, sym, List, [], ◌∷◌, Some, None}
use Rattle.std.specs.Prelude.{slice_get}
use Rattle.std.proofs.lemmas.Grind.{common_steps}
use Rattle.bt_style.specs.declared.style.Target.{Target}
use Rattle.bt_style.specs.Program.{program_of}
use Rattle.bt_style.specs.Reach.{noted}
use Rattle.bt_style.proofs.SearchLemmas.{begun, searched_on, work_falls, searched_all, got_within}
use Rattle.bt_style.proofs.style.Style.find_all.Goals as goal

pub targets-init : goal.targets-init
targets-init c =
    let e : c.note.new.self ≡ c.args.target ∷ [] = c.in_ok-note.ensures ∙ ap (λ (l : List Target). noted l c.args.target) {x = c.new.result.items} {y = []} (search rules) in
    begun (program_of c.args.self.now) c.args.type_function c.args.target c.note.new.self e

pub targets-preserved : goal.targets-preserved
targets-preserved c =
    let here : slice_get c.targets.found c.targets.place ≡ Some c.in-Some.here = sym c.at.ensures ∙ c.in-Some.is in
    searched_on (program_of c.args.self.now) c.args.type_function c.args.target c.targets.found c.note_next.new.self c.targets.place c.in-Some.here
    c.targets.invariant here c.in_ok-note_next.ensures

pub overflow_add-place : goal.overflow_add-place
overflow_add-place c =
    let here : slice_get c.targets.found c.targets.place ≡ Some c.in-Some.here = sym c.at.ensures ∙ c.in-Some.is in
    let within : c.targets.place < length c.targets.found = got_within c.targets.found c.targets.place c.in-Some.here here in
    omega (arith, within, c.len-len.ensures)

pub targets-smaller : goal.targets-smaller
targets-smaller c =
    let here : slice_get c.targets.found c.targets.place ≡ Some c.in-Some.here = sym c.at.ensures ∙ c.in-Some.is in
    work_falls (program_of c.args.self.now) c.args.type_function c.args.target c.targets.found c.note_next.new.self c.targets.place c.in-Some.here here c.in_ok-note_next.ensures

pub returns-clause-all : goal.returns-clause-all
returns-clause-all c =
    let none : slice_get c.targets.found c.targets.place ≡ None = grind (arith, common_steps, c.at.ensures) in
    searched_all (program_of c.args.self.now) c.args.type_function c.args.target c.targets.found c.targets.place c.targets.invariant none
