use Rattle.std.proofs.lemmas.Int.{to_z-of_z}
use Rattle.bt_names.proofs.CallLemmas.{memory_name_fault, no_parts, some_parts}
use Rattle.bt_names.proofs.CallLemmas.{few, many}
use Rattle.bt_names.proofs.formatted_name.parts.Goals as goal

pub returns-then-has_many_commas-clause-fault : goal.returns-then-has_many_commas-clause-fault
returns-then-has_many_commas-clause-fault c =
    let fits = c.ranges.n in
    let some = simp to_z-of_z at c.in-Some.ensures.some in
    no_parts c.args.names.now c.args.n c.in-Some.name.now some (many _ _ c.has_many_commas.ensures c.if-has_many_commas.true)

pub returns-in_err-name-clause-fault : goal.returns-in_err-name-clause-fault
returns-in_err-name-clause-fault c =
    let fits = c.ranges.n in
    let some = simp to_z-of_z at c.in-Some.ensures.some in
    let ok = some_parts c.args.names.now c.args.n c.in-Some.name.now some (few _ _ c.has_many_commas.ensures c.if-has_many_commas.false) in
    memory_name_fault c.from_residual.result _ c.from_residual.ensures.1 ok

pub returns-in_err-cut-clause-fault : goal.returns-in_err-cut-clause-fault
returns-in_err-cut-clause-fault c =
    let fits = c.ranges.n in
    let some = simp to_z-of_z at c.in-Some.ensures.some in
    let ok = some_parts c.args.names.now c.args.n c.in-Some.name.now some (few _ _ c.has_many_commas.ensures c.if-has_many_commas.false) in
    memory_name_fault c.from_residual-in_err-cut.result _ c.from_residual-in_err-cut.ensures.1 ok
