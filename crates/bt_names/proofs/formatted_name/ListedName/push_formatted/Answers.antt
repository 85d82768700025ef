use Rattle.std.proofs.Common.{Some, sym, ap, ◌∙◌}
use Rattle.bt_names.proofs.CallLemmas.{no_text, fault_of_pattern}
use Rattle.bt_names.specs.Written.{IsWritten}
use Rattle.bt_names.proofs.CallLemmas.{few, many, memory_keeps, no_such, out_of_memory, says_of_text}
use Rattle.bt_names.proofs.formatted_name.ListedName.push_formatted.Goals as goal

pub returns-in_default-clause-fault : goal.returns-in_default-clause-fault
returns-in_default-clause-fault c =
    no_such c.args.self.names.now c.args.self.number c.args.pattern.now c.in_default.ensures.none

pub returns-then-has_many_commas-clause-fault : goal.returns-then-has_many_commas-clause-fault
returns-then-has_many_commas-clause-fault c =
    let some = c.in-Some.ensures.some in
    no_text c.args.self.names.now c.args.self.number c.in-Some.name.now c.args.pattern.now some (many _ _ c.has_many_commas.ensures c.if-has_many_commas.true)

pub returns-in-Err-clause-fault : goal.returns-in-Err-clause-fault
returns-in-Err-clause-fault c =
    let some = c.in-Some.ensures.some in
    fault_of_pattern c.args.self.names.now c.args.self.number c.in-Some.name.now c.args.pattern.now c.in-Err.place some (few _ _ c.has_many_commas.ensures c.if-has_many_commas.false) c.in-Err.ensures.err

pub returns-in_err-name-clause-fault : goal.returns-in_err-name-clause-fault
returns-in_err-name-clause-fault c =
    let some = c.in-Some.ensures.some in
    out_of_memory c.from_residual.result c.args.self.names.now c.args.self.number c.in-Some.name.now c.args.pattern.now c.from_residual.ensures.1 some (few _ _ c.has_many_commas.ensures c.if-has_many_commas.false) c.in-Ok.ensures.ok.0

pub returns-in_err-cut-clause-fault : goal.returns-in_err-cut-clause-fault
returns-in_err-cut-clause-fault c =
    let some = c.in-Some.ensures.some in
    out_of_memory c.from_residual-in_err-cut.result c.args.self.names.now c.args.self.number c.in-Some.name.now c.args.pattern.now c.from_residual-in_err-cut.ensures.1 some (few _ _ c.has_many_commas.ensures c.if-has_many_commas.false) c.in-Ok.ensures.ok.0

pub returns-in_err-written-clause-fault : goal.returns-in_err-written-clause-fault
returns-in_err-written-clause-fault c =
    let some = c.in-Some.ensures.some in
    out_of_memory c.from_residual-in_err-written.result c.args.self.names.now c.args.self.number c.in-Some.name.now c.args.pattern.now c.from_residual-in_err-written.ensures.1 some (few _ _ c.has_many_commas.ensures c.if-has_many_commas.false) c.in-Ok.ensures.ok.0

pub returns-clause-text : goal.returns-clause-text
returns-clause-text c =
    let some = c.in-Some.ensures.some in
    let cut = rw c.in_ok-name.ensures at c.in_ok-cut.ensures in
    says_of_text (λ t. IsWritten c.args.limit t c.args.out.now.items c.push_pieces.new.out.items c.in_ok-written.written) c.args.self.names.now c.args.self.number c.in-Some.name.now c.args.pattern.now _ c.parts.result some (cut ∙ ap Some (sym c.parts.ensures)) c.in-Ok.ensures.ok.0 (c.in-Ok.ensures.ok.2 c.parts.result) c.in_ok-written.ensures

pub returns-in_err-name-clause-kept : goal.returns-in_err-name-clause-kept
returns-in_err-name-clause-kept c = memory_keeps c.from_residual.result _ _ c.from_residual.ensures.1

pub returns-in_err-cut-clause-kept : goal.returns-in_err-cut-clause-kept
returns-in_err-cut-clause-kept c = memory_keeps c.from_residual-in_err-cut.result _ _ c.from_residual-in_err-cut.ensures.1

pub returns-in_err-written-clause-kept : goal.returns-in_err-written-clause-kept
returns-in_err-written-clause-kept c = memory_keeps c.from_residual-in_err-written.result _ _ c.from_residual-in_err-written.ensures.1
