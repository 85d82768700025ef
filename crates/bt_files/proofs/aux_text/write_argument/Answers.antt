use Rattle.std.proofs.Common.{◌∷◌, ◌++◌, Bool, List, ℕ, ap, ◌∙◌, sym}
use Rattle.std.specs.Prelude.{codes, if◌then◌else◌}
use Rattle.std.proofs.lemmas.Result.{on_ok_weaker}
use Rattle.bt_files.specs.AuxText.{comma, written_argument}
use Rattle.bt_files.proofs.AuxWriteLemmas.{fault_added}
use Rattle.bt_files.proofs.aux_text.write_argument.Goals as goal

pub returns-in_ok-write_part-in-Some : goal.returns-in_ok-write_part-in-Some
returns-in_ok-write_part-in-Some c =
    on_ok_weaker c.append-in-Some.result
    (λ is. fault_added c.args.parts.now c.in-Some.fault c.args.text.now c.write_parts.new.text c.write_part.new.text c.append-in-Some.new.self
    c.in_ok-write_parts.ensures
    (c.in_ok-write_part-in-Some.ensures ∙ ap (λ (is_first : Bool). c.write_parts.new.text ++ (if is_first then codes "x" else comma ∷ codes "x")) c.is_empty.ensures)
    (is ∙ ap (λ (end : List ℕ). c.write_part.new.text ++ end) c.faulty_end.ensures)
    ∙ ap (λ fault. c.args.text.now ++ written_argument c.args.parts.now fault) (sym c.in-Some.is))
    c.append-in-Some.ensures.ok
