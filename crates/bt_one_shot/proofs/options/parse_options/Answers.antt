use Rattle.std.proofs.Common.{◌≡◌, ◌∙◌, ap, sym, codes, [], ℕ, List, Option, map}
use Rattle.std.specs.Prelude.{string_bytes, unwrap_or}
use Rattle.bibtex.specs.Present.{is_root_name}
use Rattle.clap.specs.Words.{first_of, found_of, rows_of}
use Rattle.clap.proofs.WalkLemmas.{first_value-rows}
use Rattle.bt_one_shot.specs.Words.{Invocation, asked, asked_by, without_aux}
use Rattle.bt_one_shot.proofs.OptionLemmas.{fault_kinds, no_faults, asked_rows, text_or}
use Rattle.bt_one_shot.proofs.options.parse_options.Goals as goal

pub returns-in-Err-clause-fault : goal.returns-in-Err-clause-fault
returns-in-Err-clause-fault c =
    c.told.ensures (map string_bytes c.args.words.now) (fault_kinds (map string_bytes c.args.words.now) _ c.in-Err.fault c.in_ok-command.ensures c.in-Err.ensures.kinds)

pub returns-then-not-is_root_name-clause-fault : goal.returns-then-not-is_root_name-clause-fault
returns-then-not-is_root_name-clause-fault c =
    let words = map string_bytes c.args.words.now in
    let rows = rows_of (found_of c.in-Ok.matches) in
    let is : asked words ≡ asked_by rows = asked_rows words _ rows c.in_ok-command.ensures (λ simple. (c.in-Ok.ensures.matches simple).0) in
    let job : c.as_bytes.result.now ≡ unwrap_or (first_of (codes "JOB") rows) [] =
    c.as_bytes.ensures.value ∙ (ap (λ s. s.now) c.unwrap_or.ensures ∙ (text_or c.get_str.result _ _ c.get_str.ensures ∙ ap (λ (o : Option (List ℕ)). unwrap_or o []) (first_value-rows (found_of c.in-Ok.matches) (codes "JOB")))) in (
      no_faults words _ c.in_ok-command.ensures c.in-Ok.ensures.kinds,
      ap (λ (a : Invocation). is_root_name a.root) is ∙ (ap (λ (r : List ℕ). is_root_name (without_aux r)) (sym job) ∙ (ap is_root_name (sym c.without_aux-root.ensures) ∙ (sym c.is_root_name.ensures ∙ c.if-not-is_root_name.true))),
    )

pub returns-clause-taken : goal.returns-clause-taken
returns-clause-taken c = no_faults (map string_bytes c.args.words.now) _ c.in_ok-command.ensures c.in-Ok.ensures.kinds

pub returns-clause-asked : goal.returns-clause-asked
returns-clause-asked c =
    let words = map string_bytes c.args.words.now in
    let rows = rows_of (found_of c.in-Ok.matches) in
    let is : asked words ≡ asked_by rows = asked_rows words _ rows c.in_ok-command.ensures (λ simple. (c.in-Ok.ensures.matches simple).0) in
    let job : c.as_bytes.result.now ≡ unwrap_or (first_of (codes "JOB") rows) [] =
    c.as_bytes.ensures.value ∙ (ap (λ s. s.now) c.unwrap_or.ensures ∙ (text_or c.get_str.result _ _ c.get_str.ensures ∙ ap (λ (o : Option (List ℕ)). unwrap_or o []) (first_value-rows (found_of c.in-Ok.matches) (codes "JOB")))) in
    let root : c.in_ok-copied.field-0 ≡ without_aux (unwrap_or (first_of (codes "JOB") rows) []) = c.in_ok-copied.ensures ∙ (c.without_aux-root.ensures ∙ ap without_aux job) in
    rw (root, c.min_found.ensures.value, c.is_set.ensures, c.is_set-2.ensures) (sym is)
