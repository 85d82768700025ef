use Rattle.std.proofs.Common.{◌≡◌, ◌-◌, suc, drop, ap, ◌∙◌, arith}
use Rattle.bt_mentions.specs.declared.mention.Mention.{Mention}
use Rattle.bt_mentions.specs.declared.mention.Role.TheVariants.{Key}
use Rattle.bt_answers.specs.Keys.{first_in}
use Rattle.bt_answers.proofs.KeyLemmas.{first_before}
use Rattle.bt_answers.proofs.keys.first_in.Goals as goal

pub found-preserved : goal.found-preserved
found-preserved c =
    let next : c.found.n ≡ suc (c.found.n - 1) = omega arith in
    let none : Mention = record { from = 0; to = 0; role = Key } in
    record {
      within = omega arith;
      later = first_before c.args.text.now c.args.found.now (c.found.n - 1) c.found.n none c.part.result.now _ _ (omega arith) next c.found.invariant.later c.part.ensures.value
          c.in_ok-insert.ensures.known;
    }

pub returns : goal.returns
returns c =
    let none : c.found.n ≡ 0 = omega arith in
    c.found.invariant.later ∙ ap (λ k. first_in c.args.text.now (drop k c.args.found.now)) none
