use Rattle.std.proofs.Common.{◌≡◌, ◌∙◌, ap, sym, ℕ, ◌++◌, take, drop, subst}
use Rattle.std.specs.Prelude.{decimal}
use Rattle.std.specs.Result.{result_ok}
use Rattle.std.specs.Str.{IsUtf8}
use Rattle.std.proofs.lemmas.Fmt.{parse-decimal, IsAscii-decimal}
use Rattle.std.proofs.lemmas.Str.{IsUtf8-from_ascii}
use Rattle.bt_files.specs.Names.{ending_of}
use Rattle.bt_files.proofs.NumberLemmas.{number_digits}
use Rattle.bt_files.proofs.names.number_of.Goals as goal

pub returns-in-Ok : goal.returns-in-Ok
returns-in-Ok c = λ number author few is.
    let rest : c.in_ok-rest.rest.now ≡ decimal number ++ ending_of author = c.in_ok-rest.ensures.cases.1 ∙ ap (drop 2) is in
    let digits : c.in-Ok.digits.now ≡ decimal number =
    c.in-Ok.ensures.cases.0 ∙ c.split_at.ensures.front ∙ ap (λ (n : ℕ). take n c.in_ok-rest.rest.now) c.digits_len.ensures.len
    ∙ number_digits number author c.in_ok-rest.rest.now few rest in
    c.ok.ensures.value ∙ ap result_ok (parse-decimal 64 number c.in-Ok.digits.now c.parse.result few few digits c.parse.ensures.value.0)

pub returns-in-Err : goal.returns-in-Err
returns-in-Err c = λ number author few is.
    let rest : c.in_ok-rest.rest.now ≡ decimal number ++ ending_of author = c.in_ok-rest.ensures.cases.1 ∙ ap (drop 2) is in
    let digits : c.split_at.result.0.now ≡ decimal number =
    c.split_at.ensures.front ∙ ap (λ (n : ℕ). take n c.in_ok-rest.rest.now) c.digits_len.ensures.len
    ∙ number_digits number author c.in_ok-rest.rest.now few rest in
    absurd (c.in-Err.ensures.cases.0 (subst IsUtf8 (sym digits) (IsUtf8-from_ascii (decimal number) (IsAscii-decimal number few))))
