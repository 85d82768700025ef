-- One mention more, from the last one on.
use Rattle.std.proofs.Common.{◌≡◌, ◌∙◌, ap, sym, ℕ, suc, ◌<◌, List, length, drop, get_or, drop-cons, Option}
use Rattle.bt_text.specs.ByName.{with_value}
use Rattle.bt_diagnostics.specs.declared.spans.Span.{Span}
use Rattle.bt_mentions.specs.declared.mention.Mention.{Mention}
use Rattle.bt_mentions.specs.Databases.{part}
use Rattle.bt_answers.specs.Keys.{first_in}

-- where a text mentions keys first, from one mention before these on
pub first_before : (text : List ℕ) (found : List Mention) (n m : ℕ) (one : Mention) (name : List ℕ) (old new : List ℕ → Option Span) → n < length found → m ≡ suc n →
    old ≡ first_in text (drop m found) →
    name ≡ part (get_or found n one).from (get_or found n one).to text →
    new ≡ with_value name (record { begin = (get_or found n one).from; end = (get_or found n one).to }) old →
    new ≡ first_in text (drop n found)
first_before text found n m one name old new l next before at more =
    let here = get_or found n one in
    let span : Span = record { begin = here.from; end = here.to } in
    more ∙ ap (λ (k : List ℕ). with_value k span old) at ∙
    ap (with_value (part here.from here.to text) span) (before ∙ ap (λ (k : ℕ). first_in text (drop k found)) next) ∙
    ap (first_in text) (sym (drop-cons found n one l))
