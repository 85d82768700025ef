use Rattle.std.proofs.Common.{◌-◌, ◌∙◌, sym, ap, map, take}
use Rattle.std.proofs.lemmas.List.{take-map, length-map}
use Rattle.bt_bib.proofs.aux_argument.kept.Goals as goal

pub returns-in-Some : goal.returns-in-Some
returns-in-Some c =
    rw c.in-Some.is
    (sym (take-map (λ p. p.now) c.saturating_sub.result c.args.parts.now)
    ∙ ap (λ n. take n (map (λ p. p.now) c.args.parts.now)) (c.saturating_sub.ensures ∙ ap (λ n. n - 1) (sym (length-map c.args.parts.now (λ p. p.now)))))
