use Rattle.std.proofs.Common.{◌∙◌, ap, ℕ, List}
use Rattle.std.specs.Prelude.{option_copied}
use Rattle.bt_text.proofs.NameLemmas.{if_ok}
use Rattle.bt_resolve.proofs.NameLemmas.{spelled_uncited, spelled_cited}
use Rattle.bt_resolve.proofs.references.spelled.Goals as goal

pub returns-in-None : goal.returns-in-None
returns-in-None c =
    if_ok _ _ c.share.result (λ (text : List ℕ) is.
    spelled_uncited c.args.keys.now c.args.key.now c.as_slice.result.now text (option_copied c.in_ok-find.field-0) (c.as_slice.ensures ∙ c.deref.ensures) c.in_ok-find.ensures (ap option_copied c.in-None.is) is) c.share.ensures

pub returns-in-Some : goal.returns-in-Some
returns-in-Some c =
    if_ok _ _ c.spelled_as.result (λ (text : List ℕ) is.
    spelled_cited c.args.keys.now c.args.key.now c.as_slice.result.now text c.in-Some.cited.now (option_copied c.in_ok-find.field-0) (c.as_slice.ensures ∙ c.deref.ensures) c.in_ok-find.ensures (ap option_copied c.in-Some.is) (is ∙ c.as_slice-in-Some.ensures)) c.spelled_as.ensures
