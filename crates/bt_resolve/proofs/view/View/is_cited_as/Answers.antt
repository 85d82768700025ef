use Rattle.std.proofs.Common.{◌∙◌, ap, List, ℕ}
use Rattle.std.specs.Prelude.{Some}
use Rattle.bt_resolve.proofs.ApartLemmas.{cited_at}
use Rattle.bt_resolve.proofs.EarlierLemmas.{get_read}
use Rattle.bt_resolve.proofs.view.View.is_cited_as.Goals as goal

pub returns : goal.returns
returns c = λ go.
    let v = c.args.self.now in
    let key = c.index-keys-index.result in
    cited_at v.asked.now.keys v.family.now c.args.place c.args.index key
    (get_read c.as_slice-keys.result.now v.asked.now.keys c.args.index key (c.as_slice-keys.ensures ∙ c.deref.ensures) c.if-index-keys.false c.index-keys-index.is)
    (c.is_of_key.ensures go ∙ ap (λ (k : List ℕ). Some k) c.as_slice.ensures)
