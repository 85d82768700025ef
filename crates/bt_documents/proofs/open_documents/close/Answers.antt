use Rattle.std.proofs.Common.{◌≡◌, ◌∙◌, ◌+◌, ◌++◌, ap, sym, suc, take, drop, Some, None, List, arith}
use Rattle.bt_documents.specs.declared.document.Document.{Document}
use Rattle.bt_documents.specs.Documents.{closed}
use Rattle.bt_documents.proofs.DocumentLemmas.{place, closed_none, closed_is_cut, closed_follows}
use Rattle.bt_documents.proofs.open_documents.close.Goals as goal

pub returns-in-Some : goal.returns-in-Some
returns-in-Some c =
    let name = c.args.name.now in
    let docs = c.args.documents.now in
    let n = c.in-Some.place in
    let there : place name docs ≡ Some n = sym (c.in-Some.ensures.place ∙ ap (place name) c.as_slice.ensures) in
    let next : n + 1 ≡ suc n = omega arith in
    let was : c.into_vec-kept.result.items ≡ docs = c.into_vec-kept.ensures ∙ c.replace.ensures.value in
    let is : c.from_vec.result ≡ closed name docs =
    c.from_vec.ensures ∙ c.remove.ensures.by_index.2 ∙ ap (λ (ds : List Document). take n ds ++ drop (n + 1) ds) was ∙
    ap (λ k. take n docs ++ drop k docs) next ∙ sym (closed_is_cut name docs n there) in
    record { documents = is; follows = λ text now. closed_follows text name docs _ is now }

pub returns-in_default : goal.returns-in_default
returns-in_default c =
    let name = c.args.name.now in
    let docs = c.args.documents.now in
    let none : place name docs ≡ None = sym (c.in_default.ensures.place ∙ ap (place name) c.as_slice.ensures) in
    record { documents = sym (closed_none name docs none); follows = λ text now. now }
