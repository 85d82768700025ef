use Rattle.std.proofs.Common.{◌≡◌, ◌∙◌, ap, sym, Some, None}
use Rattle.bt_documents.proofs.DocumentLemmas.{place, opened_is_set, opened_at_the_end}
use Rattle.bt_documents.proofs.open_documents.put.Goals as goal

pub returns-in-Some-clause-documents : goal.returns-in-Some-clause-documents
returns-in-Some-clause-documents c =
    let docs = c.args.documents.now in
    let x = c.args.document in
    let n = c.in-Some.place in
    let there : place x.name docs ≡ Some n = sym (c.in-Some.ensures.place ∙ ap (place c.as_slice-2.result.now) c.as_slice.ensures ∙ ap (λ m. place m docs) c.as_slice-2.ensures) in
    c.set.ensures ∙ sym (opened_is_set x docs n there)

pub returns-in_ok-push-in-None-clause-documents : goal.returns-in_ok-push-in-None-clause-documents
returns-in_ok-push-in-None-clause-documents c =
    let docs = c.args.documents.now in
    let x = c.args.document in
    let none : place x.name docs ≡ None = sym (c.in-None.ensures.place ∙ ap (place c.as_slice-2.result.now) c.as_slice.ensures ∙ ap (λ m. place m docs) c.as_slice-2.ensures) in
    c.in_ok-push-in-None.ensures.ok ∙ sym (opened_at_the_end x docs none)
