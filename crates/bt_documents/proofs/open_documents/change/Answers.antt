use Rattle.std.proofs.Common.{◌≡◌, ◌∙◌, ap, sym, subst, refl, false, Some, None, List, slice_set, slice_index_or, to_z-of_z}
use Rattle.bt_documents.specs.declared.document.Document.{Document}
use Rattle.bt_documents.specs.Documents.{after_changes, Follows}
use Rattle.bt_documents.proofs.DocumentLemmas.{place, with_none, with_is_set, follows_set, not_in_step}
use Rattle.bt_documents.proofs.open_documents.change.Goals as goal

pub returns-in_default-clause-documents : goal.returns-in_default-clause-documents
returns-in_default-clause-documents c =
    let name = c.args.name.now in
    let docs = c.args.documents.now in
    let none : place name docs ≡ None = sym (c.in_default.ensures.place ∙ ap (place name) c.as_slice.ensures) in
    sym (with_none name _ docs none)

pub returns-clause-documents : goal.returns-clause-documents
returns-clause-documents c =
    let name = c.args.name.now in
    let docs = c.args.documents.now in
    let n = c.in-Some.place in
    let there : place name docs ≡ Some n = sym (c.in-Some.ensures.place ∙ ap (place name) c.as_slice.ensures) in
    let old = c.index-as_slice-place.result in
    let after : Document → Document = after_changes name c.args.version c.args.changes.now in
    let made = rw (to_z-of_z c.ranges.version) at c.in_ok-document.ensures in
    let new = made ∙ ap after (c.index-as_slice-place.is ∙ ap (λ (ds : List Document). slice_index_or ds n old) c.as_slice-2.ensures) in
    c.set.ensures ∙ ap (slice_set docs n) new ∙ sym (with_is_set name after docs n old there)

pub returns-clause-follows : goal.returns-clause-follows
returns-clause-follows c = λ text now.
    let name = c.args.name.now in
    let docs = c.args.documents.now in
    let n = c.in-Some.place in
    let there : place name docs ≡ Some n = sym (c.in-Some.ensures.place ∙ ap (place name) c.as_slice.ensures) in
    let new = c.in_ok-document.document in
    let named : new.name ≡ name = ap (λ (d : Document). d.name) c.in_ok-document.ensures in
    let behind : new.in_step ≡ false = ap (λ (d : Document). d.in_step) c.in_ok-document.ensures in
    subst (Follows text) (sym c.set.ensures) (follows_set text text name new docs n there named (λ other apart. refl) (not_in_step text new behind) now)
