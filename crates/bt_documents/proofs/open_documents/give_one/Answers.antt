use Rattle.std.proofs.Common.{◌≡◌, ◌∙◌, ap, sym, subst, rules, ℕ, List, Some, false, slice_get}
use Rattle.std.specs.Prelude.{bytes_eq, IsTrue}
use Rattle.bt_documents.specs.declared.document.Document.{Document}
use Rattle.bt_documents.specs.Documents.{AreGiven, Follows}
use Rattle.bt_documents.specs.Written.{is_taken}
use Rattle.bt_documents.proofs.DocumentLemmas.{given_set, follows_given, behind_at, get_within}
use Rattle.bt_documents.proofs.open_documents.give_one.Goals as goal

pub returns-clause-documents : goal.returns-clause-documents
returns-clause-documents g c =
    let docs = c.args.documents.now in
    let d = c.in-Some.document.now in
    let at : slice_get docs c.args.place ≡ Some d = sym (c.in-Some.ensures ∙ ap (λ (ds : List Document). slice_get ds c.args.place) c.as_slice.ensures) in
    subst (AreGiven docs) (sym (c.mark.ensures d at)) (given_set docs c.args.place d at)

pub returns-clause-follows : goal.returns-clause-follows
returns-clause-follows g c = λ now.
    let docs = c.args.documents.now in
    let d = c.in-Some.document.now in
    let at : slice_get docs c.args.place ≡ Some d = sym (c.in-Some.ensures ∙ ap (λ (ds : List Document). slice_get ds c.args.place) c.as_slice.ensures) in
    let old = g.F.Files.text c.args.files.now in
    let text' = g.F.Files.text c.write-written.new.self in
    let taken : IsTrue (is_taken c.write-written.result) = search rules in
    let has : text' d.name ≡ Some d.text = ap text' (sym c.as_slice-2.ensures) ∙ c.write-written.ensures.written taken ∙ ap Some c.as_slice-3.ensures in
    let kept : (other : List ℕ) → bytes_eq other d.name ≡ false → text' other ≡ old other =
    λ other apart. c.write-written.ensures.others other (ap (λ m. bytes_eq other m) c.as_slice-2.ensures ∙ apart) in
    subst (Follows text') (sym (c.mark.ensures d at)) (follows_given old text' docs c.args.place d at kept has now)

pub returns-then-not-is_taken-clause-waiting : goal.returns-then-not-is_taken-clause-waiting
returns-then-not-is_taken-clause-waiting g c = λ t.
    let docs = c.args.documents.now in
    let d = c.in-Some.document.now in
    let at : slice_get docs c.args.place ≡ Some d = sym (c.in-Some.ensures ∙ ap (λ (ds : List Document). slice_get ds c.args.place) c.as_slice.ensures) in
    behind_at docs c.args.place d at c.if-document.false

pub mark-requires : goal.mark-requires
mark-requires g c =
    let docs = c.args.documents.now in
    let d = c.in-Some.document.now in
    get_within docs c.args.place d (sym (c.in-Some.ensures ∙ ap (λ (ds : List Document). slice_get ds c.args.place) c.as_slice.ensures))
