use Rattle.bt_documents.proofs.DocumentLemmas.{given_same, given_twice}
use Rattle.bt_documents.proofs.open_documents.give_again.Goals as goal

pub documents-init : goal.documents-init
documents-init g c = (given_same c.args.documents.now, λ f. f)

pub documents-preserved : goal.documents-preserved
documents-preserved g c = (
  given_twice c.args.documents.now c.documents.documents c.give_one.new.documents c.documents.invariant.0 c.give_one.ensures.documents,
  λ f. c.give_one.ensures.follows (c.documents.invariant.1 f),
)

pub returns-then-is_waiting-clause-documents : goal.returns-then-is_waiting-clause-documents
returns-then-is_waiting-clause-documents g c =
    given_twice c.args.documents.now c.documents.documents c.give_one.new.documents c.documents.invariant.0 c.give_one.ensures.documents
