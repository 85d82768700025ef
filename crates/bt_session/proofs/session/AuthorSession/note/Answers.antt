use Rattle.std.proofs.Common.{rules}
use Rattle.bt_session.proofs.NameLemmas.{names_stay}
use Rattle.bt_session.proofs.session.AuthorSession.note.Goals as goal

pub returns-clause-names : goal.returns-clause-names
returns-clause-names c = λ stay.
    let was = c.args.self.now in
    names_stay c.args.name.now c.args.text.now was.texts was.root c.in-Some.old.now c.ends_with.result (search rules) (search rules) stay
