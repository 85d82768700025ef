use Rattle.bt_paper.proofs.FollowLemmas.{follows_reread}
use Rattle.bt_paper.proofs.session_paper.SessionPaper.reread.Goals as goal

pub returns-in_err-taken : goal.returns-in_err-taken
returns-in_err-taken g c = λ f.
    follows_reread c.args.self.now.session c.in-Some-session.session c.reread-written.new.session c.args.self.now.known c.as_slice-3.result.now c.in-Some.one.now.uri
    c.as_slice-2.result.now c.as_slice-4.result.now c.args.documents.now c.is_among.result c.in-Some-session.is c.as_slice-3.ensures c.as_slice-2.ensures
    c.as_slice-4.ensures c.is_among.ensures c.if-is_among.false c.reread-written.ensures f

pub returns : goal.returns
returns g c = λ f.
    follows_reread c.args.self.now.session c.in-Some-session.session c.reread-written.new.session c.args.self.now.known c.as_slice-3.result.now c.in-Some.one.now.uri
    c.as_slice-2.result.now c.as_slice-4.result.now c.args.documents.now c.is_among.result c.in-Some-session.is c.as_slice-3.ensures c.as_slice-2.ensures
    c.as_slice-4.ensures c.is_among.ensures c.if-is_among.false c.reread-written.ensures f
