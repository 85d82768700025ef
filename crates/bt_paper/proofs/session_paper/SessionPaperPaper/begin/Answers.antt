use Rattle.std.proofs.Common.{subst, sym}
use Rattle.bt_paper.specs.Paper.{IsOfJob}
use Rattle.bt_paper.proofs.TextLemmas.{of_asked}
use Rattle.bt_paper.proofs.session_paper.SessionPaperPaper.begin.Goals as goal

pub returns-clause-ok : goal.returns-clause-ok
returns-clause-ok g c =
    of_asked c.args.job c.as_str.result c.unwrap_or-root.result _ _ c.replace.new.dest c.unwrap_or-root.ensures c.as_bytes.ensures.value c.as_str.ensures.value
    (subst (λ s. IsOfJob c.as_bytes.result.now s) (sym c.replace.ensures.after) c.in_ok-session.ensures)
