use Rattle.std.proofs.Common.{sym}
use Rattle.bt_paper.proofs.TextLemmas.{text_reread}
use Rattle.bt_paper.proofs.open_files.reread.Goals as goal

pub returns : goal.returns
returns c = text_reread c.args.session.now c.replace.new.session c.args.known.now c.args.uri.now c.in-Some.name.now (sym c.in-Some.ensures) c.replace.ensures
