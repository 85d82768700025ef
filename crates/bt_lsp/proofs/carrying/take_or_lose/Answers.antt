use Rattle.bt_lsp.proofs.carrying.take_or_lose.Goals as goal

pub returns-after-rereads-clause-follows : goal.returns-after-rereads-clause-follows
returns-after-rereads-clause-follows g c = c.take.ensures.follows (g.P.Files.text c.args.server.now.paper)
