use Rattle.std.proofs.Common.{◌∙◌, ap, sym, subst, append-nil, ◌++◌}
use Rattle.bt_one_shot.specs.Sinks.{Tells}
use Rattle.bt_one_shot.specs.Shots.{exit_of}
use Rattle.bt_one_shot.proofs.ShotLemmas.{ends_at_bbl, ends_at_blg, ends_well}
use Rattle.bt_one_shot.proofs.job.write_out.Goals as goal

pub returns-then-not-write : goal.returns-then-not-write
returns-then-not-write g c = λ first text is told.
    ends_at_bbl _ _ _ _ _ (λ more. Tells first (g.E.Sink.seen c.tell.new.err) (text ++ more))
    c.args.outputs.now.bbl.now c.bbl.result.now c.requires.bbl c.if-not-write.ensures (c.tell.ensures first text is told)

pub returns-then-not-write-2 : goal.returns-then-not-write-2
returns-then-not-write-2 g c = λ first text is told.
    ends_at_blg _ _ _ (g.F.Folder.seen c.write.new.self) _ _
    (λ more. Tells first (g.E.Sink.seen c.tell-then-not-write-2.new.err) (text ++ more))
    c.args.outputs.now.bbl.now c.bbl.result.now c.args.outputs.now.blg.now c.blg.result.now
    c.requires.bbl c.bbl.ensures c.requires.blg c.if-not-write.ensures c.if-not-write-2.ensures (c.tell-then-not-write-2.ensures first text is told)

pub returns : goal.returns
returns g c = λ first text is told.
    ends_well _ _ _ (g.F.Folder.seen c.write.new.self) _ _ _
    (λ more. Tells first (g.E.Sink.seen c.args.err.now) (text ++ more))
    c.args.outputs.now.bbl.now c.bbl.result.now c.args.outputs.now.blg.now c.blg.result.now _
    c.requires.bbl c.bbl.ensures c.requires.blg c.blg.ensures c.if-not-write.ensures c.if-not-write-2.ensures c.print_log.ensures
    (subst (Tells first (g.E.Sink.seen c.args.err.now)) (sym (append-nil text)) told)
    (c.exit_status.ensures ∙ ap exit_of c.status.ensures)
