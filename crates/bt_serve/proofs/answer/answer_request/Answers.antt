use Rattle.std.proofs.Common.{Bool, List, ℕ, Option, Result, Ok, Err, false, refl, subst, sym}
use Rattle.std.specs.Io.KnownBytes.{Appends}
use Rattle.bibtex.specs.Edit.{edit_of}
use Rattle.bt_streams.specs.Writes.{AppendsPart}
use Rattle.bt_serve.specs.declared.command.Request.{Request}
use Rattle.bt_serve.specs.declared.fault.ServeFault.{ServeFault}
use Rattle.bt_serve.specs.declared.fault.ServeFault.TheVariants.{WriteFailed}
use Rattle.bt_serve.specs.inner.Asked.{request_seen}
use Rattle.bt_serve.specs.inner.Serves.{Replies}
use Rattle.bt_serve.proofs.TakenLemmas.{does_taken}
use Rattle.bt_serve.proofs.answer.answer_request.Goals as goal

pub returns-in-Ok-clause-replies : goal.returns-in-Ok-clause-replies
returns-in-Ok-clause-replies g c =
    let Written : List ℕ → Type 0 = λ t. Appends (g.K.Sink.seen c.args.sink.now).contents (g.K.Sink.seen c.say_taken.new.sink).contents t in
    let last : Result Bool ServeFault = Ok false in
    subst (λ (r : Request). Replies (request_seen r) (g.S.Source.seen c.args.source.now).rest (g.S.Source.seen c.take_edit.new.source).rest
    (g.K.Sink.seen c.args.sink.now).contents (g.K.Sink.seen c.say_taken.new.sink).contents c.args.session.now c.take_edit.new.session last) (sym c.in-Edit.is)
    (does_taken (edit_of c.in-Edit.edit) c.in-Edit.count _ _ _ _ c.in_ok-taken-in-Edit.taken Written c.in_ok-taken-in-Edit.ensures.takes c.in-Ok.ensures.0.0, refl)

pub returns-in-Err-clause-replies : goal.returns-in-Err-clause-replies
returns-in-Err-clause-replies g c =
    let Written : List ℕ → Type 0 = λ t. AppendsPart (g.K.Sink.seen c.args.sink.now).contents (g.K.Sink.seen c.say_taken.new.sink).contents t in
    let failed : Result Bool ServeFault = Err WriteFailed in
    subst (λ (r : Request). Replies (request_seen r) (g.S.Source.seen c.args.source.now).rest (g.S.Source.seen c.take_edit.new.source).rest
    (g.K.Sink.seen c.args.sink.now).contents (g.K.Sink.seen c.say_taken.new.sink).contents c.args.session.now c.take_edit.new.session failed) (sym c.in-Edit.is)
    (does_taken (edit_of c.in-Edit.edit) c.in-Edit.count _ _ _ _ c.in_ok-taken-in-Edit.taken Written c.in_ok-taken-in-Edit.ensures.takes c.in-Err.ensures.0)
