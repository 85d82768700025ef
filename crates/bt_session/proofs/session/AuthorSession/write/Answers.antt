use Rattle.std.specs.Prelude.{unwrap_or}
use Rattle.std.proofs.Common.{◌≡◌, ◌∙◌, ap, rules, List, ℕ, []}
use Rattle.bt_job.specs.declared.files.File.{File}
use Rattle.bt_job.specs.FileNames.{text_of}
use Rattle.bibtex.proofs.TextLemmas.{others_stay}
use Rattle.bt_session.proofs.session.AuthorSession.write.Goals as goal

pub go_over-requires-clause-rest : goal.go_over-requires-clause-rest
go_over-requires-clause-rest c = λ n other.
    let text_then : List File → List ℕ = λ files. unwrap_or (text_of files n) [] in
    let same : c.as_slice.result.now ≡ c.note.new.self.texts = search rules in
    ap text_then c.in_ok-texts.ensures ∙ others_stay c.args.name.now _ c.as_slice.result.now n other ∙ ap text_then same
