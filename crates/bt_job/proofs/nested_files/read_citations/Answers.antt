use Rattle.std.specs.Prelude.{codes}
use Rattle.std.proofs.Common.{◌≡◌, ◌∙◌, ◌++◌, rules}
use Rattle.bt_job.specs.FileNames.{text_of}
use Rattle.bt_job.specs.inner.NestedFiles.{rooted, asked_for}
use Rattle.bt_job.proofs.CitationLemmas.{citations_are}
use Rattle.bt_job.proofs.FitLemmas.{reads_fit}
use Rattle.bt_job.proofs.nested_files.read_citations.Goals as goal

pub returns-clause-value : goal.returns-clause-value
returns-clause-value c =
    let file = c.args.root.now ++ codes ".aux" in
    let value : c.in_ok-asked.asked ≡ asked_for (rooted c.args.files.now file (text_of c.args.files.now file)) = search rules in
    value ∙ citations_are c.args.files.now c.args.root.now

pub returns-clause-fit : goal.returns-clause-fit
returns-clause-fit c =
    let file = c.args.root.now ++ codes ".aux" in
    let value : c.in_ok-asked.asked ≡ asked_for (rooted c.args.files.now file (text_of c.args.files.now file)) = search rules in
    reads_fit c.args.files.now c.args.root.now c.in_ok-asked.asked (value ∙ citations_are c.args.files.now c.args.root.now)
