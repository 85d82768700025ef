-- What texts mean, and the steps of their run, depend on the text of each name alone.
use Rattle.std.proofs.Common.{◌≡◌, ◌∙◌, ap, refl, ℕ, suc, List, [], ◌∷◌, ◌++◌, map, Option, Some, None, Result, Ok, Err}
use Rattle.std.specs.Prelude.{unwrap_or}
use Rattle.std.specs.Option.{is_some}
use Rattle.bt_style.specs.declared.fault.StyleFault.{StyleFault}
use Rattle.bt_style.specs.declared.style.Command.{Command}
use Rattle.bt_style.specs.declared.style.Action.{Action}
use Rattle.bt_style.specs.declared.style.Action.TheVariants.{Entry, Execute, Function, Integers, Iterate, Macro, Read, Reverse, Sort, Strings}
use Rattle.bt_style.specs.Program.{Program}
use Rattle.bt_style.specs.Reader.{style_of}
use Rattle.bt_bib.specs.Items.{items_of}
use Rattle.bt_bib.specs.BibText.{pieces_of}
use Rattle.bt_resolve.specs.Resolved.{resolved}
use Rattle.bt_job.specs.declared.files.File.{File}
use Rattle.bt_job.specs.declared.citations.Citations.{Citations}
use Rattle.bt_job.specs.FileNames.{text_of}
use Rattle.bt_job.specs.Citations.{citations}
use Rattle.bt_run.specs.declared.course.Step.{Step}
use Rattle.bt_run.specs.Course.{Recorded}
use Rattle.bt_run.specs.ReadCommand.{Job, declared_before, found_for}
use Rattle.bt_run.specs.inner.Cases.{items_in, read_in, unless_stopped, command, with_counts, job_for, styled, run_with}
use Rattle.bt_run.specs.Commands.{carried_out, commands_from}
use Rattle.bt_run.specs.Meaning.{run_begun, first_globals, run_of, meaning, trace}
use Rattle.bt_run.specs.inner.Steps.{run_shown}
use Rattle.bt_run.specs.Kept.{named_text, style_text}
use Rattle.bt_run.specs.laws.ByName.{HaveSameTexts}
use Rattle.bt_job.proofs.LookupLemmas

-- What the .aux files ask for

cited_alike : (files others : List File) (root : List ℕ) → HaveSameTexts files others → citations files root ≡ citations others root
cited_alike files others root same =
    LookupLemmas.cited_alike files others root (record { there = λ name. ap is_some (same name); texts = λ name ends. same name })

-- READ

items_same : (files others : List File) → HaveSameTexts files others → (names : List (List ℕ)) → map (items_in files) names ≡ map (items_in others) names
items_same files others same [] = refl
items_same files others same (name ∷ names) =
    ap (λ o. items_of (pieces_of (unwrap_or o [])) ∷ map (items_in files) names) (same name)
    ∙ ap (λ rest. items_in others name ∷ rest) (items_same files others same names)

-- a run's job with these files
abbrev with_files : List File → Job → Job
with_files files job = record job { files = files }

found_same : (files others : List File) → HaveSameTexts files others → (job : Job) (number : ℕ) → found_for (with_files files job) number ≡ found_for (with_files others job) number
found_same files others same job number =
    ap (λ items. resolved (declared_before number job.program) job.cites items job.min) (items_same files others same job.databases)

-- Commands

carried_same : {S : Type 0} (note : S → Step → S) (files others : List File) → HaveSameTexts files others → (job : Job) (number line : ℕ) (a : Action) (r : Recorded S) →
    carried_out note (with_files files job) number line a r ≡ carried_out note (with_files others job) number line a r
carried_same note files others same job number line Entry r = refl
carried_same note files others same job number line (Execute t) r = refl
carried_same note files others same job number line (Function n) r = refl
carried_same note files others same job number line Integers r = refl
carried_same note files others same job number line (Iterate t) r = refl
carried_same note files others same job number line (Macro n) r = refl
carried_same note files others same job number line Read r = ap (λ f. record r { course = read_in job.program job.databases f r.course }) (found_same files others same job number)
carried_same note files others same job number line (Reverse t) r = refl
carried_same note files others same job number line Sort r = refl
carried_same note files others same job number line Strings r = refl

commands_same : {S : Type 0} (note : S → Step → S) (files others : List File) → HaveSameTexts files others → (job : Job) (number : ℕ) (cs : List Command) (r : Recorded S) →
    commands_from note (with_files files job) number cs r ≡ commands_from note (with_files others job) number cs r
commands_same note files others same job number [] r = refl
commands_same note files others same job number (c ∷ cs) r =
    ap (λ next. commands_from note (with_files files job) (suc number) cs (unless_stopped r.course.stopped r next)) (carried_same note files others same job number c.line c.action r)
    ∙ commands_same note files others same job (suc number) cs (command note (with_files others job) number c r)

-- Runs

styled_same : (files others : List File) → HaveSameTexts files others → (c : Citations) (min : ℕ) (style : List ℕ) (read : Result Program StyleFault) →
    styled files c min style read ≡ styled others c min style read
styled_same files others same c min style (Err fault) = refl
styled_same files others same c min style (Ok p) =
    ap with_counts (commands_same (λ steps s. steps ++ s ∷ []) files others same (job_for files c min style p) 0 p.commands (run_begun (first_globals p) c.log))

run_same : (files others : List File) → HaveSameTexts files others → (c : Citations) (min : ℕ) (style : Option (List ℕ)) →
    run_with files c min style ≡ run_with others c min style
run_same files others same c min None = refl
run_same files others same c min (Some style) =
    styled_same files others same c min style (style_of (unwrap_or (text_of files style) []))
    ∙ ap (λ o. styled others c min style (style_of (unwrap_or o []))) (same style)

whole_run_same : (files others : List File) → HaveSameTexts files others → (root : List ℕ) (min : ℕ) → run_of files root min ≡ run_of others root min
unfolding run_of
whole_run_same files others same root min =
    run_same files others same (citations files root) min (citations files root).style
    ∙ ap (λ (c : Citations). run_with others c min c.style) (cited_alike files others root same)

pub meaning_same : (files others : List File) → HaveSameTexts files others → (root : List ℕ) (min : ℕ) → meaning files root min ≡ meaning others root min
unfolding meaning
meaning_same files others same root min =
    ap (λ (r : Recorded (List Step)). run_shown r (citations files root).wanted) (whole_run_same files others same root min)
    ∙ ap (λ (c : Citations). run_shown (run_of others root min) c.wanted) (cited_alike files others root same)

pub trace_same : (files others : List File) → HaveSameTexts files others → (root : List ℕ) (min : ℕ) → trace files root min ≡ trace others root min
unfolding trace
trace_same files others same root min = ap (λ (r : Recorded (List Step)). r.seen) (whole_run_same files others same root min)

named_text_same : (files others : List File) → HaveSameTexts files others → (style : Option (List ℕ)) → named_text files style ≡ named_text others style
named_text_same files others same None = refl
named_text_same files others same (Some name) = ap (λ o. Some (unwrap_or o [])) (same name)

pub style_text_same : (files others : List File) → HaveSameTexts files others → (root : List ℕ) → style_text files root ≡ style_text others root
unfolding style_text
style_text_same files others same root =
    named_text_same files others same (citations files root).style ∙ ap (λ (c : Citations). named_text others c.style) (cited_alike files others root same)
