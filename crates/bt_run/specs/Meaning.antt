-- What files mean: a run over them from scratch, which knows no edit and no earlier run.
use Rattle.std.specs.Prelude.{ℕ, ℤ, pos, List, [], ◌∷◌, ◌++◌, map, flat_map, codes, Some, None, unwrap_or, false, Ok, Err, bytes_eq, if◌then◌else◌}
use Rattle.bt_style.specs.Program.{Program}
use Rattle.bt_style.specs.Fault.{words_of}
use Rattle.bt_style.specs.Reader.{style_of}
use Rattle.bt_actions.specs.declared.entry.Variables.{Variables}
use Rattle.bt_actions.specs.World.{no_variables}
use Rattle.bt_job.specs.declared.files.File.{File}
use Rattle.bt_log.specs.declared.message.Message.{Message}
use Rattle.bt_log.specs.declared.message.Rank.TheVariants.{Error}
use Rattle.bt_log.specs.declared.message.Place.TheVariants.{Line}
use Rattle.bt_log.specs.Message.{plain, at}
use Rattle.bt_job.specs.FileNames.{text_of}
use Rattle.bt_job.specs.Citations.{citations}
use Rattle.bt_log.specs.Log.{status_of, log_bytes, terse_bytes, lines_bytes}
use Rattle.bt_run.specs.declared.course.Step.{Step}
use Rattle.bt_run.specs.Course.{Recorded}
use Rattle.bt_run.specs.ReadCommand.{Job}
use Rattle.bt_run.specs.Commands.{commands_from}
use Rattle.bt_run.specs.Counts.{calls_at, counts_told}

-- The style

-- the value of a global number at the start
abbrev pub first_number : List ℕ → ℤ
first_number name =
    if bytes_eq name (codes "entry.max$") then pos 250
    else if bytes_eq name (codes "global.max$") then pos 20000
    else pos 0

-- the globals at the start, as many as the style declares
abbrev pub first_globals : Program → Variables
first_globals p = record { numbers = map first_number p.global_numbers; texts = map (λ name. []) p.global_texts }

-- a run before its first step, with this log
abbrev pub run_begun : Variables → List Message → Recorded (List Step)
run_begun globals log = record {
  course = record { entries = []; order = []; globals = globals; preamble = []; held = []; log = log; stopped = false };
  seen = [];
}

-- Runs the commands of a style in order, starting with this log, and keeps all steps in order. In the end it logs the
-- counts.
abbrev pub style_run : Job → List Message → Recorded (List Step)
style_run job log =
    let begun = run_begun (first_globals job.program) log in
    let r = commands_from (λ steps s. steps ++ s ∷ []) job 0 job.program.commands begun in
    record r { course = record r.course { log = r.course.log ++ counts_told (calls_at r.seen) } }

-- Runs

-- The whole run over these files from this root, with this min-crossrefs. Without a style it ends after the .aux files.
-- A style's first fault goes to the end of the log, and ends the run; a name without a file counts as an empty text.
unfoldable pub run_of : List File → List ℕ → ℕ → Recorded (List Step)
run_of files root min =
    let c = citations files root in
    elim c.style [
      | None ↦ run_begun no_variables c.log
      | Some style ↦ elim (style_of (unwrap_or (text_of files style) [])) [
        | Err fault ↦
            run_begun no_variables (c.log ++ at (Line style fault.line None) (plain Error (words_of fault.kind)) ∷ [])
        | Ok p ↦
            (let job : Job = record {
              files = files;
              cites = record { keys = c.keys; star = c.star };
              databases = c.databases;
              min = min;
              style = style;
              program = p;
            } in
            style_run job c.log)
      ]
    ]

-- what a run shows: the bibliography, the log and the terse log, its messages and status, and the names of files that
-- were looked up and aren't there
pub record Meaning : Type 0 where
  pub bbl : List ℕ
  pub blg : List ℕ
  pub terse : List ℕ
  pub messages : List Message
  pub status : ℕ
  pub wanted : List (List ℕ)

-- what files mean from this root, with this min-crossrefs
unfoldable pub meaning : List File → List ℕ → ℕ → Meaning
meaning files root min =
    let r = run_of files root min in
    let log = r.course.log in
    record {
      bbl = flat_map (λ (s : Step). lines_bytes s.outcome.lines) r.seen;
      blg = log_bytes log;
      terse = terse_bytes log;
      messages = log;
      status = status_of log;
      wanted = (citations files root).wanted;
    }

-- the steps of that run
unfoldable pub trace : List File → List ℕ → ℕ → List Step
trace files root min = (run_of files root min).seen
