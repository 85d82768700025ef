-- Parts of rules, for the functions and lemmas that speak of them.
use Rattle.std.specs.Prelude.{ℕ, List, [], ◌∷◌, length, Some, None, Bool, ◌++◌, map, slice_index_or, Option, pos, flat_map, unwrap_or, Result, Ok, Err, if◌then◌else◌, filter, take, count_by}
use Rattle.bt_style.specs.declared.style.Command.{Command}
use Rattle.bt_style.specs.Program.{Program, Definition}
use Rattle.bt_run.specs.declared.course.Course.{Course}
use Rattle.bt_run.specs.declared.course.CommandPlace.{CommandPlace}
use Rattle.bt_run.specs.declared.course.Step.{Step}
use Rattle.bt_run.specs.Course.{Recorded}
use Rattle.bt_run.specs.SortCommand.{key_at, sorted}
use Rattle.bt_run.specs.ReadCommand.{Job, list_order, is_definition, with_blank_variables, in_file, is_about, is_general, databases_told}
use Rattle.bt_run.specs.Commands.{carried_out}
use Rattle.bt_log.specs.declared.message.Message.{Message}
use Rattle.bt_log.specs.declared.message.Rank.TheVariants.{CallCount, Error, FileLine}
use Rattle.bt_log.specs.Message.{plain, at, of_file}
use Rattle.bt_run.specs.Counts.{calls_at, counts_told}
use Rattle.bt_actions.specs.declared.entry.Entry.{Entry}
use Rattle.bt_actions.specs.World.{no_variables}
use Rattle.bt_log.specs.declared.message.Place.TheVariants as place
use Rattle.bt_style.specs.declared.fault.StyleFault.{StyleFault}
use Rattle.bt_style.specs.Fault.{words_of}
use Rattle.bt_style.specs.Reader.{style_of}
use Rattle.bt_actions.specs.declared.entry.Variables.{Variables}
use Rattle.bt_job.specs.declared.files.File.{File}
use Rattle.bt_log.specs.declared.message.Place.TheVariants.{Line}
use Rattle.bt_job.specs.declared.citations.Citations.{Citations}
use Rattle.bt_job.specs.FileNames.{text_of}
use Rattle.bt_log.specs.Log.{status_of, log_bytes, terse_bytes, lines_bytes}
use Rattle.bt_run.specs.Meaning.{run_begun, style_run, Meaning}
use Rattle.bt_style.specs.declared.style.Macro.{Macro}
use Rattle.bt_resolve.specs.declared.declared.Macro.{Macro as KnownMacro}
use Rattle.bt_resolve.specs.declared.entry.Resolved.{Resolved}
use Rattle.bt_log.specs.declared.message.FileNote.TheVariants.{DatabaseFile}
use Rattle.std.specs.Ordering.{is_le, nat_cmp}
use Rattle.std.specs.Cmp.Lexicographic.{slice_cmp}
use Rattle.bt_bib.specs.Items.{PlacedItem, items_of}
use Rattle.bt_bib.specs.BibText.{pieces_of}

-- The entries are put into the order of their sort keys. Those whose keys are equal stand in list order, whatever order
-- there was.
abbrev pub sorted_run : Course → Course
sorted_run r = record r { order = sorted (key_at r.entries) (list_order r.entries) }

-- where a command stands
abbrev pub site_of : Job → ℕ → ℕ → CommandPlace
site_of job number line = record { style = job.style; command = number; line = line }

-- after a step that stopped nothing follows
abbrev pub unless_stopped : {A : Type 0} → Bool → A → A → A
unless_stopped stopped r next = if stopped then r else next

-- a command of this number
abbrev pub command : {S : Type 0} → (S → Step → S) → Job → ℕ → Command → Recorded S → Recorded S
command note job number c r = unless_stopped r.course.stopped r (carried_out note job number c.line c.action r)

abbrev pub count_message : List ℕ → Message
count_message words = plain CallCount words

-- a run with the counts of its calls after its messages
abbrev pub with_counts : Recorded (List Step) → Recorded (List Step)
with_counts r = record r { course = record r.course { log = r.course.log ++ counts_told (calls_at r.seen) } }

-- a step's messages in the log: their place is the command that ran the step
abbrev pub all_told : ℕ → List ℕ → List Message → List Message
all_told line style messages = map (at (place.Step style line)) messages

-- the error of a style's fault
abbrev pub fault_told : List ℕ → StyleFault → Message
fault_told file fault = at (Line file fault.line None) (plain Error (words_of fault.kind))

-- what a run under a style reads
abbrev pub job_for : List File → Citations → ℕ → List ℕ → Program → Job
job_for files c min style p = record {
  files = files;
  cites = record { keys = c.keys; star = c.star };
  databases = c.databases;
  min = min;
  style = style;
  program = p;
}

-- what a style that can be read does; its first fault goes to the end of the log, and ends the run
abbrev pub styled : List File → Citations → ℕ → List ℕ → Result Program StyleFault → Recorded (List Step)
styled files c min style (Err fault) = run_begun no_variables (c.log ++ fault_told style fault ∷ [])
styled files c min style (Ok p) = style_run (job_for files c min style p) c.log

-- without a style the run ends after the .aux files
abbrev pub run_with : List File → Citations → ℕ → Option (List ℕ) → Recorded (List Step)
run_with files c min None = run_begun no_variables c.log
run_with files c min (Some style) = styled files c min style (style_of (unwrap_or (text_of files style) []))

-- the bibliography: the lines of the steps
abbrev pub bbl_of : List Step → List ℕ
bbl_of steps = flat_map (λ (s : Step). lines_bytes s.outcome.lines) steps

-- how many bytes of the bibliography a step wrote
abbrev pub bytes_written : Step → ℕ
bytes_written s = length (lines_bytes s.outcome.lines)

-- what this bibliography, this log and these wanted names show
abbrev pub shown_of : List ℕ → List Message → List (List ℕ) → Meaning
shown_of bbl log wanted =
    record {
      bbl = bbl;
      blg = log_bytes log;
      terse = terse_bytes log;
      messages = log;
      status = status_of log;
      wanted = wanted;
    }

-- the functions that are defined before the command of this number
abbrev pub functions_before : ℕ → Program → List Definition
functions_before number p =
    take (count_by (λ (c : Command). is_definition c.action) (take number p.commands)) p.functions

-- A macro as the databases know it.
abbrev pub known_macro : Macro → KnownMacro
known_macro m = record { name = m.name; value = m.text }

-- the text of a name; the empty text where there is none
abbrev pub text_in : List File → List ℕ → List ℕ
text_in files name = unwrap_or (text_of files name) []

-- numbers that are 0 and empty texts, as many as there are names
abbrev pub blank : List (List ℕ) → List (List ℕ) → Variables
blank numbers texts = record { numbers = map (λ name. pos 0) numbers; texts = map (λ name. []) texts }

-- a message in the log, where it is one about a database in this file
abbrev pub in_its_file : List ℕ → Message → Message
in_its_file file m = record m { place = in_file file m.place }

-- the line of a database of this number
abbrev pub file_line : ℕ → List ℕ → Message
file_line number file = of_file FileLine (DatabaseFile number) file

-- a database of this number: its line, and the messages about it
abbrev pub database_told : ℕ → List ℕ → List Message → List Message
database_told number file messages =
    file_line number file ∷ map (in_its_file file) (filter (λ (m : Message). is_about number m.place) messages)

-- all databases, then the messages that are about none
abbrev pub all_read : List (List ℕ) → List Message → List Message
all_read databases messages =
    databases_told 1 databases messages ++ filter (λ (m : Message). is_general m.place) messages

-- the run after what the databases gave
abbrev pub read_in : Program → List (List ℕ) → Resolved → Course → Course
read_in p databases found r =
    record r {
      entries = map (with_blank_variables p) found.entries;
      order = list_order (map (with_blank_variables p) found.entries);
      preamble = found.preamble;
      log = r.log ++ all_read databases found.messages;
    }

-- the key of an entry: its text sort.key$, which is the first of its texts
abbrev pub sort_key : Entry → List ℕ
sort_key e = slice_index_or e.variables.texts 0 []

-- whether a key is the smaller one or the same, byte by byte
abbrev pub is_upto : List ℕ → List ℕ → Bool
is_upto a b = is_le (slice_cmp nat_cmp a b)

-- the items of a database; a name without a file has none
abbrev pub items_in : List File → List ℕ → List PlacedItem
items_in files name = items_of (pieces_of (unwrap_or (text_of files name) []))
