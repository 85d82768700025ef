-- READ: the entries that the databases give for the citations, and the messages.
use Rattle.std.specs.Prelude.{ℕ, pos, ◌+◌, Bool, true, false, ◌==◌, List, [], ◌∷◌, ◌++◌, length, map, filter, take, count_by, Option, Some, unwrap_or}
use Rattle.std.specs.List.{range_with_len}
use Rattle.bt_style.specs.declared.style.Action.{Action}
use Rattle.bt_style.specs.declared.style.Action.TheVariants as actions
use Rattle.bt_style.specs.declared.style.Command.{Command}
use Rattle.bt_style.specs.declared.style.Macro.{Macro}
use Rattle.bt_style.specs.Program.{Definition, Program}
use Rattle.bt_bib.specs.Items.{items_of}
use Rattle.bt_bib.specs.BibText.{pieces_of}
use Rattle.bt_actions.specs.declared.entry.Entry.{Entry}
use Rattle.bt_resolve.specs.declared.declared.Cites.{Cites}
use Rattle.bt_resolve.specs.declared.declared.Declared.{Declared}
use Rattle.bt_resolve.specs.declared.entry.Entry.{Entry as FoundEntry}
use Rattle.bt_resolve.specs.declared.entry.Resolved.{Resolved}
use Rattle.bt_resolve.specs.Resolved.{resolved}
use Rattle.bt_job.specs.declared.files.File.{File}
use Rattle.bt_log.specs.declared.message.Message.{Message}
use Rattle.bt_log.specs.declared.message.FileNote.TheVariants.{DatabaseFile}
use Rattle.bt_log.specs.declared.message.Rank.TheVariants.{FileLine}
use Rattle.bt_log.specs.declared.message.Place.{Place}
use Rattle.bt_log.specs.declared.message.Place.TheVariants.{Line, DatabaseLine}
use Rattle.bt_log.specs.Message.{of_file}
use Rattle.bt_job.specs.FileNames.{text_of}
use Rattle.bt_run.specs.declared.course.Course.{Course}

-- what a run reads: the files, what is cited from which databases, min-crossrefs, and the style with its file's name
pub record Job : Type 0 where
  pub files : List File
  pub cites : Cites
  pub databases : List (List ℕ)
  pub min : ℕ
  pub style : List ℕ
  pub program : Program

-- What the style declares

-- whether a command defines a function
unfoldable pub is_definition : Action → Bool
is_definition (actions.Function n) = true
is_definition _ = false

-- what the style declares before the command of this number: its fields, a type for each function that is defined by
-- then, and its macros
abbrev pub declared_before : ℕ → Program → Declared
declared_before number p =
    let count = count_by (λ (c : Command). is_definition c.action) (take number p.commands) in record {
      fields = p.fields;
      types = map (λ (d : Definition). d.name) (take count p.functions);
      macros = map (λ (m : Macro). record { name = m.name; value = m.text }) p.macros;
    }

-- What the databases give

-- what the databases give for the citations, at the command of this number; a name without a file has no items
abbrev pub found_for : Job → ℕ → Resolved
found_for job number =
    let items = map (λ name. items_of (pieces_of (unwrap_or (text_of job.files name) []))) job.databases in
    resolved (declared_before number job.program) job.cites items job.min

-- an entry with its variables, as many as the style declares: numbers that are 0, and empty texts
abbrev pub with_blank_variables : Program → FoundEntry → Entry
with_blank_variables p e = record {
  key = e.key;
  kind = e.kind;
  function = e.function;
  fields = e.fields;
  variables = record { numbers = map (λ name. pos 0) p.entry_numbers; texts = map (λ name. []) p.entry_texts };
}

-- Messages

-- A line of a database is a line of this file.
abbrev pub in_file : List ℕ → Option Place → Option Place
in_file file (Some (DatabaseLine database line byte)) = Some (Line file line byte)
in_file file place = place

-- whether a message is about the database of a number
abbrev pub is_about : ℕ → Option Place → Bool
is_about number (Some (DatabaseLine database line byte)) = database == number
is_about number _ = false

-- whether a message is about no database
abbrev pub is_general : Option Place → Bool
is_general (Some (DatabaseLine database line byte)) = false
is_general _ = true

-- databases in order, numbered from here on: the line of each, and the messages about it
abbrev pub databases_told : ℕ → List (List ℕ) → List Message → List Message
databases_told number [] messages = []
databases_told number (file ∷ files) messages =
    let in_its_file : Message → Message = λ m. record m { place = in_file file m.place } in
    let these = map in_its_file (filter (λ (m : Message). is_about number m.place) messages) in
    (of_file FileLine (DatabaseFile number) file ∷ these) ++ databases_told (number + 1) files messages

-- The command

-- the places of this number of entries, in the order of the list
abbrev pub list_order : List Entry → List ℕ
list_order entries = range_with_len 0 (length entries)

-- the run with what the databases gave; after their messages come those that are about none of them
abbrev pub read : Job → ℕ → Course → Course
read job number r =
    let found = found_for job number in
    let entries = map (with_blank_variables job.program) found.entries in
    let general = filter (λ (m : Message). is_general m.place) found.messages in
    record r {
      entries = entries;
      order = list_order entries;
      preamble = found.preamble;
      log = r.log ++ (databases_told 1 job.databases found.messages ++ general);
    }
