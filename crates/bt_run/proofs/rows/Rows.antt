-- Worked examples: the order of SORT, what READ tells, the beginning of a run, the counts, a style's fault.
use Rattle.std.specs.Prelude.{codes, slice_index_or, Some, None}
use Rattle.std.specs.Fmt.{digits}
use Rattle.std.proofs.Common.{◌≡◌, refl, ℕ, pos, List, [], ◌∷◌, take, map, length}
use Rattle.bt_style.specs.declared.style.Action.{Action}
use Rattle.bt_style.specs.declared.style.Action.TheVariants as actions
use Rattle.bt_style.specs.declared.style.Command.{Command}
use Rattle.bt_style.specs.declared.fault.FaultKind.TheVariants.{UnknownName}
use Rattle.bt_style.specs.Builtins.{table}
use Rattle.bt_style.specs.Tree.{End}
use Rattle.bt_style.specs.Program.{Program, Definition}
use Rattle.bt_log.specs.declared.message.Message.{Message}
use Rattle.bt_log.specs.declared.message.Rank.{Rank}
use Rattle.bt_log.specs.declared.message.Rank.TheVariants.{FileLine, Warning, Error, CallCount}
use Rattle.bt_log.specs.declared.message.Said.TheVariants.{Words}
use Rattle.bt_log.specs.declared.message.Place.TheVariants.{DatabaseLine}
use Rattle.bt_log.specs.Message.{plain, at, skipping}
use Rattle.bt_log.specs.Wording.{spelled}
use Rattle.bt_run.specs.SortCommand.{put_among, sorted}
use Rattle.bt_run.specs.ReadCommand.{is_definition}
use Rattle.bt_run.specs.inner.Cases.{functions_before, all_read, fault_told}
use Rattle.bt_run.specs.Counts.{calls_at, all_calls, counts_told}
use Rattle.bt_run.specs.Meaning.{first_globals}

-- a message in words, with its rank
abbrev message : Rank → List ℕ → Rank × List ℕ
message rank words = (rank, words)

abbrev in_words : List Message → List (Rank × List ℕ)
in_words log = map (λ m. (m.rank, spelled m)) log

-- SORT

abbrev keys : List (List ℕ)
keys = codes "b" ∷ codes "A" ∷ codes "b" ∷ [] ∷ codes "B" ∷ codes "ab" ∷ []

-- large letters stand before small ones, the empty key first, and the two equal keys in list order
in_order : sorted (λ n. slice_index_or keys n []) (0 ∷ 1 ∷ 2 ∷ 3 ∷ 4 ∷ 5 ∷ []) ≡ 3 ∷ 1 ∷ 4 ∷ 5 ∷ 0 ∷ 2 ∷ []
unfolding sorted put_among
in_order = refl

-- READ

-- a warning of the second database, an error of the first, and an error about the list
abbrev found_messages : List Message
found_messages =
    skipping (Words (codes "Repeated entry")) (DatabaseLine 1 2 None) (codes "entry")
    ∷ at (DatabaseLine 2 1 None) (plain Warning (codes "Warning--string name \"nix\" is undefined"))
    ∷ record (plain Error (codes "A bad cross reference---entry \"a\"")) { second = Some (codes "refers to entry \"p\", which doesn't exist") }
    ∷ []

told : in_words (all_read (codes "x.bib" ∷ codes "y.bib" ∷ []) found_messages) ≡
    message FileLine (codes "Database file #1: x.bib")
    ∷ message Error (codes "Repeated entry---line 2 of file x.bib\nI'm skipping whatever remains of this entry")
    ∷ message FileLine (codes "Database file #2: y.bib")
    ∷ message Warning (codes "Warning--string name \"nix\" is undefined\n--line 1 of file y.bib")
    ∷ message Error (codes "A bad cross reference---entry \"a\"\nrefers to entry \"p\", which doesn't exist")
    ∷ []
unfolding digits
told = refl

abbrev command : Action → ℕ → Command
command action line = record { action = action; line = line }

abbrev definition : List ℕ → Definition
definition name = record { name = name; body = End }

-- two functions before READ, and one after it
abbrev style : Program
style = record {
  fields = codes "crossref" ∷ [];
  entry_numbers = [];
  entry_texts = codes "sort.key$" ∷ [];
  global_numbers = codes "entry.max$" ∷ codes "global.max$" ∷ codes "n" ∷ [];
  global_texts = codes "s" ∷ codes "t" ∷ [];
  macros = [];
  functions = definition (codes "misc") ∷ definition (codes "helper") ∷ definition (codes "book") ∷ [];
  commands = command actions.Entry 1 ∷ command (actions.Function 0) 2 ∷ command actions.Integers 3 ∷ command (actions.Function 1) 4 ∷ command actions.Read 5 ∷ command (actions.Function 2) 6 ∷ [];
}

types_before : map (λ (d : Definition). d.name) (functions_before 4 style) ≡ codes "misc" ∷ codes "helper" ∷ []
unfolding is_definition
types_before = refl

-- The beginning of a run

beginning : first_globals style ≡ record { numbers = pos 250 ∷ pos 20000 ∷ pos 0 ∷ []; texts = [] ∷ [] ∷ [] }
beginning = refl

-- A style's fault

refused : in_words (fault_told (codes "s.bst") (record { kind = UnknownName; line = 2 }) ∷ []) ≡ message Error (codes "This name isn't defined---line 2 of file s.bst") ∷ []
unfolding digits
refused = refl

-- The counts

no_calls : in_words (take 2 (counts_told (calls_at []))) ≡ message CallCount (codes "The built-in function-call counts, 0 in all, are:") ∷ message CallCount (codes "> -- 0") ∷ []
unfolding counts_told all_calls table digits
no_calls = refl

all_lines : length (counts_told (calls_at [])) ≡ 38
unfolding counts_told table
all_lines = refl
