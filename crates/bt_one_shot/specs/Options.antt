-- The options that words ask for, or the fault of the words.
use Rattle.std.specs.Prelude.{◌≡◌, ℕ, false, List, []}
use Rattle.bibtex.specs.Present.{is_root_name}
use Rattle.clap.specs.Words.{kind_of, IsAmong}
use Rattle.bt_one_shot.specs.Words.{Invocation, asked, faults_of}
use Rattle.bt_one_shot.specs.declared.options.Options.{Options}
use Rattle.bt_one_shot.specs.declared.options.OptionsFault.{OptionsFault}
use Rattle.bt_one_shot.specs.declared.options.OptionsFault.TheVariants.{Parser, BadJobName, OutOfMemory}

-- the code's options as definitions see them
abbrev pub asked_of : Options → Invocation
asked_of o = record { root = o.root; min = o.min; terse = o.terse; resident = o.resident }

-- A fault that the words have: one that the parser finds, or `--help`; or, if it finds none, a job's name that can't be
-- a root name. Out of memory may come instead of either.
abbrev pub IsFaultOf : List (List ℕ) → OptionsFault → Type 0
IsFaultOf words (Parser fault) = IsAmong (kind_of fault) (faults_of words)
IsFaultOf words BadJobName = (faults_of words ≡ []) × (is_root_name (asked words).root ≡ false)
IsFaultOf words OutOfMemory = Unit {0}
