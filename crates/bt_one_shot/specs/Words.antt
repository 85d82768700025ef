-- The words of the command line: what the parser is told to take, and what the words ask for.
use Rattle.std.specs.Prelude.{ℕ, pos, Bool, true, false, ◌-◌, List, [], ◌∷◌, length, take, codes, Option, Some, None, unwrap_or, if◌then◌else◌, eqb}
use Rattle.std.specs.List.{ends_with}
use Rattle.std.specs.Str.{bytes_eq}
use Rattle.std.specs.Str.Parse.{digits_value, without_leading_plus}
use Rattle.clap.specs.ValueTests.{is_unsigned_in}
use Rattle.clap.specs.Words.{App, Row, Rule, Text, new_app, new_rule, with_rule, matches_of, first_of, one_of}
use Rattle.clap.specs.Faults.{fault_of}
use Rattle.clap.specs.Kinds.{Kinds}
use Rattle.clap.specs.declared.builder.action.ArgAction.TheVariants.{Set, SetTrue}
use Rattle.clap.specs.declared.builder.value_parser.ValueParser.TheVariants.{Signed}

-- What the parser takes

-- --min-crossrefs=N or --min-crossrefs N, with N from 0 to 65,535; without it, 2
abbrev pub min_rule : Rule
min_rule = record (new_rule (codes "min-crossrefs")) {
  long = Some (codes "min-crossrefs");
  value_names = 1;
  parser = Some (Signed (pos 0) (pos 65535));
  defaults = codes "2" ∷ [];
}

-- --terse
abbrev pub terse_rule : Rule
terse_rule = record (new_rule (codes "terse")) { long = Some (codes "terse"); action = Some SetTrue }

-- --resident
abbrev pub resident_rule : Rule
resident_rule = record (new_rule (codes "resident")) { long = Some (codes "resident"); action = Some SetTrue }

-- the job's name, which must stand there
abbrev pub job_rule : Rule
job_rule = record (new_rule (codes "JOB")) { required = true; action = Some Set }

-- the program's name, the three options and the job's name; and --help
abbrev pub command_line : App
command_line =
    with_rule (with_rule (with_rule (with_rule (new_app (codes "bibtex")) min_rule) terse_rule) resident_rule) job_rule

-- the kinds of fault that these words have, `--help` among them; none if the parser accepts them
unfoldable pub faults_of : List Text → Kinds
faults_of words = fault_of command_line words

-- What the words ask for

-- a name without the .aux at its end, if it has one
abbrev pub without_aux : List ℕ → List ℕ
without_aux name = if ends_with eqb name (codes ".aux") then take (length name - 4) name else name

-- the number that a text spells, if it is one of at most 65,535
abbrev pub number_in : List ℕ → Option ℕ
number_in text = if is_unsigned_in 0 65535 text then Some (digits_value 10 (without_leading_plus text)) else None

-- min-crossrefs, given its text
abbrev pub min_of : Option (List ℕ) → ℕ
min_of None = 2
min_of (Some text) = unwrap_or (number_in text) 2

-- whether a flag's text says that it is set
abbrev pub is_set : Option (List ℕ) → Bool
is_set None = false
is_set (Some text) = bytes_eq text (codes "true")

-- what words ask for
pub record Invocation : Type 0 where
  pub root : List ℕ
  pub min : ℕ
  pub terse : Bool
  pub resident : Bool

-- what words ask for, given what the parser found in them
abbrev pub asked_by : List Row → Invocation
asked_by rows =
    record {
      root = without_aux (unwrap_or (first_of (codes "JOB") rows) []);
      min = min_of (one_of (codes "min-crossrefs") rows);
      terse = is_set (first_of (codes "terse") rows);
      resident = is_set (first_of (codes "resident") rows);
    }

-- what these words ask for, if the parser accepts them
unfoldable pub asked : List Text → Invocation
asked words = asked_by (matches_of command_line words)
