-- What counts as excluded, and what small styles do.
use Rattle.std.specs.Prelude.{◌≡◌, ℕ, pos, List, [], ◌∷◌, codes, Bool, true, false, Option, None, Some, refl}
use Rattle.bt_style.specs.Builtins.{table}
use Rattle.bt_style.specs.declared.builtin.Builtin.TheVariants.{Empty, If, Plus, Pop, Write}
use Rattle.bt_style.specs.declared.style.Target.TheVariants.{Builtin, Field, Function}
use Rattle.bt_style.specs.Tree.{Element, Amount, Braced, Called, End, body_of}
use Rattle.bt_style.specs.Program.{Program}
use Rattle.bt_actions.specs.declared.entry.Entry.{Entry}
use Rattle.bt_actions.specs.declared.complaint.Complaint.TheVariants.{EmptyStack, WrongKind, OutOfRange, TooManyCommas, Shown}
use Rattle.bt_actions.specs.Words.{message_of}
use Rattle.bt_actions.specs.World.{World, no_variables}
use Rattle.bt_machine.specs.Eval.{eval_within}
use Rattle.bt_machine.specs.Step.{step}
use Rattle.bt_sound.specs.Excluded.{excluded, is_one_of, is_clean}
use Rattle.bt_sound.specs.Fits.{is_named}

-- what each kind of message counts as

wrong_kind : is_one_of excluded (message_of (Some (codes "a")) (WrongKind Write)) ≡ true
unfolding table
wrong_kind = refl

too_many_commas : is_one_of excluded (message_of (Some (codes "a")) (TooManyCommas (pos 1) (codes "x"))) ≡ false
unfolding table
too_many_commas = refl

-- what a style logs is no error, whatever it says
logged : is_one_of excluded (message_of None (Shown (codes "The literal stack isn't empty"))) ≡ false
unfolding table
logged = refl

-- after an overflow nothing is promised

before_overflow : is_clean (message_of None EmptyStack ∷ message_of None (OutOfRange Plus) ∷ []) ≡ false
unfolding table
before_overflow = refl

after_overflow : is_clean (message_of None (OutOfRange Plus) ∷ message_of None EmptyStack ∷ []) ≡ true
unfolding table
after_overflow = refl

-- types

no_type : is_named [] None ≡ true
no_type = refl

other_type : is_named (1 ∷ 2 ∷ []) (Some 3) ≡ false
other_type = refl

-- steps of a style with one field, for an entry that has it or not

abbrev style : List Element → Program
style es =
    record {
      fields = codes "title" ∷ [];
      entry_numbers = [];
      entry_texts = [];
      global_numbers = [];
      global_texts = [];
      macros = [];
      functions = record { name = codes "f"; body = body_of es } ∷ [];
      commands = [];
    }

abbrev cited : Option (List ℕ) → Entry
cited title =
    record { key = codes "a"; kind = codes "book"; function = Some 0; fields = title ∷ []; variables = no_variables }

abbrev start : Option (List ℕ) → World
start title =
    record {
      entries = cited title ∷ [];
      current = None;
      globals = no_variables;
      preamble = [];
      held = [];
      lines = [];
      messages = [];
      stack = [];
    }

abbrev runs_clean : List Element → Option (List ℕ) → Bool
runs_clean es title = is_clean (step (style es) (Some 0) (Function 0) (start title)).world.messages

-- title write$
abbrev untested : List Element
untested = Called (Field 0) ∷ Called (Builtin Write) ∷ []

untested_there : runs_clean untested (Some (codes "T")) ≡ true
unfolding eval_within table
untested_there = refl

untested_missing : runs_clean untested None ≡ false
unfolding eval_within table
untested_missing = refl

-- title empty$ { } { title write$ } if$
abbrev tested : List Element
tested =
    Called (Field 0) ∷ Called (Builtin Empty) ∷ Braced End ∷ Braced (body_of untested) ∷ Called (Builtin If) ∷ []

tested_there : runs_clean tested (Some (codes "T")) ≡ true
unfolding eval_within table
tested_there = refl

tested_missing : runs_clean tested None ≡ true
unfolding eval_within table
tested_missing = refl

-- pop$ with nothing on the stack, and a number that is left

popped_too_much : runs_clean (Called (Builtin Pop) ∷ []) None ≡ false
unfolding eval_within table
popped_too_much = refl

left : runs_clean (Amount (pos 1) ∷ []) None ≡ false
unfolding eval_within table
left = refl
