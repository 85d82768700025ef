-- The definitions of footprints at small styles: what is reached, whether inputs agree in it, and what is left.
use Rattle.std.specs.Prelude.{◌≡◌, ℕ, true, false, pos, List, [], ◌∷◌, Option, None, Some, codes, refl}
use Rattle.bt_style.specs.declared.builtin.Builtin.TheVariants as builtin
use Rattle.bt_style.specs.declared.style.Target.TheVariants.{Builtin, Field, GlobalNumber, GlobalText, Function}
use Rattle.bt_style.specs.declared.reach.Reach.{Reach}
use Rattle.bt_style.specs.Tree.{Element, Words, Quoted, Braced, Called, body_of}
use Rattle.bt_style.specs.Program.{Definition, Program}
use Rattle.bt_style.specs.Reach.{leads_to, is_among}
use Rattle.bt_machine.specs.declared.input.Input.{Input}
use Rattle.bt_machine.specs.Footprint.{blend, input_over}
use Rattle.bt_machine.specs.inner.Footprint.{among}
use Rattle.bt_machine.specs.AgreementLaws.{outcome_over}
use Rattle.bt_machine.specs.Agreement.{reach_by, agreement}
use Rattle.bt_machine.specs.Step.{step_in}
use Rattle.bt_machine.specs.Eval.{eval_within}

abbrev named : List ℕ → List Element → Definition
named name es = record { name = name; body = body_of es }

-- f, the function of books, and the default, which reads the year
abbrev style : List Element → Program
style es =
    record {
      fields = [];
      entry_numbers = [];
      entry_texts = [];
      global_numbers = [];
      global_texts = [];
      macros = [];
      functions = named (codes "f") es ∷ named (codes "book") (Called (Field 0) ∷ []) ∷ named (codes "default.type") (Called (Field 1) ∷ []) ∷ [];
      commands = [];
    }

-- What a name leads to at once.

-- a name that is called, one that is only quoted, and one in braces
calls_and_quotes : leads_to (style (Called (Field 0) ∷ Quoted (Field 1) ∷ Braced (body_of (Called (GlobalText 2) ∷ [])) ∷ Words (codes "x") ∷ [])) None (Function 0) ≡ Field 0 ∷ Field 1 ∷ GlobalText 2 ∷ []
calls_and_quotes = refl

-- `call.type$`, for a type with a function and for one without: `default.type` each time
type_with_function : leads_to (style []) (Some 1) (Builtin builtin.CallType) ≡ Function 1 ∷ Function 2 ∷ []
type_with_function = refl

type_without_function : leads_to (style []) None (Builtin builtin.CallType) ≡ Function 2 ∷ []
type_without_function = refl

cite_leads_nowhere : leads_to (style []) (Some 1) (Builtin builtin.Cite) ≡ []
cite_leads_nowhere = refl

-- A blend has the kept values of the first list and the others of the second, and is as long as the first.

blended : blend {A = ℕ} (among (0 ∷ 2 ∷ [])) (1 ∷ 2 ∷ 3 ∷ 4 ∷ []) (5 ∷ 6 ∷ 7 ∷ []) ≡ 1 ∷ 6 ∷ 3 ∷ 4 ∷ []
blended = refl

-- Whether inputs agree.

abbrev given : List ℕ → List ℕ → Option ℕ → List ℕ → Input
given title year function held =
    record {
      target = Function 0;
      entry = Some (record {
        key = codes "k";
        kind = codes "book";
        function = function;
        fields = Some title ∷ Some year ∷ [];
        variables = record { numbers = []; texts = [] };
      });
      globals = record { numbers = pos 1 ∷ pos 2 ∷ []; texts = [] };
      held = held;
      preamble = [];
    }

-- reads the title
abbrev reads_title : Reach
reads_title = reach_by (Function 0 ∷ Field 0 ∷ [])

-- calls the type of a book, which reads the title, or else the default, which reads the year; both are reached
abbrev calls_type : Reach
calls_type =
    reach_by (Function 0 ∷ Builtin builtin.CallType ∷ Function 1 ∷ Function 2 ∷ Field 0 ∷ Field 1 ∷ [])

-- another year, which is not read, and another held line
other_year : agreement reads_title (given (codes "A") (codes "1") None []) (given (codes "A") (codes "2") None (codes "x")) ≡ true
other_year = refl

-- another title of the same length
other_title : agreement reads_title (given (codes "A") (codes "1") None []) (given (codes "B") (codes "1") None []) ≡ false
other_title = refl

-- another function of the type, where it is not reached and where it is
other_function : agreement reads_title (given (codes "A") (codes "1") None []) (given (codes "A") (codes "1") (Some 1) []) ≡ true
other_function = refl

other_type_called : agreement calls_type (given (codes "A") (codes "1") None []) (given (codes "A") (codes "1") (Some 1) []) ≡ false
other_type_called = refl

other_year_called : agreement calls_type (given (codes "A") (codes "1") (Some 1) []) (given (codes "A") (codes "2") (Some 1) []) ≡ false
other_year_called = refl

-- One input over another has its kept title and all else of the other.
title_kept : input_over (is_among reads_title.targets) (given (codes "B") (codes "2") None (codes "x")) (given (codes "A") (codes "1") (Some 1) []) ≡ given (codes "A") (codes "2") None (codes "x")
title_kept = refl

-- What a step left, over another input: the second integer was assigned, the first one and the held line are the input's.
assigned_kept : outcome_over (is_among (Function 0 ∷ GlobalNumber 1 ∷ [])) (given (codes "A") (codes "2") None (codes "x")) (record { globals = record { numbers = pos 7 ∷ pos 8 ∷ []; texts = [] }; variables = None; held = []; lines = codes "l" ∷ []; messages = []; stop = false; calls = [] }) ≡ record { globals = record { numbers = pos 1 ∷ pos 8 ∷ []; texts = [] }; variables = None; held = codes "x"; lines = codes "l" ∷ []; messages = []; stop = false; calls = [] }
assigned_kept = refl

-- A step that writes the title leaves it in the held line.
abbrev writes_title : List Element
writes_title = Called (Field 0) ∷ Called (Builtin builtin.Write) ∷ []

title_written : (step_in (style writes_title) (given (codes "A") (codes "1") None [])).world.held ≡ codes "A"
unfolding eval_within
title_written = refl

title_written_again : (step_in (style writes_title) (given (codes "A") (codes "2") None [])).world.held ≡ codes "A"
unfolding eval_within
title_written_again = refl
