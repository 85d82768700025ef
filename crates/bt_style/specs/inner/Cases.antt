-- Parts of rules, for the functions and lemmas that speak of them.
use Rattle.std.specs.Prelude.{ℕ, ◌+◌, ◌==◌, if◌then◌else◌, List, [], ◌∷◌, ◌++◌, length, map, Option, Some, None, Result, Ok}
use Rattle.bt_style.specs.declared.fault.FaultKind.{FaultKind}
use Rattle.bt_style.specs.declared.fault.FaultKind.TheVariants.{UnknownCommand, UnknownName}
use Rattle.bt_style.specs.declared.fault.StyleFault.{StyleFault}
use Rattle.bt_style.specs.declared.style.Target.{Target}
use Rattle.bt_style.specs.declared.verbs.Verb.{Verb}
use Rattle.bt_style.specs.Tree.{Body}
use Rattle.bt_style.specs.Program.{Program}
use Rattle.bt_style.specs.Fault.{fault}
use Rattle.bt_style.specs.Token.{Token, Literal, Unclosed, Glued, Tokens, Front, Piece, quote, may_follow}

-- the piece that begins with a quote, by the bytes up to the next quote or the line's end and those from there on
abbrev pub literal_end : List ℕ → List ℕ → Piece
literal_end inside behind =
    let unclosed : Piece = record { token = Some Unclosed; size = 1 + length inside } in
    elim behind [
      | [] ↦ unclosed
      | b ∷ behind ↦
          if b == quote then record {
            token = Some (if may_follow behind then Literal inside else Glued);
            size = 2 + length inside;
          }
          else unclosed
    ]

abbrev pub with_token : Option Token → ℕ → Tokens → Tokens
with_token found line rest = elim found [ None ↦ rest | Some token ↦ Front token line rest ]

-- nothing is declared
abbrev pub bare : Program
bare = record {
  fields = [];
  entry_numbers = [];
  entry_texts = [];
  global_numbers = [];
  global_texts = [];
  macros = [];
  functions = [];
  commands = [];
}

abbrev pub with_macro : List ℕ → List ℕ → Program → Program
with_macro name text p = record p { macros = p.macros ++ (record { name = name; text = text }) ∷ [] }

abbrev pub with_function : List ℕ → Body → Program → Program
with_function name body p = record p { functions = p.functions ++ (record { name = name; body = body }) ∷ [] }

abbrev pub function_names : Program → List (List ℕ)
function_names p = map (λ f. f.name) p.functions

abbrev pub macro_names : Program → List (List ℕ)
macro_names p = map (λ m. m.name) p.macros

abbrev pub target_or_fault : Option Target → ℕ → Result Target StyleFault
target_or_fault found line = elim found [ None ↦ fault UnknownName line | Some target ↦ Ok target ]

-- the word is that of a command
abbrev pub verb_of : Option Verb → ℕ → Result Verb StyleFault
verb_of found line = elim found [ None ↦ fault UnknownCommand line | Some verb ↦ Ok verb ]

-- a command may stand there
abbrev pub in_order : Option FaultKind → ℕ → Result (Unit {0}) StyleFault
in_order out line = elim out [ None ↦ Ok (tt {0}) | Some kind ↦ fault kind line ]
