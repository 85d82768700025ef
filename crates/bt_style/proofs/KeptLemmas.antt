-- What holds of a style before its first command, and is kept by each declaration, holds of it to the end.
use Rattle.std.proofs.Common.{◌≡◌, ◌∙◌, ap, subst, ℕ, zero, suc, List, [], ◌∷◌, length, Option, Some, None, Result, Ok, ◌<◌, ◌++◌, arith}
use Rattle.std.proofs.lemmas.List.{length-append}
use Rattle.bt_style.specs.declared.fault.StyleFault.{StyleFault}
use Rattle.bt_style.specs.declared.names.Names.{Names}
use Rattle.bt_style.specs.declared.names.Names.TheVariants.{Fields, EntryNumbers, EntryTexts, GlobalNumbers, GlobalTexts}
use Rattle.bt_style.specs.declared.style.Target.{Target}
use Rattle.bt_style.specs.declared.style.Action.{Action}
use Rattle.bt_style.specs.declared.style.Action.TheVariants as actions
use Rattle.bt_style.specs.declared.verbs.Verb.{Verb}
use Rattle.bt_style.specs.declared.verbs.Verb.TheVariants as verbs
use Rattle.bt_style.specs.declared.verbs.Stage.{Stage}
use Rattle.bt_style.specs.Program.{Program}
use Rattle.bt_style.specs.Tree.{Body}
use Rattle.bt_style.specs.Fault.{◌>>=◌}
use Rattle.bt_style.specs.Token.{Open, Close, Word, Literal, Unclosed, Glued, Tokens, AtEnd, Front}
use Rattle.bt_style.specs.Names.{is_taken, is_macro}
use Rattle.bt_style.specs.Draft.{with_name, with_command}
use Rattle.bt_style.specs.inner.Cases.{with_macro, with_function, verb_of, in_order}
use Rattle.bt_style.specs.Arguments.{open_at, close_at, word_at, braced_word, literal_at}
use Rattle.bt_style.specs.Declares.{new_name, names_at, braced_names}
use Rattle.bt_style.specs.Bodies.{body_at}
use Rattle.bt_style.specs.Verbs.{verb_named, out_of_order, stage_after}
use Rattle.bt_style.specs.Commands.{run_target, run_at, variables_at, arguments_at, command_at}
use Rattle.bt_style.specs.Reader.{command_word, commands_at}
use Rattle.bt_style.specs.Uses.{IsDeclared, NamesDeclared}
use Rattle.bt_style.proofs.SpelledLemmas.{bind_ok, ok_same}
use Rattle.bt_style.proofs.DeclaredLemmas.{run_within}

-- what each declaration keeps
pub record IsKept (P : Program → Type 0) : Type 0 where
  pub named : (names : Names) (p : Program) (word : List ℕ) (line : ℕ) (name : List ℕ) → new_name (is_taken p) word line ≡ Ok name → P p → P (with_name names name p)
  pub defined : (p : Program) (word : List ℕ) (line : ℕ) (name : List ℕ) (tokens : Tokens) (body : Body) (rest : Tokens) → new_name (is_taken p) word line ≡ Ok name →
      body_at p [] [] tokens ≡ Ok (body, rest) → P p → P (with_function name body p)
  pub macro : (p : Program) (word : List ℕ) (line : ℕ) (name text : List ℕ) → new_name (is_macro p) word line ≡ Ok name → P p → P (with_macro name text p)
  pub listed : (p : Program) (action : Action) (line : ℕ) → NamesDeclared p action → P p → P (with_command action line p)

-- the place after a list is one of a longer list
longer : {A : Type 0} (xs : List A) (x : A) → length xs < length (xs ++ x ∷ [])
longer xs x = omega (arith, length-append xs (x ∷ []))

names_keep : (P : Program → Type 0) → IsKept P → (names : Names) (p : Program) (tokens : Tokens) (x : Program × Tokens) → P p → names_at names p tokens ≡ Ok x → P x.0
unfolding names_at
names_keep P k names p (AtEnd line) x g h = cc
names_keep P k names p (Front Open line behind) x g h = cc
names_keep P k names p (Front Close line behind) x g h = subst (λ (y : Program × Tokens). P y.0) (ok_same (p, behind) x h) g
names_keep P k names p (Front (Word word) line behind) x g h =
    let name = bind_ok (new_name (is_taken p) word line) (λ name. names_at names (with_name names name p) behind) x h in
    names_keep P k names (with_name names name.0 p) behind x (k.named names p word line name.0 name.1 g) name.2
names_keep P k names p (Front (Literal bytes) line behind) x g h = cc
names_keep P k names p (Front Unclosed line behind) x g h = cc
names_keep P k names p (Front Glued line behind) x g h = cc

braced_keep : (P : Program → Type 0) → IsKept P → (names : Names) (p : Program) (tokens : Tokens) (x : Program × Tokens) → P p → braced_names names p tokens ≡ Ok x → P x.0
braced_keep P k names p tokens x g h =
    let inside = bind_ok (open_at tokens) (names_at names p) x h in
    names_keep P k names p inside.0 x g inside.2

-- what a program becomes last
last_keep : (P : Program → Type 0) (made : Program) (behind : Tokens) (x : Program × Tokens) → P made → ◌≡◌ {A = Result (Program × Tokens) StyleFault} (Ok (made, behind)) (Ok x) → P x.0
last_keep P made behind x g h = subst (λ (y : Program × Tokens). P y.0) (ok_same (made, behind) x h) g

-- a word in braces was taken
record WasTaken {A : Type 0} (take : List ℕ → ℕ → Result A StyleFault) (value : A) : Type 0 where
  word : List ℕ
  line : ℕ
  is : take word line ≡ Ok value

taken_by : {A : Type 0} (taken : Result A StyleFault) (t : Tokens) (x : A × Tokens) → (taken >>= λ value. close_at t >>= λ rest. Ok (value, rest)) ≡ Ok x → taken ≡ Ok x.0
taken_by {A} taken t x h =
    let value = bind_ok taken (λ value. close_at t >>= λ rest. Ok (value, rest)) x h in
    let rest = bind_ok (close_at t) (λ rest. Ok (value.0, rest)) x value.2 in
    value.1 ∙ ap (λ (y : A × Tokens). Ok y.0) (ok_same (value.0, rest.0) x rest.2)

word_taken : {A : Type 0} (take : List ℕ → ℕ → Result A StyleFault) (tokens : Tokens) (x : A × Tokens) → braced_word take tokens ≡ Ok x → WasTaken take x.0
word_taken take tokens x h =
    let inside = bind_ok (open_at tokens) (λ t. word_at t >>= λ word. take word.0.0 word.0.1 >>= λ value. close_at word.1 >>= λ rest. Ok (value, rest)) x h in
    let word = bind_ok (word_at inside.0) (λ word. take word.0.0 word.0.1 >>= λ value. close_at word.1 >>= λ rest. Ok (value, rest)) x inside.2 in
    record { word = word.0.0.0; line = word.0.0.1; is = taken_by (take word.0.0.0 word.0.0.1) word.0.1 x word.2 }

run_keep : (P : Program → Type 0) → IsKept P → (action : Target → Action) (line : ℕ) (p : Program) (tokens : Tokens) (x : Program × Tokens) →
    ((t : Target) → IsDeclared p (length p.functions) t → NamesDeclared p (action t)) → P p → run_at action line p tokens ≡ Ok x → P x.0
run_keep P k action line p tokens x acts g h =
    let target = bind_ok (braced_word (run_target p) tokens) (λ target. Ok (with_command (action target.0) line p, target.1)) x h in
    let word = word_taken (run_target p) tokens target.0 target.1 in
    last_keep P (with_command (action target.0.0) line p) target.0.1 x (k.listed p (action target.0.0) line (acts target.0.0 (run_within p word.word word.line target.0.0 word.is)) g) target.2

variables_keep : (P : Program → Type 0) → IsKept P → (names : Names) (action : Action) (line : ℕ) (p : Program) (tokens : Tokens) (x : Program × Tokens) →
    ((q : Program) → NamesDeclared q action) → P p → variables_at names action line p tokens ≡ Ok x → P x.0
variables_keep P k names action line p tokens x acts g h =
    let declared = bind_ok (braced_names names p tokens) (λ declared. Ok (with_command action line declared.0, declared.1)) x h in
    last_keep P (with_command action line declared.0.0) declared.0.1 x (k.listed declared.0.0 action line (acts declared.0.0) (braced_keep P k names p tokens declared.0 g declared.1)) declared.2

entry_keeps : (P : Program → Type 0) → IsKept P → (line : ℕ) (p : Program) (tokens : Tokens) (x : Program × Tokens) → P p → arguments_at verbs.Entry line p tokens ≡ Ok x → P x.0
unfolding arguments_at
entry_keeps P k line p tokens x g h =
    let fields = bind_ok (braced_names Fields p tokens) (λ fields. braced_names EntryNumbers fields.0 fields.1 >>= λ numbers. variables_at EntryTexts actions.Entry line numbers.0 numbers.1) x h in
    let numbers = bind_ok (braced_names EntryNumbers fields.0.0 fields.0.1) (λ numbers. variables_at EntryTexts actions.Entry line numbers.0 numbers.1) x fields.2 in
    let first = braced_keep P k Fields p tokens fields.0 g fields.1 in
    let second = braced_keep P k EntryNumbers fields.0.0 fields.0.1 numbers.0 first numbers.1 in
    variables_keep P k EntryTexts actions.Entry line numbers.0.0 numbers.0.1 x (λ q. tt) second numbers.2

function_keeps : (P : Program → Type 0) → IsKept P → (line : ℕ) (p : Program) (tokens : Tokens) (x : Program × Tokens) → P p → arguments_at verbs.Function line p tokens ≡ Ok x → P x.0
unfolding arguments_at
function_keeps P k line p tokens x g h =
    let action : Action = actions.Function (length p.functions) in
    let made : List ℕ → Body → Program = λ name body. with_command action line (with_function name body p) in
    let name = bind_ok (braced_word (new_name (is_taken p)) tokens) (λ name. open_at name.1 >>= λ inside. body_at p [] [] inside >>= λ body. Ok (made name.0 body.0, body.1)) x h in
    let inside = bind_ok (open_at name.0.1) (λ inside. body_at p [] [] inside >>= λ body. Ok (made name.0.0 body.0, body.1)) x name.2 in
    let body = bind_ok (body_at p [] [] inside.0) (λ body. Ok (made name.0.0 body.0, body.1)) x inside.2 in
    let new = word_taken (new_name (is_taken p)) tokens name.0 name.1 in
    let acts = longer p.functions (record { name = name.0.0; body = body.0.0 }) in
    last_keep P (made name.0.0 body.0.0) body.0.1 x
    (k.listed (with_function name.0.0 body.0.0 p) action line acts (k.defined p new.word new.line name.0.0 inside.0 body.0.0 body.0.1 new.is body.1 g)) body.2

macro_keeps : (P : Program → Type 0) → IsKept P → (line : ℕ) (p : Program) (tokens : Tokens) (x : Program × Tokens) → P p → arguments_at verbs.Macro line p tokens ≡ Ok x → P x.0
unfolding arguments_at
macro_keeps P k line p tokens x g h =
    let action : Action = actions.Macro (length p.macros) in
    let made : List ℕ → List ℕ → Program = λ name text. with_command action line (with_macro name text p) in
    let name = bind_ok (braced_word (new_name (is_macro p)) tokens) (λ name. open_at name.1 >>= λ inside. literal_at inside >>= λ text. close_at text.1 >>= λ rest. Ok (made name.0 text.0, rest)) x h in
    let inside = bind_ok (open_at name.0.1) (λ inside. literal_at inside >>= λ text. close_at text.1 >>= λ rest. Ok (made name.0.0 text.0, rest)) x name.2 in
    let text = bind_ok (literal_at inside.0) (λ text. close_at text.1 >>= λ rest. Ok (made name.0.0 text.0, rest)) x inside.2 in
    let rest = bind_ok (close_at text.0.1) (λ rest. Ok (made name.0.0 text.0.0, rest)) x text.2 in
    let new = word_taken (new_name (is_macro p)) tokens name.0 name.1 in
    let acts = longer p.macros (record { name = name.0.0; text = text.0.0 }) in
    last_keep P (made name.0.0 text.0.0) rest.0 x (k.listed (with_macro name.0.0 text.0.0 p) action line acts (k.macro p new.word new.line name.0.0 text.0.0 new.is g)) rest.2

arguments_keep : (P : Program → Type 0) → IsKept P → (verb : Verb) (line : ℕ) (p : Program) (tokens : Tokens) (x : Program × Tokens) → P p → arguments_at verb line p tokens ≡ Ok x → P x.0
unfolding arguments_at
arguments_keep P k verbs.Entry line p tokens x g h = entry_keeps P k line p tokens x g h
arguments_keep P k verbs.Execute line p tokens x g h = run_keep P k actions.Execute line p tokens x (λ t d. d) g h
arguments_keep P k verbs.Function line p tokens x g h = function_keeps P k line p tokens x g h
arguments_keep P k verbs.Integers line p tokens x g h = variables_keep P k GlobalNumbers actions.Integers line p tokens x (λ q. tt) g h
arguments_keep P k verbs.Iterate line p tokens x g h = run_keep P k actions.Iterate line p tokens x (λ t d. d) g h
arguments_keep P k verbs.Macro line p tokens x g h = macro_keeps P k line p tokens x g h
arguments_keep P k verbs.Read line p tokens x g h = last_keep P (with_command actions.Read line p) tokens x (k.listed p actions.Read line tt g) h
arguments_keep P k verbs.Reverse line p tokens x g h = run_keep P k actions.Reverse line p tokens x (λ t d. d) g h
arguments_keep P k verbs.Sort line p tokens x g h = last_keep P (with_command actions.Sort line p) tokens x (k.listed p actions.Sort line tt g) h
arguments_keep P k verbs.Strings line p tokens x g h = variables_keep P k GlobalTexts actions.Strings line p tokens x (λ q. tt) g h

behind_arguments : (P : Program → Type 0) (later : Stage) (r : Result (Program × Tokens) StyleFault) (x : Stage × Program × Tokens) → ((y : Program × Tokens) → r ≡ Ok y → P y.0) →
    (r >>= λ next. Ok (later, next.0, next.1)) ≡ Ok x → P x.1
behind_arguments P later r x keeps h =
    let next = bind_ok r (λ next. Ok (later, next.0, next.1)) x h in
    subst (λ (y : Stage × Program × Tokens). P y.1) (ok_same (later, next.0.0, next.0.1) x next.2) (keeps next.0 next.1)

pub command_keeps : (P : Program → Type 0) → IsKept P → (stage : Stage) (p : Program) (word : List ℕ) (line : ℕ) (tokens : Tokens) (x : Stage × Program × Tokens) → P p →
    command_at stage p word line tokens ≡ Ok x → P x.1
unfolding command_at
command_keeps P k stage p word line tokens x g h =
    let verb = bind_ok (verb_of (verb_named word) line) (λ verb. in_order (out_of_order verb stage) line >>= λ allowed. arguments_at verb line p tokens >>= λ next. Ok (stage_after verb stage, next.0, next.1)) x h in
    let allowed = bind_ok (in_order (out_of_order verb.0 stage) line) (λ allowed. arguments_at verb.0 line p tokens >>= λ next. Ok (stage_after verb.0 stage, next.0, next.1)) x verb.2 in
    behind_arguments P (stage_after verb.0 stage) (arguments_at verb.0 line p tokens) x (λ y e. arguments_keep P k verb.0 line p tokens y g e) allowed.2

-- what comes after a command's word, or the end
abbrev behind_word : (Stage → Program → Tokens → Result Program StyleFault) → Stage → Program → Option (List ℕ × ℕ × Tokens) → Result Program StyleFault
behind_word later stage p None = Ok p
behind_word later stage p (Some word) = command_at stage p word.0 word.1 word.2 >>= λ next. later next.0 next.1 next.2

after_word : (P : Program → Type 0) → IsKept P → (later : Stage → Program → Tokens → Result Program StyleFault) →
    ((stage : Stage) (p : Program) (tokens : Tokens) (q : Program) → P p → later stage p tokens ≡ Ok q → P q) →
    (stage : Stage) (p q : Program) → P p → (found : Option (List ℕ × ℕ × Tokens)) → behind_word later stage p found ≡ Ok q → P q
after_word P k later keeps stage p q g None h = subst P (ok_same p q h) g
after_word P k later keeps stage p q g (Some word) h =
    let next = bind_ok (command_at stage p word.0 word.1 word.2) (λ next. later next.0 next.1 next.2) q h in
    keeps next.0.0 next.0.1 next.0.2 q (command_keeps P k stage p word.0 word.1 word.2 next.0 g next.1) next.2

pub commands_keep : (P : Program → Type 0) → IsKept P → (most : ℕ) (stage : Stage) (p : Program) (tokens : Tokens) (q : Program) → P p → commands_at most stage p tokens ≡ Ok q → P q
unfolding commands_at
commands_keep P k zero stage p tokens q g h = subst P (ok_same p q h) g
commands_keep P k (suc most) stage p tokens q g h =
    let found = bind_ok (command_word tokens) (behind_word (commands_at most) stage p) q h in
    after_word P k (commands_at most) (commands_keep P k most) stage p q g found.0 found.2
