-- The rules of a style, each a reader of tokens.
use Rattle.std.specs.Prelude.{nat_lt}
use Rattle.std.specs.List.{list_all}
use Rattle.bt_style.specs.laws.Laws.{is_byte}
use Rattle.std.proofs.Common.{◌≡◌, ◌∙◌, ap, sym, suc, refl, ℕ, Bool, true, false, List, [], ◌∷◌, ◌++◌, length, codes, Result, Ok, Err, append_assoc}
use Rattle.std.proofs.lemmas.Bool.{cond-true, cond-false}
use Rattle.bt_style.specs.declared.fault.StyleFault.{StyleFault}
use Rattle.bt_style.specs.declared.fault.FaultKind.TheVariants as kinds
use Rattle.bt_style.specs.declared.builtin.Builtin.TheVariants.{Skip}
use Rattle.bt_style.specs.declared.style.Target.{Target}
use Rattle.bt_style.specs.declared.style.Target.TheVariants as targets
use Rattle.bt_style.specs.declared.style.Action.{Action}
use Rattle.bt_style.specs.declared.style.Action.TheVariants as actions
use Rattle.bt_style.specs.declared.names.Names.{Names}
use Rattle.bt_style.specs.declared.names.Names.TheVariants.{Fields, EntryNumbers, EntryTexts, GlobalNumbers, GlobalTexts}
use Rattle.bt_style.specs.declared.verbs.Verb.{Verb}
use Rattle.bt_style.specs.declared.verbs.Verb.TheVariants as verbs
use Rattle.bt_style.specs.Builtins.{table}
use Rattle.bt_style.specs.Tree.{Element, Words, Braced, Body, body_of}
use Rattle.bt_style.specs.Program.{Program}
use Rattle.bt_style.specs.Fault.{◌>>=◌}
use Rattle.bt_style.specs.Token.{Token, Open, Close, Word, Literal, Unclosed, Glued, Tokens, AtEnd, Front, tokens_after, piece_at, literal_piece}
use Rattle.bt_style.specs.Names.{target_named, builtin_named, is_taken, is_macro}
use Rattle.bt_style.specs.Draft.{with_name, with_command}
use Rattle.bt_style.specs.inner.Cases.{with_macro, with_function}
use Rattle.bt_style.specs.Arguments.{open_at, close_at, word_at, braced_word, literal_at}
use Rattle.bt_style.specs.Declares.{new_name, names_at, braced_names}
use Rattle.bt_style.specs.Elements.{word_element}
use Rattle.bt_style.specs.Bodies.{body_at}
use Rattle.bt_style.specs.Commands.{run_target, run_at, variables_at, arguments_at}
use Rattle.bt_style.proofs.laws.ReaderLemmas.{IsPlain, bytes_append, Completes, Reads, Reader, just, then, goes_on, takes_one, refuses, refuses_end}
use Rattle.bt_style.proofs.laws.FreshLemmas.{fresh, size, letters_are_bytes, letters_spelled, open_step, close_step, fresh_declared, fresh_is_free, fresh_is_no_macro}
use Rattle.bt_style.proofs.laws.QuoteLemmas.{Quoteless, run_refuses, new_refuses}
use Rattle.bt_style.proofs.laws.OnLineLemmas.{IsOn, on_line, new_name_on, run_target_on, word_element_on}

-- what readers answer: a value with the tokens that are left, or these alone
abbrev pub with_rest : {A : Type 0} → A → Tokens → A × Tokens
with_rest a t = (a, t)

abbrev pub rest_alone : Unit {0} → Tokens → Tokens
rest_alone u t = t

-- A brace that opens

open_done : (line : ℕ) → Completes rest_alone open_at line
open_done line = record { bytes = 123 ∷ []; are_bytes = refl; value = tt; reads = λ behind. ap open_at (open_step line behind) }

open_reads : {Q : Type 0} (tokens : Tokens) → Reads Q rest_alone open_at tokens
open_reads (AtEnd line) = refuses_end rest_alone open_at line _ refl refl open_done
open_reads (Front Open line rest) = takes_one rest_alone open_at Open line rest tt (λ q. tt) (λ t. refl)
open_reads (Front Close line rest) = refuses rest_alone open_at Close line rest _ refl (λ t. refl) open_done
open_reads (Front (Word word) line rest) = refuses rest_alone open_at (Word word) line rest _ refl (λ t. refl) open_done
open_reads (Front (Literal bytes) line rest) = refuses rest_alone open_at (Literal bytes) line rest _ refl (λ t. refl) open_done
open_reads (Front Unclosed line rest) = refuses rest_alone open_at Unclosed line rest _ refl (λ t. refl) open_done
open_reads (Front Glued line rest) = refuses rest_alone open_at Glued line rest _ refl (λ t. refl) open_done

open_reader : {Q : Type 0} → Reader Q rest_alone open_at
open_reader = record { reads = open_reads; done = open_done }

-- A brace that closes

close_done : (line : ℕ) → Completes rest_alone close_at line
close_done line = record { bytes = 125 ∷ []; are_bytes = refl; value = tt; reads = λ behind. ap close_at (close_step line behind) }

close_reads : {Q : Type 0} (tokens : Tokens) → Reads Q rest_alone close_at tokens
close_reads (AtEnd line) = refuses_end rest_alone close_at line _ refl refl close_done
close_reads (Front Open line rest) = refuses rest_alone close_at Open line rest _ refl (λ t. refl) close_done
close_reads (Front Close line rest) = takes_one rest_alone close_at Close line rest tt (λ q. tt) (λ t. refl)
close_reads (Front (Word word) line rest) = refuses rest_alone close_at (Word word) line rest _ refl (λ t. refl) close_done
close_reads (Front (Literal bytes) line rest) = refuses rest_alone close_at (Literal bytes) line rest _ refl (λ t. refl) close_done
close_reads (Front Unclosed line rest) = refuses rest_alone close_at Unclosed line rest _ refl (λ t. refl) close_done
close_reads (Front Glued line rest) = refuses rest_alone close_at Glued line rest _ refl (λ t. refl) close_done

close_reader : {Q : Type 0} → Reader Q rest_alone close_at
close_reader = record { reads = close_reads; done = close_done }

-- A word in braces

-- a test of a word tells its fault on the word's line, and there is a word that it takes; a quote isn't taken, if Q
-- holds
record Takable {A : Type 0} (Q : Type 0) (take : List ℕ → ℕ → Result A StyleFault) : Type 0 where
  pub on : (word : List ℕ) (line : ℕ) → IsOn line (take word line)
  pub refuses : Q → (line : ℕ) → (f : StyleFault) × (take (codes "\"") line ≡ Err f)
  pub word : List ℕ
  pub are_bytes : list_all is_byte word ≡ true
  pub spelled : (line : ℕ) (behind : List ℕ) → tokens_after 0 line (word ++ 125 ∷ behind) ≡ Front (Word word) line (tokens_after 0 line (125 ∷ behind))
  pub value : A
  pub taken : (line : ℕ) → take word line ≡ Ok value

-- after the brace that opens
abbrev inside : {A : Type 0} → (List ℕ → ℕ → Result A StyleFault) → Tokens → Result (A × Tokens) StyleFault
inside take t = word_at t >>= λ word. take word.0.0 word.0.1 >>= λ value. close_at word.1 >>= λ rest. Ok (value, rest)

-- after the word
abbrev closing : {A : Type 0} → Tokens → A → Result (A × Tokens) StyleFault
closing t value = close_at t >>= λ rest. Ok (value, rest)

closing_reader : {A Q : Type 0} (value : A) → Reader Q with_rest (λ t. closing t value)
closing_reader value = then rest_alone with_rest close_at (λ rest. Ok (value, rest)) close_reader (λ u. just with_rest value)

inside_done : {A Q : Type 0} (take : List ℕ → ℕ → Result A StyleFault) → Takable Q take → (line : ℕ) → Completes with_rest (inside take) line
inside_done take k line = record {
  bytes = k.word ++ 125 ∷ [];
  are_bytes = bytes_append k.word (125 ∷ []) k.are_bytes refl;
  value = k.value;
  reads = λ behind.
      ap (λ bs. inside take (tokens_after 0 line bs)) (append_assoc k.word (125 ∷ []) behind)
      ∙ ap (inside take) (k.spelled line behind ∙ ap (Front (Word k.word) line) (close_step line behind))
      ∙ ap (λ x. x >>= closing (Front Close line (tokens_after 0 line behind))) (k.taken line);
}

inside_word : {A Q : Type 0} (take : List ℕ → ℕ → Result A StyleFault) (k : Takable Q take) (token : Token) (word : List ℕ) (line : ℕ) (rest : Tokens) (x : Result A StyleFault) →
    take word line ≡ x → (Q → (value : A) → take word line ≡ Ok value → IsPlain token) → ((t : Tokens) → inside take (Front token line t) ≡ (take word line >>= closing t)) → Reads Q with_rest (inside take) (Front token line rest)
inside_word take k token word line rest (Ok value) e is on =
    goes_on with_rest (inside take) (λ t. closing t value) token line rest (λ q. is q value e) (λ t. on t ∙ ap (λ x. x >>= closing t) e) ((closing_reader value).reads rest)
inside_word take k token word line rest (Err f) e is on =
    refuses with_rest (inside take) token line rest f (on_line line (take word line) f (k.on word line) e) (λ t. on t ∙ ap (λ x. x >>= closing t) e) (inside_done take k)

not_taken : {A : Type 0} (r : Result A StyleFault) (value : A) → (f : StyleFault) × (r ≡ Err f) → r ≡ Ok value → ⊥
not_taken r value f h = (let no_way : Err f.0 ≡ Ok value = sym f.1 ∙ h in cc no_way)

inside_reads : {A Q : Type 0} (take : List ℕ → ℕ → Result A StyleFault) → Takable Q take → (tokens : Tokens) → Reads Q with_rest (inside take) tokens
inside_reads take k (AtEnd line) = refuses_end with_rest (inside take) line _ refl refl (inside_done take k)
inside_reads take k (Front Open line rest) = refuses with_rest (inside take) Open line rest _ refl (λ t. refl) (inside_done take k)
inside_reads take k (Front Close line rest) = refuses with_rest (inside take) Close line rest _ refl (λ t. refl) (inside_done take k)
inside_reads take k (Front (Word word) line rest) = inside_word take k (Word word) word line rest (take word line) refl (λ q v h. tt) (λ t. refl)
inside_reads take k (Front (Literal bytes) line rest) = inside_word take k (Literal bytes) (codes "\"") line rest (take (codes "\"") line) refl (λ q v h. tt) (λ t. refl)
inside_reads take k (Front Unclosed line rest) = inside_word take k Unclosed (codes "\"") line rest (take (codes "\"") line) refl (λ q v h. tt) (λ t. refl)
inside_reads take k (Front Glued line rest) =
    inside_word take k Glued (codes "\"") line rest (take (codes "\"") line) refl (λ q v h. not_taken (take (codes "\"") line) v (k.refuses q line) h) (λ t. refl)

braced_reader : {A Q : Type 0} (take : List ℕ → ℕ → Result A StyleFault) → Takable Q take → Reader Q with_rest (braced_word take)
braced_reader take k = then rest_alone with_rest open_at (inside take) open_reader (λ u. record { reads = inside_reads take k; done = inside_done take k })

-- a new function's name, a new macro's, and what can be run
new_function : {Q : Type 0} (p : Program) → Takable Q (new_name (is_taken p))
new_function p = record {
  on = new_name_on (is_taken p);
  refuses = λ q. new_refuses (is_taken p);
  word = fresh p;
  are_bytes = letters_are_bytes (suc (size p));
  spelled = letters_spelled (size p);
  value = fresh p;
  taken = λ line. fresh_declared (is_taken p) p line (fresh_is_free p);
}

new_macro : {Q : Type 0} (p : Program) → Takable Q (new_name (is_macro p))
new_macro p = record {
  on = new_name_on (is_macro p);
  refuses = λ q. new_refuses (is_macro p);
  word = fresh p;
  are_bytes = letters_are_bytes (suc (size p));
  spelled = letters_spelled (size p);
  value = fresh p;
  taken = λ line. fresh_declared (is_macro p) p line (fresh_is_no_macro p);
}

skip_spelled : (line : ℕ) (behind : List ℕ) → tokens_after 0 line (codes "skip$" ++ 125 ∷ behind) ≡ Front (Word (codes "skip$")) line (tokens_after 0 line (125 ∷ behind))
unfolding tokens_after piece_at
skip_spelled line behind = refl

skip_taken : (p : Program) (line : ℕ) → run_target p (codes "skip$") line ≡ Ok (targets.Builtin Skip)
unfolding target_named builtin_named table
skip_taken p line = refl

run_takable : (p : Program) → Takable (Quoteless p) (run_target p)
run_takable p = record {
  on = run_target_on p;
  refuses = run_refuses p;
  word = codes "skip$";
  are_bytes = refl;
  spelled = skip_spelled;
  value = targets.Builtin Skip;
  taken = skip_taken p;
}

-- Names in braces

names_done : (names : Names) (p : Program) (line : ℕ) → Completes with_rest (names_at names p) line
unfolding names_at
names_done names p line = record { bytes = 125 ∷ []; are_bytes = refl; value = p; reads = λ behind. ap (names_at names p) (close_step line behind) }

names_word : {Q : Type 0} (names : Names) (p : Program) (word : List ℕ) (line : ℕ) (rest : Tokens) (x : Result (List ℕ) StyleFault) → new_name (is_taken p) word line ≡ x →
    ((name : List ℕ) → Reads Q with_rest (names_at names (with_name names name p)) rest) → Reads Q with_rest (names_at names p) (Front (Word word) line rest)
unfolding names_at
names_word names p word line rest (Ok name) e later =
    goes_on with_rest (names_at names p) (names_at names (with_name names name p)) (Word word) line rest (λ q. tt) (λ t. ap (λ x. x >>= λ name. names_at names (with_name names name p) t) e) (later name)
names_word names p word line rest (Err f) e later =
    refuses with_rest (names_at names p) (Word word) line rest f (on_line line (new_name (is_taken p) word line) f (new_name_on (is_taken p) word line) e)
    (λ t. ap (λ x. x >>= λ name. names_at names (with_name names name p) t) e) (names_done names p)

names_reads : {Q : Type 0} (names : Names) (p : Program) (tokens : Tokens) → Reads Q with_rest (names_at names p) tokens
unfolding names_at
names_reads names p (AtEnd line) = refuses_end with_rest (names_at names p) line _ refl refl (names_done names p)
names_reads names p (Front Open line rest) = refuses with_rest (names_at names p) Open line rest _ refl (λ t. refl) (names_done names p)
names_reads names p (Front Close line rest) = takes_one with_rest (names_at names p) Close line rest p (λ q. tt) (λ t. refl)
names_reads names p (Front (Word word) line rest) = names_word names p word line rest (new_name (is_taken p) word line) refl (λ name. names_reads names (with_name names name p) rest)
names_reads names p (Front (Literal bytes) line rest) = refuses with_rest (names_at names p) (Literal bytes) line rest _ refl (λ t. refl) (names_done names p)
names_reads names p (Front Unclosed line rest) = refuses with_rest (names_at names p) Unclosed line rest _ refl (λ t. refl) (names_done names p)
names_reads names p (Front Glued line rest) = refuses with_rest (names_at names p) Glued line rest _ refl (λ t. refl) (names_done names p)

braced_names_reader : {Q : Type 0} (names : Names) (p : Program) → Reader Q with_rest (braced_names names p)
braced_names_reader names p = then rest_alone with_rest open_at (names_at names p) open_reader (λ u. record { reads = names_reads names p; done = names_done names p })

-- The text of a macro

literal_done : (line : ℕ) → Completes with_rest literal_at line
unfolding tokens_after piece_at literal_piece
literal_done line = record { bytes = 34 ∷ 34 ∷ 32 ∷ []; are_bytes = refl; value = []; reads = λ behind. refl }

literal_reads : {Q : Type 0} (tokens : Tokens) → Reads Q with_rest literal_at tokens
literal_reads (AtEnd line) = refuses_end with_rest literal_at line _ refl refl literal_done
literal_reads (Front Open line rest) = refuses with_rest literal_at Open line rest _ refl (λ t. refl) literal_done
literal_reads (Front Close line rest) = refuses with_rest literal_at Close line rest _ refl (λ t. refl) literal_done
literal_reads (Front (Word word) line rest) = refuses with_rest literal_at (Word word) line rest _ refl (λ t. refl) literal_done
literal_reads (Front (Literal bytes) line rest) = takes_one with_rest literal_at (Literal bytes) line rest bytes (λ q. tt) (λ t. refl)
literal_reads (Front Unclosed line rest) = refuses with_rest literal_at Unclosed line rest _ refl (λ t. refl) literal_done
literal_reads (Front Glued line rest) = refuses with_rest literal_at Glued line rest _ refl (λ t. refl) literal_done

literal_reader : {Q : Type 0} → Reader Q with_rest literal_at
literal_reader = record { reads = literal_reads; done = literal_done }

-- The bodies of functions

body_done : (p : Program) (outer : List (List Element)) (now : List Element) (line : ℕ) → Completes with_rest (body_at p outer now) line
unfolding body_at
body_done p [] now line = record { bytes = 125 ∷ []; are_bytes = refl; value = body_of now; reads = λ behind. ap (body_at p [] now) (close_step line behind) }
body_done p (before ∷ outer) now line =
    let d = body_done p outer (before ++ Braced (body_of now) ∷ []) line in
    record {
      bytes = 125 ∷ d.bytes;
      are_bytes = d.are_bytes;
      value = d.value;
      reads = λ behind. ap (body_at p (before ∷ outer) now) (close_step line (d.bytes ++ behind)) ∙ d.reads behind;
    }

body_open : {Q : Type 0} (p : Program) (outer : List (List Element)) (now : List Element) (line : ℕ) (rest : Tokens) (v : Bool) → nat_lt (length outer) 99 ≡ v →
    Reads Q with_rest (body_at p (now ∷ outer) []) rest → Reads Q with_rest (body_at p outer now) (Front Open line rest)
unfolding body_at
body_open p outer now line rest true e later =
    goes_on with_rest (body_at p outer now) (body_at p (now ∷ outer) []) Open line rest (λ q. tt) (λ t. cond-true (nat_lt (length outer) 99) (body_at p (now ∷ outer) [] t) _ e) later
body_open p outer now line rest false e later =
    refuses with_rest (body_at p outer now) Open line rest (record { kind = kinds.UnclosedBrace; line = line }) refl
    (λ t. cond-false (nat_lt (length outer) 99) (body_at p (now ∷ outer) [] t) (Err (record { kind = kinds.UnclosedBrace; line = line })) e) (body_done p outer now)

body_word : {Q : Type 0} (p : Program) (outer : List (List Element)) (now : List Element) (word : List ℕ) (line : ℕ) (rest : Tokens) (x : Result Element StyleFault) → word_element p word line ≡ x →
    ((e : Element) → Reads Q with_rest (body_at p outer (now ++ e ∷ [])) rest) → Reads Q with_rest (body_at p outer now) (Front (Word word) line rest)
unfolding body_at
body_word p outer now word line rest (Ok element) e later =
    goes_on with_rest (body_at p outer now) (body_at p outer (now ++ element ∷ [])) (Word word) line rest (λ q. tt) (λ t. ap (λ x. x >>= λ e. body_at p outer (now ++ e ∷ []) t) e) (later element)
body_word p outer now word line rest (Err f) e later =
    refuses with_rest (body_at p outer now) (Word word) line rest f (on_line line (word_element p word line) f (word_element_on p word line) e)
    (λ t. ap (λ x. x >>= λ e. body_at p outer (now ++ e ∷ []) t) e) (body_done p outer now)

body_reads : {Q : Type 0} (p : Program) (outer : List (List Element)) (now : List Element) (tokens : Tokens) → Reads Q with_rest (body_at p outer now) tokens
unfolding body_at
body_reads p outer now (AtEnd line) = refuses_end with_rest (body_at p outer now) line _ refl refl (body_done p outer now)
body_reads p outer now (Front Open line rest) = body_open p outer now line rest (nat_lt (length outer) 99) refl (body_reads p (now ∷ outer) [] rest)
body_reads p [] now (Front Close line rest) = takes_one with_rest (body_at p [] now) Close line rest (body_of now) (λ q. tt) (λ t. refl)
body_reads p (before ∷ outer) now (Front Close line rest) =
    goes_on with_rest (body_at p (before ∷ outer) now) (body_at p outer (before ++ Braced (body_of now) ∷ [])) Close line rest (λ q. tt) (λ t. refl)
    (body_reads p outer (before ++ Braced (body_of now) ∷ []) rest)
body_reads p outer now (Front (Word word) line rest) = body_word p outer now word line rest (word_element p word line) refl (λ e. body_reads p outer (now ++ e ∷ []) rest)
body_reads p outer now (Front (Literal bytes) line rest) =
    goes_on with_rest (body_at p outer now) (body_at p outer (now ++ Words bytes ∷ [])) (Literal bytes) line rest (λ q. tt) (λ t. refl) (body_reads p outer (now ++ Words bytes ∷ []) rest)
body_reads p outer now (Front Unclosed line rest) = refuses with_rest (body_at p outer now) Unclosed line rest _ refl (λ t. refl) (body_done p outer now)
body_reads p outer now (Front Glued line rest) = refuses with_rest (body_at p outer now) Glued line rest _ refl (λ t. refl) (body_done p outer now)

body_reader : {Q : Type 0} (p : Program) → Reader Q with_rest (body_at p [] [])
body_reader p = record { reads = body_reads p [] []; done = body_done p [] [] }

-- The arguments of commands

run_reader : (action : Target → Action) (line : ℕ) (p : Program) → Reader (Quoteless p) with_rest (run_at action line p)
run_reader action line p =
    then with_rest with_rest (braced_word (run_target p)) (λ target. Ok (with_command (action target.0) line p, target.1))
    (braced_reader (run_target p) (run_takable p)) (λ target. just with_rest (with_command (action target) line p))

variables_reader : {Q : Type 0} (names : Names) (action : Action) (line : ℕ) (p : Program) → Reader Q with_rest (variables_at names action line p)
variables_reader names action line p =
    then with_rest with_rest (braced_names names p) (λ declared. Ok (with_command action line declared.0, declared.1))
    (braced_names_reader names p) (λ q. just with_rest (with_command action line q))

entry_reader : {Q : Type 0} (line : ℕ) (p : Program) → Reader Q with_rest (arguments_at verbs.Entry line p)
unfolding arguments_at
entry_reader line p =
    then with_rest with_rest (braced_names Fields p)
    (λ fields. braced_names EntryNumbers fields.0 fields.1 >>= λ numbers. braced_names EntryTexts numbers.0 numbers.1 >>= λ texts. Ok (with_command actions.Entry line texts.0, texts.1))
    (braced_names_reader Fields p) (λ q. then with_rest with_rest (braced_names EntryNumbers q)
    (λ numbers. braced_names EntryTexts numbers.0 numbers.1 >>= λ texts. Ok (with_command actions.Entry line texts.0, texts.1))
    (braced_names_reader EntryNumbers q) (λ r. variables_reader EntryTexts actions.Entry line r))

function_reader : {Q : Type 0} (line : ℕ) (p : Program) → Reader Q with_rest (arguments_at verbs.Function line p)
unfolding arguments_at
function_reader line p =
    let made : List ℕ → Body → Program = λ name body. with_command (actions.Function (length p.functions)) line (with_function name body p) in
    then with_rest with_rest (braced_word (new_name (is_taken p)))
    (λ name. open_at name.1 >>= λ inside. body_at p [] [] inside >>= λ body. Ok (made name.0 body.0, body.1))
    (braced_reader (new_name (is_taken p)) (new_function p)) (λ name. then rest_alone with_rest open_at
    (λ inside. body_at p [] [] inside >>= λ body. Ok (made name body.0, body.1))
    open_reader (λ u. then with_rest with_rest (body_at p [] []) (λ body. Ok (made name body.0, body.1)) (body_reader p) (λ body. just with_rest (made name body))))

macro_reader : {Q : Type 0} (line : ℕ) (p : Program) → Reader Q with_rest (arguments_at verbs.Macro line p)
unfolding arguments_at
macro_reader line p =
    let made : List ℕ → List ℕ → Program = λ name text. with_command (actions.Macro (length p.macros)) line (with_macro name text p) in
    then with_rest with_rest (braced_word (new_name (is_macro p)))
    (λ name. open_at name.1 >>= λ inside. literal_at inside >>= λ text. close_at text.1 >>= λ rest. Ok (made name.0 text.0, rest))
    (braced_reader (new_name (is_macro p)) (new_macro p)) (λ name. then rest_alone with_rest open_at
    (λ inside. literal_at inside >>= λ text. close_at text.1 >>= λ rest. Ok (made name text.0, rest))
    open_reader (λ u. then with_rest with_rest literal_at (λ text. close_at text.1 >>= λ rest. Ok (made name text.0, rest)) literal_reader
    (λ text. then rest_alone with_rest close_at (λ rest. Ok (made name text, rest)) close_reader (λ u. just with_rest (made name text)))))

pub arguments_reader : (verb : Verb) (line : ℕ) (p : Program) → Reader (Quoteless p) with_rest (arguments_at verb line p)
unfolding arguments_at
arguments_reader verbs.Entry line p = entry_reader line p
arguments_reader verbs.Execute line p = run_reader actions.Execute line p
arguments_reader verbs.Function line p = function_reader line p
arguments_reader verbs.Integers line p = variables_reader GlobalNumbers actions.Integers line p
arguments_reader verbs.Iterate line p = run_reader actions.Iterate line p
arguments_reader verbs.Macro line p = macro_reader line p
arguments_reader verbs.Read line p = just with_rest (with_command actions.Read line p)
arguments_reader verbs.Reverse line p = run_reader actions.Reverse line p
arguments_reader verbs.Sort line p = just with_rest (with_command actions.Sort line p)
arguments_reader verbs.Strings line p = variables_reader GlobalTexts actions.Strings line p
