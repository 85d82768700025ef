-- The commands of an input, and the answers to them.
use Rattle.std.specs.Prelude.{◌≡◌, ℕ, Bool, true, false, ◌==◌, nat_le, nat_lt, bytes_eq, codes, decimal, if◌then◌else◌, ◌++◌, List, [], ◌∷◌, length, Option, Some, None, Result, Ok, Err}
use Rattle.std.specs.List.{slice_split}
use Rattle.bt_run.specs.declared.answers.Report.{Report}
use Rattle.bibtex.specs.declared.edit.Refusal.{Refusal}
use Rattle.bibtex.specs.declared.edit.Refusal.TheVariants.{OutOfMemory}
use Rattle.bibtex.specs.declared.state.State.{State}
use Rattle.bibtex.specs.Present.{shown, reported}
use Rattle.bibtex.specs.Edit.{Edit, write, splice, remove, root_name, min_crossrefs, with_bytes}
use Rattle.bt_streams.specs.Numbers.{number_of}
use Rattle.bibtex.specs.Applied.{applied, code_of, state_or, unless_out_of_memory}

-- what a line asks for
pub data Request : Type 0 where
  -- an edit, which brings this number of bytes
  edit : Edit → ℕ → Request
  bbl blg status quit unreadable too_long : Request

-- a command of an input: its line, and the bytes that follow the line
pub record Command : Type 0 where
  pub line : List ℕ
  pub bytes : List ℕ

-- What a line asks for

-- the words of a line: what is between its spaces
abbrev pub words_in_line : List ℕ → List (List ℕ)
words_in_line line = slice_split (λ b. b == 32) line

-- what `write` asks for with this name and number; a number that can't be read is none
abbrev pub write_of : List ℕ → Option ℕ → Request
write_of [] n = unreadable
write_of (b ∷ name) None = unreadable
write_of (b ∷ name) (Some n) = edit (write (b ∷ name) []) n

-- what `splice` asks for with this name and these numbers
abbrev pub splice_of : List ℕ → Option ℕ → Option ℕ → Option ℕ → Request
splice_of [] s e n = unreadable
splice_of (b ∷ name) None e n = unreadable
splice_of (b ∷ name) (Some s) None n = unreadable
splice_of (b ∷ name) (Some s) (Some e) None = unreadable
splice_of (b ∷ name) (Some s) (Some e) (Some n) = edit (splice (b ∷ name) s e []) n

-- what `remove` asks for with this name
abbrev pub remove_of : List ℕ → Request
remove_of [] = unreadable
remove_of (b ∷ name) = edit (remove (b ∷ name)) 0

-- what `root` asks for with this name
abbrev pub root_of : List ℕ → Request
root_of [] = unreadable
root_of (b ∷ name) = edit (root_name (b ∷ name)) 0

-- what `min` asks for with this number, which must be below 2^32
abbrev pub min_of : Option ℕ → Request
min_of None = unreadable
min_of (Some n) = if nat_le n 4294967295 then edit (min_crossrefs n) 0 else unreadable

-- what a line of one word asks for
abbrev pub one_word : List ℕ → Request
one_word w =
    if bytes_eq w (codes "bbl") then bbl
    else if bytes_eq w (codes "blg") then blg
    else if bytes_eq w (codes "status") then status
    else if bytes_eq w (codes "quit") then quit
    else unreadable

-- what a line of two words asks for
abbrev pub two_words : List ℕ → List ℕ → Request
two_words w argument =
    if bytes_eq w (codes "remove") then remove_of argument
    else if bytes_eq w (codes "root") then root_of argument
    else if bytes_eq w (codes "min") then min_of (number_of argument)
    else unreadable

-- what the words of a line ask for
abbrev pub request_of_words : List (List ℕ) → Request
request_of_words (w ∷ []) = one_word w
request_of_words (w ∷ argument ∷ []) = two_words w argument
request_of_words (w ∷ name ∷ n ∷ []) = if bytes_eq w (codes "write") then write_of name (number_of n) else unreadable
request_of_words (w ∷ name ∷ s ∷ e ∷ n ∷ []) =
    if bytes_eq w (codes "splice") then splice_of name (number_of s) (number_of e) (number_of n) else unreadable
request_of_words _ = unreadable

-- a line of more than 256 bytes asks for nothing
abbrev pub request_of : List ℕ → Request
request_of line = if nat_lt 256 (length line) then too_long else request_of_words (words_in_line line)

-- how many bytes follow a line
abbrev pub bytes_brought : Request → ℕ
bytes_brought (edit e n) = n
bytes_brought _ = 0

-- What is answered

-- the answer to an edit that was accepted with this report
abbrev pub accepted : Report → List ℕ
accepted r =
    codes "ok " ++ (decimal r.status ++ (codes " " ++ (decimal r.ran ++ (codes " " ++
    (decimal r.reused ++ (codes " " ++ (decimal r.ticks ++ codes "\n")))))))

-- the answer to an edit that was refused
abbrev pub refused : Refusal → List ℕ
refused refusal = codes "refused " ++ (decimal (code_of refusal) ++ codes "\n")

-- the answer to an edit of this state with this outcome
abbrev pub edit_answer : State → Result State Refusal → List ℕ
edit_answer old (Ok state) = accepted (reported old state)
edit_answer old (Err refusal) = refused refusal

-- a line of a word and a number
abbrev pub number_line : List ℕ → ℕ → List ℕ
number_line word n = word ++ (decimal n ++ codes "\n")

-- a text after a word and the number of its bytes
abbrev pub text_answer : List ℕ → List ℕ → List ℕ
text_answer word text = word ++ (decimal (length text) ++ (codes "\n" ++ text))

-- the answer to a request with these bytes; `ran_out` says whether memory ran out
abbrev pub answer_of : Bool → State → Request → List ℕ → List ℕ
answer_of ran_out state (edit e n) bytes =
    edit_answer state (unless_out_of_memory ran_out (applied (with_bytes bytes e) state))
answer_of ran_out state bbl bytes = text_answer (codes "bbl ") (shown state).bbl
answer_of ran_out state blg bytes = text_answer (codes "blg ") (shown state).blg
answer_of ran_out state status bytes = number_line (codes "status ") (shown state).status
answer_of ran_out state quit bytes = codes "bye\n"
answer_of ran_out state unreadable bytes = codes "fault 1\n"
answer_of ran_out state too_long bytes = codes "fault 2\n"

-- the state after the request
abbrev pub after_of : Bool → State → Request → List ℕ → State
after_of ran_out state (edit e n) bytes =
    state_or state (unless_out_of_memory ran_out (applied (with_bytes bytes e) state))
after_of ran_out state _ bytes = state

-- the answer to a command
abbrev pub answer : Bool → State → Command → List ℕ
answer ran_out state c = answer_of ran_out state (request_of c.line) c.bytes

-- the state after a command
abbrev pub after : Bool → State → Command → State
after ran_out state c = after_of ran_out state (request_of c.line) c.bytes

-- The answers to commands, one after another. The list of truth values says at which of them memory ran out.
abbrev pub answers_to : List Bool → List Command → State → List ℕ
answers_to [] cs state = []
answers_to (m ∷ ms) [] state = []
answers_to (m ∷ ms) (c ∷ cs) state = answer m state c ++ answers_to ms cs (after m state c)

-- the state after these commands
abbrev pub state_after : List Bool → List Command → State → State
state_after [] cs state = state
state_after (m ∷ ms) [] state = state
state_after (m ∷ ms) (c ∷ cs) state = state_after ms cs (after m state c)

-- Memory may run out only at a request that is then refused for this reason.
abbrev pub MayRunOut : Bool → State → Request → List ℕ → Type 0
MayRunOut ran_out state request bytes = ran_out ≡ true → answer_of ran_out state request bytes ≡ refused OutOfMemory

-- the same for each of these commands
abbrev pub MayRunOutInTurn : List Bool → List Command → State → Type 0
MayRunOutInTurn [] cs state = Unit {0}
MayRunOutInTurn (m ∷ ms) [] state = Unit {0}
MayRunOutInTurn (m ∷ ms) (c ∷ cs) state =
    MayRunOut m state (request_of c.line) c.bytes × MayRunOutInTurn ms cs (after m state c)

-- the bytes of a command whose line ends with a line feed
abbrev pub command_text : Command → List ℕ
command_text c = c.line ++ 10 ∷ c.bytes

-- whether a request ends the loop
abbrev pub ends : Request → Bool
ends quit = true
ends _ = false
