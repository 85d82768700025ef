-- The commands of a whole input, and what the loop ends with.
use Rattle.std.specs.Prelude.{◌≡◌, ℕ, zero, suc, nat_le, ◌==◌, Bool, false, if◌then◌else◌, ◌++◌, List, [], ◌∷◌, length, take, drop, Option, Some, None}
use Rattle.std.specs.List.{AllByRecursion}
use Rattle.bt_serve.specs.Serves.{IsCut}
use Rattle.bibtex.specs.declared.state.State.{State}
use Rattle.bt_serve.specs.Commands.{Command, request_of, bytes_brought, ends, answer, after, answers_to, state_after, MayRunOut, MayRunOutInTurn}

-- an input's commands, and what is left after them
pub record Cut : Type 0 where
  pub commands : List Command
  pub rest : List ℕ

-- a line, and what follows its line feed, if it has one
pub record Line : Type 0 where
  pub line : List ℕ
  pub after_feed : Option (List ℕ)

-- what is before the first line feed of a text, or all of it
abbrev pub before_feed : List ℕ → List ℕ
before_feed [] = []
before_feed (b ∷ t) = if b == 10 then [] else b ∷ before_feed t

-- what follows the first line feed of a text, if it has one
abbrev pub behind_feed : List ℕ → Option (List ℕ)
behind_feed [] = None
behind_feed (b ∷ t) = if b == 10 then Some t else behind_feed t

-- the first line of a text, and what follows its line feed, if it has one
abbrev pub first_line : List ℕ → Line
first_line text = record { line = before_feed text; after_feed = behind_feed text }

-- what follows a line; nothing after the last line of an input
abbrev pub text_after_line : Line → List ℕ
text_after_line l = elim l.after_feed [ Some t ↦ t | None ↦ [] ]

-- the commands with one more before them
abbrev pub with_first : Command → Cut → Cut
with_first c cut = record { commands = c ∷ cut.commands; rest = cut.rest }

-- the command of a line, and then those of what follows it; or none, if its bytes are cut short
abbrev pub command_at : Line → List ℕ → (List ℕ → Cut) → Cut
command_at l text others =
    let count = bytes_brought (request_of l.line) in
    let more = text_after_line l in
    if nat_le count (length more)
    then with_first (record { line = l.line; bytes = take count more }) (others (drop count more))
    else record { commands = []; rest = text }

-- the commands of an input of at most this number of bytes
abbrev pub commands_within : ℕ → List ℕ → Cut
commands_within n [] = record { commands = []; rest = [] }
commands_within zero (b ∷ t) = record { commands = []; rest = b ∷ t }
commands_within (suc n) (b ∷ t) =
    command_at (first_line (b ∷ t)) (b ∷ t) (commands_within n)

-- a whole input cut into its commands and a rest, which is less than the bytes that a last line asks for
abbrev pub commands_of : List ℕ → Cut
commands_of input = commands_within (length input) input

-- the commands up to the first that ends the loop
abbrev pub up_to_quit : List Command → List Command
up_to_quit [] = []
up_to_quit (c ∷ cs) = if ends (request_of c.line) then c ∷ [] else c ∷ up_to_quit cs

-- All commands of an input up to the one that ends the loop were answered. Which edits were refused for out of memory
-- is left open.
abbrev pub AnswersAll : List ℕ → List ℕ → List ℕ → State → State → Type 0
AnswersAll input said said' state state' =
    (ms : List Bool) × (length ms ≡ length (up_to_quit (commands_of input).commands)) ×
    (said' ≡ said ++ answers_to ms (up_to_quit (commands_of input).commands) state) ×
    (state' ≡ state_after ms (up_to_quit (commands_of input).commands) state) ×
    MayRunOutInTurn ms (up_to_quit (commands_of input).commands) state

-- All complete commands of an input were answered, none ends the loop, and after them the input is cut short.
abbrev pub AnswersBefore : List ℕ → List ℕ → List ℕ → State → State → Type 0
AnswersBefore input said said' state state' =
    (ms : List Bool) × (length ms ≡ length (commands_of input).commands) ×
    (said' ≡ said ++ answers_to ms (commands_of input).commands state) ×
    (state' ≡ state_after ms (commands_of input).commands state) ×
    MayRunOutInTurn ms (commands_of input).commands state ×
    AllByRecursion (λ c. false ≡ ends (request_of c.line)) (commands_of input).commands × IsCut (commands_of input).rest

-- All commands before some command were answered; of its own answer a prefix was written; and the state is the one
-- after this command.
abbrev pub AnswersPart : List ℕ → List ℕ → List ℕ → State → State → Type 0
AnswersPart input said said' state state' =
    (front : List Command) × (c : Command) × (others : List Command) × (ms : List Bool) × (m : Bool) ×
    ((commands_of input).commands ≡ front ++ c ∷ others) ×
    AllByRecursion (λ d. false ≡ ends (request_of d.line)) front × (length ms ≡ length front) ×
    ((part : List ℕ) × (more : List ℕ) × (answer m (state_after ms front state) c ≡ part ++ more) ×
    (said' ≡ said ++ answers_to ms front state ++ part)) ×
    (state' ≡ after m (state_after ms front state) c) ×
    MayRunOutInTurn ms front state × MayRunOut m (state_after ms front state) (request_of c.line) c.bytes
