-- Pushing, popping and writing, with their limits.
use Rattle.std.specs.Prelude.{ℕ, ◌+◌, List, [], ◌∷◌, length, Option, Some, None, nat_lt, nat_le, if◌then◌else◌}
use Rattle.bt_text.specs.Held.{written, line_ended}
use Rattle.bt_actions.specs.declared.complaint.Complaint.{Complaint}
use Rattle.bt_actions.specs.declared.complaint.Complaint.TheVariants.{EmptyStack, StackPassed, TextPassed}
use Rattle.bt_actions.specs.Item.{Item, Txt}
use Rattle.bt_actions.specs.World.{World, Act, Goes, Stops, say, with_stack, with_output}

-- how many bytes a text has; any other value has none
abbrev pub text_len : Item → ℕ
text_len (Txt t) = length t
text_len _ = 0

-- how many values the stack may hold
abbrev pub stack_limit : ℕ
stack_limit = 1000

-- how many bytes a text on the stack, or the output buffer, may have
abbrev pub text_size_limit : ℕ
text_size_limit = 65536

-- pushes a value, unless the stack is full or the text is too long
abbrev pub pushed : Item → World → Act
pushed v w =
    if nat_lt (length w.stack) stack_limit
    then (if nat_le (text_len v) text_size_limit then Goes (with_stack (v ∷ w.stack) w) else Stops (say TextPassed w))
    else Stops (say StackPassed w)

-- stops the run, because the stack is full, or else because a text is too long
abbrev pub limit_passed : World → Act
limit_passed w = if nat_lt (length w.stack) stack_limit then Stops (say TextPassed w) else Stops (say StackPassed w)

-- gives an error and pushes the default; if the stack is full, only that is reported
abbrev pub pushed_in_error : Complaint → Item → World → Act
pushed_in_error m v w = if nat_lt (length w.stack) stack_limit then pushed v (say m w) else Stops (say StackPassed w)

-- the top value and the world without it; if the stack is empty, no value and an error
abbrev pub popped_from : List Item → World → Option Item × World
popped_from [] w = (None, say EmptyStack w)
popped_from (v ∷ vs) w = (Some v, with_stack vs w)

-- pops the top value
abbrev pub popped : World → Option Item × World
popped w = popped_from w.stack w

-- appends a text to the output buffer, unless the buffer would be too long
abbrev pub appended : List ℕ → World → Act
appended t w =
    if nat_le (length w.held + length t) text_size_limit then Goes (with_output (written w.held t) w)
    else Stops (say TextPassed w)

-- ends the line in the output buffer
abbrev pub held_line_ended : World → World
held_line_ended w = with_output (line_ended w.held) w
