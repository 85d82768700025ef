-- Which messages of a step show a mistake of the style.
use Rattle.std.specs.Prelude.{ℕ, List, [], ◌∷◌, map, Bool, true, false, not, ◌&&◌, ◌||◌, bytes_eq}
use Rattle.std.specs.List.{list_any}
use Rattle.bt_style.specs.Builtins.{table}
use Rattle.bt_log.specs.declared.message.Rank.{Rank}
use Rattle.bt_log.specs.declared.message.Rank.TheVariants.{Error}
use Rattle.bt_log.specs.declared.message.Said.{Said}
use Rattle.bt_log.specs.declared.message.Said.TheVariants.{Words, OfFile}
use Rattle.bt_log.specs.declared.message.Message.{Message}
use Rattle.bt_actions.specs.declared.complaint.Complaint.{Complaint}
use Rattle.bt_actions.specs.declared.complaint.Complaint.TheVariants.{EmptyStack, WrongKind, NoEntry, OutOfRange, NotVariable, LeftOver}
use Rattle.bt_actions.specs.Words.{complaint_words}

-- The errors of which a style that is accepted gives none: it takes from an empty stack, gives a built-in function a
-- value of the wrong kind (a missing field where a text is wanted, too), uses an entry outside of one, assigns to what
-- is no variable, or leaves something on the stack. All else depends on what the fields say, or on limits.
abbrev pub excluded : List Complaint
excluded = EmptyStack ∷ NoEntry ∷ NotVariable ∷ LeftOver ∷ map (λ b. WrongKind b) table

-- the errors after which nothing is promised: a number that doesn't fit 32 bits, for which the run takes 0
abbrev pub overflows : List Complaint
overflows = map (λ b. OutOfRange b) table

-- a message keeps a complaint's words, and what a style logs itself is no error
abbrev pub is_error : Rank → Bool
is_error Error = true
is_error _ = false

abbrev pub says : List ℕ → Said → Bool
says t (Words w) = bytes_eq t w
says t (OfFile note file) = false

-- whether a message is one of these complaints, about whatever entry
abbrev pub is_one_of : List Complaint → Message → Bool
is_one_of cs m = is_error m.rank && list_any (λ c. says (complaint_words c) m.said) cs

-- whether no message is excluded, up to the first overflow
abbrev pub is_clean : List Message → Bool
is_clean [] = true
is_clean (m ∷ ms) = not (is_one_of excluded m) && (is_one_of overflows m || is_clean ms)

-- whether some number didn't fit
abbrev pub is_past : List Message → Bool
is_past ms = list_any (is_one_of overflows) ms
