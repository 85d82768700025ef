-- What a step's messages say.
use Rattle.std.specs.Prelude.{ℕ, List, ◌++◌, Option, None, codes}
use Rattle.std.specs.Fmt.{decimal, signed_decimal}
use Rattle.bt_style.specs.Builtins.{name_of}
use Rattle.bt_log.specs.declared.message.Rank.{Rank}
use Rattle.bt_log.specs.declared.message.Rank.TheVariants.{Note, Warning, Error, Fatal}
use Rattle.bt_log.specs.declared.message.Said.TheVariants.{Words}
use Rattle.bt_log.specs.declared.message.Message.{Message}
use Rattle.bt_actions.specs.declared.complaint.Complaint.{Complaint}
use Rattle.bt_actions.specs.declared.complaint.Complaint.TheVariants.{EmptyStack, WrongKind, NoEntry, OutOfRange, BadCase, NotOneCharacter, NotAscii, NoSuchName, TooManyCommas, PatternFault, NotVariable, LeftOver, Warned, Shown, TicksPassed, StackPassed, TextPassed}

-- A style's warnings are warnings, the values that it logs are notes, passed limits are fatal, all else is an error.
abbrev pub rank_of : Complaint → Rank
rank_of (Warned t) = Warning
rank_of (Shown t) = Note
rank_of TicksPassed = Fatal
rank_of StackPassed = Fatal
rank_of TextPassed = Fatal
rank_of _ = Error

-- what a complaint says of itself
abbrev pub complaint_words : Complaint → List ℕ
complaint_words EmptyStack = codes "You can't pop an empty literal stack"
complaint_words (WrongKind b) = name_of b ++ codes " got a value of the wrong kind"
complaint_words NoEntry = codes "You can't mess with entries here"
complaint_words (OutOfRange b) = codes "The result of " ++ name_of b ++ codes " is out of range"
complaint_words (BadCase t) = codes "\"" ++ t ++ codes "\" is an illegal case-conversion string"
complaint_words (NotOneCharacter t) = codes "\"" ++ t ++ codes "\" isn't a single character"
complaint_words (NotAscii n) = signed_decimal n ++ codes " isn't valid ASCII"
complaint_words (NoSuchName n t) = codes "There is no name " ++ signed_decimal n ++ codes " in \"" ++ t ++ codes "\""
complaint_words (TooManyCommas n t) =
    codes "Too many commas in name " ++ signed_decimal n ++ codes " of \"" ++ t ++ codes "\""
complaint_words (PatternFault t n) = codes "The format string \"" ++ t ++ codes "\" has a fault at byte " ++ decimal n
complaint_words NotVariable = codes ":= needs a variable"
complaint_words LeftOver = codes "The literal stack isn't empty"
complaint_words (Warned t) = codes "Warning--" ++ t
complaint_words (Shown t) = t
complaint_words TicksPassed = codes "The limit of 1000000 ticks was passed"
complaint_words StackPassed = codes "The limit of 1000 stack values was passed"
complaint_words TextPassed = codes "The limit of 65536 bytes was passed"

-- the message for a complaint, with the key of the step's entry, if it has one; the run adds the step's place
abbrev pub message_of : Option (List ℕ) → Complaint → Message
message_of key m = record { rank = rank_of m; said = Words (complaint_words m); entry = key; place = None; second = None }
