-- Faults, and how the result of the code's readers relates to what the definition gives.
use Rattle.std.specs.Prelude.{◌≡◌, ℕ, List, codes, Result, Ok, Err}
use Rattle.bt_style.specs.declared.fault.FaultKind.{FaultKind}
use Rattle.bt_style.specs.declared.fault.FaultKind.TheVariants as kinds
use Rattle.bt_style.specs.declared.fault.StyleFault.{StyleFault}
use Rattle.bt_style.specs.declared.fault.StyleRefusal.{StyleRefusal}
use Rattle.bt_style.specs.declared.fault.StyleRefusal.TheVariants as refusals

-- the words for a kind of fault
abbrev pub words_of : FaultKind → List ℕ
words_of kinds.UnknownCommand = codes "This isn't a command"
words_of kinds.CommandOrder = codes "This command stands in the wrong order"
words_of kinds.SecondEntry = codes "Illegal, another ENTRY command"
words_of kinds.SecondRead = codes "Illegal, another READ command"
words_of kinds.NoEntry = codes "READ stands before ENTRY"
words_of kinds.UnknownName = codes "This name isn't defined"
words_of kinds.NameTaken = codes "This name is taken"
words_of kinds.NumberTooLarge = codes "This number is too large"
words_of kinds.UnclosedText = codes "This text has no end"
words_of kinds.UnclosedBrace = codes "A brace isn't closed"
words_of kinds.BadName = codes "This isn't a name"
words_of kinds.StrayByte = codes "This byte can't stand here"
words_of kinds.NotAFunction = codes "This isn't a function"
words_of kinds.MissingArgument = codes "An argument is missing"

-- a fault on a line
abbrev pub fault : {A : Type 0} → FaultKind → ℕ → Result A StyleFault
fault kind line = Err (record { kind = kind; line = line })

-- one reader after another, unless there was a fault
infixl 10 ◌>>=◌
abbrev pub ◌>>=◌ : {A B : Type 0} → Result A StyleFault → (A → Result B StyleFault) → Result B StyleFault
(Ok x) >>= f = f x
(Err e) >>= f = Err e

-- the code fails with the same fault as the definition, unless memory ran out
abbrev pub Fails : {Y : Type 0} → StyleRefusal → Result Y StyleFault → Type 0
Fails refusals.OutOfMemory read = Unit {0}
Fails (refusals.Fault kind line) read = read ≡ fault kind line

-- the code gives the same value (as `view` shows it) or the same fault as the definition, unless memory ran out
abbrev pub Gives : {X Y : Type 0} → (X → Y) → Result X StyleRefusal → Result Y StyleFault → Type 0
Gives view (Ok x) read = read ≡ Ok (view x)
Gives view (Err e) read = Fails e read
