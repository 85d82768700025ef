-- The words of commands, and the order in which commands may come.
use Rattle.std.specs.Prelude.{ℕ, List, [], ◌∷◌, Option, Some, None, codes}
use Rattle.std.specs.List.{find}
use Rattle.bt_text.specs.CaseFolding.{is_same_folded}
use Rattle.bt_style.specs.declared.fault.FaultKind.{FaultKind}
use Rattle.bt_style.specs.declared.fault.FaultKind.TheVariants.{CommandOrder, SecondEntry, SecondRead, NoEntry}
use Rattle.bt_style.specs.declared.verbs.Verb.{Verb}
use Rattle.bt_style.specs.declared.verbs.Verb.TheVariants as verbs
use Rattle.bt_style.specs.declared.verbs.Stage.{Stage}
use Rattle.bt_style.specs.declared.verbs.Stage.TheVariants.{BeforeEntry, BeforeRead, AfterRead}

-- the word of a command
abbrev pub word_of : Verb → List ℕ
word_of verbs.Entry = codes "ENTRY"
word_of verbs.Execute = codes "EXECUTE"
word_of verbs.Function = codes "FUNCTION"
word_of verbs.Integers = codes "INTEGERS"
word_of verbs.Iterate = codes "ITERATE"
word_of verbs.Macro = codes "MACRO"
word_of verbs.Read = codes "READ"
word_of verbs.Reverse = codes "REVERSE"
word_of verbs.Sort = codes "SORT"
word_of verbs.Strings = codes "STRINGS"

-- all commands
unfoldable pub all_verbs : List Verb
all_verbs =
    verbs.Entry ∷ verbs.Execute ∷ verbs.Function ∷ verbs.Integers ∷ verbs.Iterate ∷
    verbs.Macro ∷ verbs.Read ∷ verbs.Reverse ∷ verbs.Sort ∷ verbs.Strings ∷ []

-- the command of a word, in small letters or capitals
unfoldable pub verb_named : List ℕ → Option Verb
verb_named word = find (λ verb. is_same_folded word (word_of verb)) all_verbs

-- Why a command may not come at this stage, if it may not. The last two rows: EXECUTE, ITERATE, REVERSE and SORT.
abbrev pub out_of_order : Verb → Stage → Option FaultKind
out_of_order verbs.Entry BeforeEntry = None
out_of_order verbs.Entry _ = Some SecondEntry
out_of_order verbs.Read BeforeEntry = Some NoEntry
out_of_order verbs.Read BeforeRead = None
out_of_order verbs.Read AfterRead = Some SecondRead
out_of_order verbs.Macro AfterRead = Some CommandOrder
out_of_order verbs.Macro _ = None
out_of_order verbs.Function _ = None
out_of_order verbs.Integers _ = None
out_of_order verbs.Strings _ = None
out_of_order _ AfterRead = None
out_of_order _ _ = Some CommandOrder

abbrev pub stage_after : Verb → Stage → Stage
stage_after verbs.Entry stage = BeforeRead
stage_after verbs.Read stage = AfterRead
stage_after _ stage = stage
