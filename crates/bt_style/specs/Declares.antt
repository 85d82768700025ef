-- Names that are declared, and names that are used.
use Rattle.std.specs.Prelude.{ℕ, Bool, not, if◌then◌else◌, List, Some, None, Result, Ok}
use Rattle.bt_text.specs.CaseFolding.{folded}
use Rattle.bt_text.specs.NameBytes.{is_name}
use Rattle.bt_style.specs.declared.fault.FaultKind.TheVariants.{UnknownName, NameTaken, UnclosedBrace, BadName, NotAFunction}
use Rattle.bt_style.specs.declared.fault.StyleFault.{StyleFault}
use Rattle.bt_style.specs.declared.style.Target.{Target}
use Rattle.bt_style.specs.declared.style.Target.TheVariants as targets
use Rattle.bt_style.specs.declared.names.Names.{Names}
use Rattle.bt_style.specs.Program.{Program}
use Rattle.bt_style.specs.Fault.{fault, ◌>>=◌}
use Rattle.bt_style.specs.Token.{Open, Close, Word, Tokens, AtEnd, Front}
use Rattle.bt_style.specs.Names.{target_named, is_taken}
use Rattle.bt_style.specs.Draft.{with_name}
use Rattle.bt_style.specs.Arguments.{open_at}

-- the name that a word declares, in small letters; the word must be a name that isn't taken
abbrev pub new_name : (List ℕ → Bool) → List ℕ → ℕ → Result (List ℕ) StyleFault
new_name taken word line =
    if not (is_name word) then fault BadName line
    else if taken (folded word) then fault NameTaken line
    else Ok (folded word)

-- what a word stands for
abbrev pub target_of : Program → List ℕ → ℕ → Result Target StyleFault
target_of p word line = elim (target_named p (folded word)) [ None ↦ fault UnknownName line | Some target ↦ Ok target ]

-- only the style's functions and built-in functions can be run
abbrev pub runnable : Target → ℕ → Result Target StyleFault
runnable (targets.Function n) line = Ok (targets.Function n)
runnable (targets.Builtin b) line = Ok (targets.Builtin b)
runnable _ line = fault NotAFunction line

-- the names up to the closing brace, each declared before the next is read
unfoldable pub names_at : Names → Program → Tokens → Result (Program × Tokens) StyleFault
names_at list p (AtEnd line) = fault UnclosedBrace line
names_at list p (Front Open line rest) = fault UnclosedBrace line
names_at list p (Front Close line rest) = Ok (p, rest)
names_at list p (Front (Word word) line rest) = do
  name ← new_name (is_taken p) word line
  names_at list (with_name list name p) rest
names_at list p (Front _ line rest) = fault BadName line

abbrev pub braced_names : Names → Program → Tokens → Result (Program × Tokens) StyleFault
braced_names list p tokens = open_at tokens >>= names_at list p
