-- What is said of a buffer to which a text is appended up to a limit.
use Rattle.std.specs.Prelude.{◌≡◌, ℕ, ◌<◌, ◌≤◌, List, ◌++◌, length, take}
use Rattle.bt_names.specs.declared.faults.FormatFault.{FormatFault}
use Rattle.bt_names.specs.declared.faults.FormatFault.TheVariants.{NoSuchName, TooManyCommas, PatternFault, OutOfMemory}
use Rattle.bt_names.specs.declared.writing.Written.{Written}
use Rattle.bt_names.specs.declared.writing.Written.TheVariants.{Whole, Longer}

-- The text t follows the old bytes if it has at most limit bytes. If it has more, the old bytes are still there, and
-- nothing is said of those after them.
abbrev pub IsWritten : (limit : ℕ) (t old new : List ℕ) → Written → Type 0
IsWritten limit t old new Whole = (new ≡ old ++ t) × (length t ≤ limit)
IsWritten limit t old new Longer = (limit < length t) × (take (length old) new ≡ old)

-- A fault leaves the buffer as it was. After out of memory, nothing is said of it.
abbrev pub IsKept : (old new : List ℕ) → FormatFault → Type 0
IsKept old new OutOfMemory = Unit {0}
IsKept old new NoSuchName = new ≡ old
IsKept old new TooManyCommas = new ≡ old
IsKept old new (PatternFault place) = new ≡ old
