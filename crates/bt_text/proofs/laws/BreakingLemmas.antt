-- The bound on the number of breaks is never reached.
use Rattle.std.proofs.Common.{◌≡◌, ℕ, ◌≤◌, List, length, arith}
use Rattle.bt_text.specs.LineBreaks.{broken, broken_within}
use Rattle.bt_text.proofs.BreakingLemmas.{enough}

-- ---- breaks

pub any_bound_serves : (text : List ℕ) (reserve : ℕ) → length text ≤ reserve → broken_within reserve text ≡ broken text
any_bound_serves text reserve le = enough reserve (length text) text le (omega arith)
