use Rattle.std.proofs.Common.{◌≡◌, ◌≢◌, ℕ, ◌<◌, ◌≤◌, take, get_or}
use Rattle.bt_text.specs.Depth.{depth}
use Rattle.bt_text.proofs.depth.balanced.Given as goal

abbrev pub invariant-loop-byte : goal.invariant-loop-byte
invariant-loop-byte l = (l.depth ≡ depth (take l.byte-index l.text)) × (l.depth ≤ l.byte-index) × ((i : ℕ) → i < l.byte-index → get_or l.text i 0 ≡ 125 → depth (take i l.text) ≢ 0)
