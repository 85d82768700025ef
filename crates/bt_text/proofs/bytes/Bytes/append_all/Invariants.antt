use Rattle.std.proofs.Common.{◌≡◌, ◌++◌, drop, fold, map}
use Rattle.bt_text.proofs.bytes.Bytes.append_all.Given as goal

abbrev pub invariant-pieces : goal.invariant-pieces
invariant-pieces l = fold ◌++◌ l.self (map (λ piece. piece.now) (drop l.piece-index l.pieces)) ≡ fold ◌++◌ l.fn.self (map (λ piece. piece.now) l.pieces)
