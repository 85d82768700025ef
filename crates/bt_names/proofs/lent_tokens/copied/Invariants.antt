use Rattle.std.proofs.Common.{◌≡◌, take}
use Rattle.bt_names.proofs.lent_tokens.copied.Given as goal

abbrev pub invariant-walk : goal.invariant-walk
invariant-walk l = l.copies ≡ take l.token-index l.tokens
