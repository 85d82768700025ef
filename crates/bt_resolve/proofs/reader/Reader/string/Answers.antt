use Rattle.std.proofs.Common.{◌≡◌, sym, subst, ℕ, List}
use Rattle.bt_text.specs.White.{white_joined}
use Rattle.bt_resolve.proofs.ValueLemmas.{value_again}
use Rattle.bt_resolve.proofs.reader.Reader.string.Goals as goal

pub of_value-requires : goal.of_value-requires
of_value-requires c = subst (λ (t : List ℕ). white_joined t ≡ t) (sym c.in_ok-value.ensures.value) (value_again _ _)
