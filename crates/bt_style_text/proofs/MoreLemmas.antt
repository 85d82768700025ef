-- Texts that are built from parts.
use Rattle.std.proofs.Common.{◌≡◌, ◌∙◌, ap, ℕ, List, ◌++◌, append_assoc}

-- a text to which two others are appended
pub two_appended : (old mid new a b : List ℕ) → mid ≡ old ++ a → new ≡ mid ++ b → new ≡ old ++ (a ++ b)
two_appended old mid new a b p q = q ∙ ap (λ m. m ++ b) p ∙ append_assoc old a b
