-- A text before pieces that are joined.
use Rattle.std.proofs.Common.{◌≡◌, ℕ, List, [], ◌∷◌, ◌++◌, fold, append-nil, append_assoc, sym, ap, ◌∙◌}
use Rattle.bt_text.specs.Joined.{joined}

pub joined_behind : (t : List ℕ) (ps : List (List ℕ)) → fold ◌++◌ t ps ≡ t ++ joined ps
joined_behind t [] = sym (append-nil t)
joined_behind t (p ∷ ps) = joined_behind (t ++ p) ps ∙ append_assoc t p (joined ps) ∙ ap (λ rest. t ++ rest) (sym (joined_behind p ps))
