-- In a value each run of white space is one space.
use Rattle.std.proofs.Common.{◌≡◌, refl, ℕ, List, Option, Some, None}
use Rattle.bt_bib.specs.declared.item.Part.{Part}
use Rattle.bt_text.specs.White.{white_joined}
use Rattle.bt_text.proofs.WhiteLemmas.{joined_again}
use Rattle.bt_resolve.specs.Values.{MacroTexts, joined_parts, value, within_limit}
use Rattle.bt_resolve.specs.inner.Cases.{joined_or_empty}

finished_again : (joined : Option (List ℕ)) → white_joined (joined_or_empty joined) ≡ joined_or_empty joined
finished_again None = refl
finished_again (Some text) = joined_again text

pub value_again : (macros : MacroTexts) (parts : List Part) → white_joined (value macros parts) ≡ value macros parts
unfolding value
value_again macros parts = finished_again (within_limit (joined_parts macros parts))
