-- The key of the step's entry, in the world and in the state.
use Rattle.std.specs.Prelude.{◌≡◌, Option, Some, None}
use Rattle.std.specs.Borrow.{Bor}
use Rattle.std.proofs.Common.{refl}
use Rattle.bt_actions.specs.declared.entry.Entry.{Entry}
use Rattle.bt_actions.specs.declared.entry.Variables.{Variables}
use Rattle.bt_actions.specs.World.{key_in}
use Rattle.bt_stack.specs.View.{entries_seen, place_seen, key_seen}

pub key_told : (entry : Option (Bor Entry)) (own : Variables) → key_in (entries_seen entry own) (place_seen entry) ≡ key_seen entry
key_told None own = refl
key_told (Some e) own = refl
