-- Which tokens are von tokens.
use Rattle.std.specs.Prelude.{ℕ, Bool, false, ◌||◌, if◌then◌else◌, List, ◌∷◌, length, drop, find, filter_map, slice_get, Option, None, Some, unwrap_or}
use Rattle.bt_text.specs.ByteTests.{is_small, is_large}
use Rattle.bt_text.specs.Blocks.{blocks, begins_special}
use Rattle.bt_text.specs.Special.{control_name, is_foreign}
use Rattle.bt_names.specs.declared.tokens.Token.{Token}
use Rattle.bt_names.specs.Cuts.{is_single}

abbrev pub is_cased : ℕ → Bool
is_cased b = is_small b || is_large b

-- The first letter that has a case is a small one.
abbrev pub begins_small : List ℕ → Bool
begins_small t = is_small (unwrap_or (find is_cased t) 0)

-- A special character is judged by the name of its first control sequence if that is a foreign letter, else by what
-- stands after the name.
abbrev pub special_is_small : List ℕ → Bool
special_is_small (a ∷ b ∷ t) =
    begins_small (if is_foreign (control_name t) then control_name t else drop (length (control_name t)) t)
special_is_small _ = false

-- What a block says of its token: a letter with a case at depth 0 and a special character decide, nothing else does.
abbrev pub verdict_of : List ℕ → Option Bool
verdict_of block =
    if begins_special block then Some (special_is_small block)
    else (if is_single is_cased block then Some (begins_small block) else None)

-- The first block that decides says that the token is small.
abbrev pub is_von_text : List ℕ → Bool
is_von_text t = unwrap_or (slice_get (filter_map verdict_of (blocks t)) 0) false

abbrev pub is_von : Token → Bool
is_von w = is_von_text w.text
