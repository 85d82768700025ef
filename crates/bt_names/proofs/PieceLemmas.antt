-- A pattern in pieces.
use Rattle.std.proofs.Common.{◌≡◌, Bool, true, false, List, map, refl, sym}
use Rattle.std.proofs.lemmas.List.{map-id}
use Rattle.bt_names.specs.declared.tokens.Token.{Token}
use Rattle.bt_names.specs.Spelling.{spelled}
use Rattle.bt_names.specs.inner.Spelling.{form_of, spell}

pub spelled_map : (whole : Bool) (ws : List Token) → spelled (form_of whole) ws ≡ map (spell whole) ws
spelled_map true ws = sym (map-id ws)
spelled_map false ws = refl
