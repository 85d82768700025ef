-- The wording of warnings about items.
use Rattle.std.specs.Prelude.{ℕ, ◌+◌, List, ◌++◌, codes, Option, Some, None}
use Rattle.bt_text.specs.CaseFolding.{folded}
use Rattle.bt_log.specs.declared.message.Rank.TheVariants.{Warning}
use Rattle.bt_log.specs.declared.message.Place.TheVariants.{DatabaseLine}
use Rattle.bt_log.specs.declared.message.Message.{Message}
use Rattle.bt_log.specs.Message.{plain, at}
use Rattle.bt_log.specs.declared.message.Place.{Place}
use Rattle.bt_resolve.specs.declared.place.Origin.{Origin}

-- a line of an item, relative to that of its `@`, as a line of the database
abbrev pub line_at : Origin → ℕ → Place
line_at origin line = DatabaseLine origin.database (origin.line + line) None

-- a warning at a line of a database, about the entry of a key or about none
abbrev pub warning_at : Place → List ℕ → Option (List ℕ) → Message
warning_at place words entry = record (at place (plain Warning words)) { entry = entry }

abbrev pub undefined_macro : Place → List ℕ → Message
undefined_macro place name =
    warning_at place (codes "Warning--string name \"" ++ folded name ++ codes "\" is undefined") None

abbrev pub own_macro : Place → List ℕ → Message
own_macro place name =
    warning_at place (codes "Warning--string name \"" ++ folded name ++ codes "\" is used in its own definition") None

abbrev pub too_long : Place → List ℕ → Message
too_long place name =
    warning_at place (codes "Warning--the value of \"" ++ folded name ++ codes "\" is over 65536 bytes") None

abbrev pub extra_field : Place → List ℕ → List ℕ → Message
extra_field place key name =
    warning_at place (codes "Warning--I'm ignoring " ++ key ++ codes "'s extra \"" ++ folded name ++ codes "\" field")
    (Some key)

abbrev pub no_function : Place → List ℕ → Message
no_function place key =
    warning_at place (codes "Warning--entry type for \"" ++ key ++ codes "\" isn't style-file defined") (Some key)
