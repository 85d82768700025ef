-- How an edit of values changes messages.
use Rattle.std.specs.Prelude.{ℕ, ◌+◌, ◌-◌, List, ◌++◌, map, take, drop, Option, Some, None, option_map}
use Rattle.bt_bib.specs.declared.spot.Spot.{Spot}
use Rattle.bt_log.specs.declared.message.Message.{Message}
use Rattle.bt_log.specs.declared.message.Place.{Place}
use Rattle.bt_log.specs.declared.message.Place.TheVariants.{Line, DatabaseLine, WholeFile, Step}

-- a place of a database whose text has moved from `stood` to `stand`
abbrev pub rebased_place : Spot → Spot → Option Place → Option Place
rebased_place stood stand None = None
rebased_place stood stand (Some (DatabaseLine database line byte)) =
    Some (DatabaseLine database (line - stood.line + stand.line) (option_map (λ b. b - stood.place + stand.place) byte))
rebased_place stood stand (Some (Line file line byte)) = Some (Line file line byte)
rebased_place stood stand (Some (WholeFile file)) = Some (WholeFile file)
rebased_place stood stand (Some (Step style line)) = Some (Step style line)

abbrev pub rebased_message : Spot → Spot → Message → Message
rebased_message stood stand m = record m { place = rebased_place stood stand m.place }

-- all messages: new ones replace those from `first` up to `past`, and those from there up to `last` move
abbrev pub patched : List Message → ℕ → ℕ → ℕ → List Message → Spot → Spot → List Message
patched all first past last new stood stand =
    take first all ++ new ++ map (rebased_message stood stand) (take (last - past) (drop past all)) ++ drop last all
