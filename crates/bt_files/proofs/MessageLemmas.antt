-- Messages keep their names if no name needs another one.
use Rattle.std.proofs.Common.{◌≡◌, refl, ap, ℕ, Bool, true, false, cond, List, [], Option, Some, None}
use Rattle.std.specs.Prelude.{unwrap_or}
use Rattle.std.specs.Option.{option_map}
use Rattle.bt_log.specs.declared.message.Said.{Said}
use Rattle.bt_log.specs.declared.message.Said.TheVariants.{Words, OfFile}
use Rattle.bt_log.specs.declared.message.Place.{Place}
use Rattle.bt_log.specs.declared.message.Place.TheVariants.{Line, DatabaseLine, WholeFile, Step}
use Rattle.bt_log.specs.declared.message.Message.{Message}
use Rattle.bt_files.specs.Names.{is_stand_in}
use Rattle.bt_files.specs.Messages.{name_back, said_back, place_back, put_back}

pub name_stays : (file : List ℕ) → name_back [] file ≡ file
name_stays file = go (is_stand_in file)
  where
    go : (b : Bool) → unwrap_or (cond b None (Some file)) file ≡ file
    go true = refl
    go false = refl

said_stays : (said : Said) → said_back [] said ≡ said
said_stays (Words words) = refl
said_stays (OfFile note file) = ap (λ (f : List ℕ). OfFile note f) (name_stays file)

place_stays : (place : Place) → place_back [] place ≡ place
place_stays (Line file line byte) = ap (λ (f : List ℕ). Line f line byte) (name_stays file)
place_stays (DatabaseLine database line byte) = refl
place_stays (WholeFile file) = ap (λ (f : List ℕ). WholeFile f) (name_stays file)
place_stays (Step style line) = ap (λ (f : List ℕ). Step f line) (name_stays style)

any_place_stays : (place : Option Place) → option_map (place_back []) place ≡ place
any_place_stays None = refl
any_place_stays (Some place) = ap (λ (p : Place). Some p) (place_stays place)

pub message_stays : (m : Message) → put_back [] m ≡ m
message_stays m = λ k. record m { said = said_stays m.said k; place = any_place_stays m.place k }
