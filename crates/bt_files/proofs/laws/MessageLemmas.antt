-- The status of messages with the author's names.
use Rattle.std.proofs.Common.{◌≡◌, refl, ap, ℕ, Bool, cond, List, [], ◌∷◌, map}
use Rattle.std.specs.Prelude.{◌||◌}
use Rattle.std.specs.List.{list_any}
use Rattle.bt_log.specs.declared.message.Message.{Message}
use Rattle.bt_log.specs.Log.{has_status, status_of}
use Rattle.bt_files.specs.Messages.{put_back}

any_status : (status : ℕ) (table : List (List ℕ)) (log : List Message) → list_any (has_status status) (map (put_back table) log) ≡ list_any (has_status status) log
any_status status table [] = refl
any_status status table (m ∷ log) = ap (λ (b : Bool). has_status status m || b) (any_status status table log)

pub status_same : (table : List (List ℕ)) (log : List Message) → status_of (map (put_back table) log) ≡ status_of log
status_same table log = λ k. cond (any_status 3 table log k) 3 (cond (any_status 2 table log k) 2 (cond (any_status 1 table log k) 1 0))
