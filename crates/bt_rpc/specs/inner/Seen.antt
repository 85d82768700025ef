-- The message of the code, as definitions see it.
use Rattle.serde_json.specs.View.{view}
use Rattle.serde_json.specs.Data.{Data, null}
use Rattle.std.specs.Prelude.{◌≡◌, true, Option, Some, None}
use Rattle.std.specs.Borrow.{Bor}
use Rattle.serde_json.specs.declared.value.Value.{Value}
use Rattle.bt_rpc.specs.declared.messages.Message.{Message}
use Rattle.bt_rpc.specs.declared.messages.Message.TheVariants.{Request, Notification, Reply, Malformed}
use Rattle.bt_rpc.specs.Messages.{Kind, request, notified, reply, malformed, is_id}

-- the id, or null
abbrev pub id_seen : Option (Bor Value) → Data
id_seen None = null
id_seen (Some id) = view id.now

abbrev pub kind_seen : Message → Kind
kind_seen (Request id method) = request (view id.now) method.now
kind_seen (Notification method) = notified method.now
kind_seen Reply = reply
kind_seen (Malformed id) = malformed (id_seen id)

-- the id of a message is one
abbrev pub HasId : Message → Type 0
HasId (Request id method) = is_id (view id.now) ≡ true
HasId (Notification method) = Unit {0}
HasId Reply = Unit {0}
HasId (Malformed (Some id)) = is_id (view id.now) ≡ true
HasId (Malformed None) = Unit {0}

-- the same for an id that may be absent
abbrev pub IsIdIfAny : Option (Bor Value) → Type 0
IsIdIfAny (Some id) = is_id (view id.now) ≡ true
IsIdIfAny None = Unit {0}
