-- What a desk hands out, as data.
use Rattle.std.specs.Prelude.{◌≡◌, false, Result, Ok, Err}
use Rattle.serde_json.specs.Data.{Data}
use Rattle.serde_json.specs.View.{view}
use Rattle.serde_json.specs.Written.{has_float}
use Rattle.serde_json.specs.declared.value.Value.{Value}
use Rattle.bt_rpc.specs.declared.answers.RpcError.{RpcError}

-- an outcome, its value as data
abbrev pub outcome_of : Result Value RpcError → Result Data RpcError
outcome_of (Ok value) = Ok (view value)
outcome_of (Err error) = Err error

-- an outcome without floats, whose text is then determined
abbrev pub IsPlain : Result Value RpcError → Type 0
IsPlain (Ok value) = has_float (view value) ≡ false
IsPlain (Err error) = Unit {0}
