-- Messages of JSON-RPC, as values of JSON.
use Rattle.std.specs.Prelude.{ℕ, ℤ, negsuc, Bool, true, false, not, ◌||◌, if◌then◌else◌, List, codes, Option, Some, None, is_some, option_and_then}
use Rattle.serde_json.specs.Data.{Data, null, boolean, number, negative, string, array, object, member, no_members}
use Rattle.serde_json.specs.Find.{get, as_str, is_float}
use Rattle.bt_rpc.specs.declared.answers.RpcError.{RpcError}
use Rattle.bt_rpc.specs.declared.answers.RpcError.TheVariants.{ParseError, InvalidRequest, MethodNotFound, InvalidParams, InternalError, ServerNotInitialized, BadName, TakenName, UndefinedMacro, InexactRename, UndeclaredName}

-- what a value is as a message
pub data Kind : Type 0 where
  -- a request, its id and its method
  request : Data → List ℕ → Kind
  -- a notification and its method
  notified : List ℕ → Kind
  -- the client's answer to a request of the server
  reply : Kind
  -- no message, and the id for its error
  malformed : Data → Kind

-- an id: a string or an integer
abbrev pub is_id : Data → Bool
is_id null = false
is_id (boolean b) = false
is_id (number n) = not (is_float n)
is_id (string s) = true
is_id (array ds) = false
is_id (object ms) = false

-- the id, or null if it isn't one or is absent
abbrev pub id_or_null : Option Data → Data
id_or_null None = null
id_or_null (Some id) = if is_id id then id else null

-- What a value with this method and this id is, if it has them. The truth value says whether it has a result or an
-- error.
abbrev pub kind_with : Option (List ℕ) → Option Data → Bool → Kind
kind_with (Some method) (Some id) answers = if is_id id then request id method else malformed null
kind_with (Some method) None answers = notified method
kind_with None id answers = if answers then reply else malformed (id_or_null id)

-- what a value is as a message
abbrev pub kind_of : Data → Kind
kind_of d =
    kind_with (option_and_then as_str (get (codes "method") d)) (get (codes "id") d)
    (is_some (get (codes "result") d) || is_some (get (codes "error") d))

-- an answer has no method; the server's notifications and its own requests have one
abbrev pub is_answer : Data → Bool
is_answer d = not (is_some (get (codes "method") d))

-- the code of an error
abbrev pub code_of : RpcError → ℤ
code_of ParseError = negsuc 32699
code_of InvalidRequest = negsuc 32599
code_of MethodNotFound = negsuc 32600
code_of InvalidParams = negsuc 32601
code_of InternalError = negsuc 32602
code_of ServerNotInitialized = negsuc 32001
code_of BadName = negsuc 32802
code_of TakenName = negsuc 32802
code_of UndefinedMacro = negsuc 32802
code_of InexactRename = negsuc 32802
code_of UndeclaredName = negsuc 32802

-- the words of an error
abbrev pub words_of : RpcError → List ℕ
words_of ParseError = codes "the message isn't JSON"
words_of InvalidRequest = codes "the message isn't one of JSON-RPC 2.0"
words_of MethodNotFound = codes "the method is unknown"
words_of InvalidParams = codes "the method's parameters are wrong"
words_of InternalError = codes "out of memory, or the message is too large"
words_of ServerNotInitialized = codes "the server isn't initialized"
words_of BadName = codes "this can't be a name"
words_of TakenName = codes "this name is taken"
words_of UndefinedMacro = codes "the style defines this macro, or no database does"
words_of InexactRename = codes "the rename would miss the name, or change more, as in a value joined with #"
words_of UndeclaredName = codes "the style doesn't declare this name"

-- the answer to a request that has a result
abbrev pub response : Data → Data → Data
response id answer =
    object (member (codes "id") id (member (codes "jsonrpc") (string (codes "2.0"))
    (member (codes "result") answer no_members)))

-- the answer to a request that has none
abbrev pub error_response : Data → RpcError → Data
error_response id r =
    object (member (codes "error")
    (object (member (codes "code") (number (negative (code_of r)))
    (member (codes "message") (string (words_of r)) no_members)))
    (member (codes "id") id (member (codes "jsonrpc") (string (codes "2.0")) no_members)))

-- a notification
abbrev pub notification : List ℕ → Data → Data
notification method params =
    object (member (codes "jsonrpc") (string (codes "2.0")) (member (codes "method") (string method)
    (member (codes "params") params no_members)))
