-- How often each built-in function was called.
use Rattle.std.specs.Prelude.{ℕ, ◌+◌, List, Option, Some, None, slice_index_or, slice_set}
use Rattle.bt_style.specs.declared.builtin.Builtin.{Builtin}
use Rattle.bt_style.specs.Builtins.{place_of}

-- the counts of calls, one for each place in the table, with one more call
abbrev pub with_call : Option Builtin → List ℕ → List ℕ
with_call None calls = calls
with_call (Some b) calls = slice_set calls (place_of b) (slice_index_or calls (place_of b) 0 + 1)
