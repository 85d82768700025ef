-- What files did with a text.
use Rattle.std.specs.Prelude.{Bool, true, false}
use Rattle.bt_documents.specs.declared.files.Written.{Written}
use Rattle.bt_documents.specs.declared.files.Written.TheVariants.{Taken, Refused, Waiting}

-- whether the files have the text
abbrev pub is_taken : Written → Bool
is_taken Taken = true
is_taken Refused = false
is_taken Waiting = false

-- whether they don't admit it
abbrev pub is_refused : Written → Bool
is_refused Taken = false
is_refused Refused = true
is_refused Waiting = false

-- whether they don't have it yet
abbrev pub is_waiting : Written → Bool
is_waiting Taken = false
is_waiting Refused = false
is_waiting Waiting = true
