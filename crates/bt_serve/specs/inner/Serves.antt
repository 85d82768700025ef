-- What one request does, and how it is answered.
use Rattle.std.specs.Prelude.{◌≡◌, ℕ, ◌+◌, Some, Bool, List, length, Option, Result, Ok, Err, OnOk}
use Rattle.std.specs.Io.KnownBytes.{Consumes, Appends, IsAtEnd}
use Rattle.bt_streams.specs.Reads.{ReadsBelow}
use Rattle.bt_streams.specs.Writes.{AppendsPart}
use Rattle.bt_run.specs.declared.answers.Report.{Report}
use Rattle.bibtex.specs.declared.edit.Refusal.{Refusal}
use Rattle.bibtex.specs.declared.state.State.{State}
use Rattle.bibtex.specs.Present.{reported}
use Rattle.bibtex.specs.Edit.{Edit, with_bytes}
use Rattle.bibtex.specs.Applied.{applied, IsAnswer}
use Rattle.bt_serve.specs.Commands.{Request, bytes_brought, answer_of, after_of, ends, accepted, refused, MayRunOut}
use Rattle.bt_serve.specs.declared.fault.ServeFault.{ServeFault}
use Rattle.bt_serve.specs.declared.fault.ServeFault.TheVariants.{ReadFailed, WriteFailed, Truncated}
use Rattle.bt_serve.specs.Serves.{Turn}

-- the bytes of an edit are read, and the edit is made or refused
abbrev pub Takes : Edit → ℕ → Option (List ℕ) → Option (List ℕ) → State → State →
    Result (Result Report Refusal) ServeFault → Type 0
Takes e n old new state state' (Ok (Ok report)) =
    (bytes : List ℕ) × (length bytes ≡ n) × Consumes old new bytes × (applied (with_bytes bytes e) state ≡ Ok state') ×
    (report ≡ reported state state')
Takes e n old new state state' (Ok (Err refusal)) =
    (bytes : List ℕ) × (length bytes ≡ n) × Consumes old new bytes ×
    IsAnswer {A = Report} (applied (with_bytes bytes e) state) (Err refusal) × (state' ≡ state)
Takes e n old new state state' (Err ReadFailed) = ReadsBelow old new n × (state' ≡ state)
Takes e n old new state state' (Err Truncated) = ReadsBelow old new n × IsAtEnd new × (state' ≡ state)
Takes e n old new state state' (Err WriteFailed) = ⊥

-- the bytes of a request are read, what it asks for is done, and its answer is written
abbrev pub Does : Request → Option (List ℕ) → Option (List ℕ) → State → State → (List ℕ → Type 0) → Type 0
Does request old new state state' Written =
    (ran_out : Bool) × (bytes : List ℕ) × (length bytes ≡ bytes_brought request) × Consumes old new bytes ×
    (state' ≡ after_of ran_out state request bytes) × Written (answer_of ran_out state request bytes) ×
    MayRunOut ran_out state request bytes

-- a request is answered, and the result says whether it is the last one; or a fault, with what was done before it
abbrev pub Replies : Request → Option (List ℕ) → Option (List ℕ) → Option (List ℕ) → Option (List ℕ) → State → State →
    Result Bool ServeFault → Type 0
Replies request old new held held' state state' (Ok last) =
    Does request old new state state' (Appends held held') × (last ≡ ends request)
Replies request old new held held' state state' (Err WriteFailed) =
    Does request old new state state' (AppendsPart held held')
Replies request old new held held' state state' (Err ReadFailed) =
    ReadsBelow old new (bytes_brought request) × (held' ≡ held) × (state' ≡ state)
Replies request old new held held' state state' (Err Truncated) =
    ReadsBelow old new (bytes_brought request) × IsAtEnd new × (held' ≡ held) × (state' ≡ state)

-- how often reads and writes failed: as before, or once more if that is the fault
abbrev pub CountsFailures : ℕ → ℕ → ℕ → ℕ → Result Bool ServeFault → Type 0
CountsFailures reads reads' writes writes' result =
    OnOk result (reads' ≡ reads) × OnOk result (writes' ≡ writes) × (result ≡ Err ReadFailed → reads' ≡ reads + 1) ×
    (result ≡ Err WriteFailed → writes' ≡ writes + 1)

-- the answer to an edit that was taken
abbrev pub taken_text : Result Report Refusal → List ℕ
taken_text (Ok report) = accepted report
taken_text (Err refusal) = refused refusal

-- the same, if a source and a sink show their bytes
abbrev pub Turns : Option (List ℕ) → Option (List ℕ) → Option (List ℕ) → Option (List ℕ) → State → State →
    Result Bool ServeFault → Type 0
Turns old new held held' state state' result = (input : List ℕ) (said : List ℕ) → old ≡ Some input → held ≡ Some said →
    (rest : List ℕ) × (said' : List ℕ) × (new ≡ Some rest) × (held' ≡ Some said') ×
    Turn input rest said said' state state' result
