-- An edit of the present state.
use Rattle.std.specs.Prelude.{ℕ, List, []}
use Rattle.bibtex.specs.declared.edit.Edit.{Edit as EditSeen}
use Rattle.bibtex.specs.declared.edit.Edit.TheVariants.{Write, Splice, Remove, Root, MinCrossrefs}

-- an edit as definitions see it: with its own names, bytes and numbers
pub data Edit : Type 0 where
  -- gives a name this text
  write : List ℕ → List ℕ → Edit
  -- replaces the bytes of a name's text from one place up to another
  splice : List ℕ → ℕ → ℕ → List ℕ → Edit
  -- removes the text of a name
  remove : List ℕ → Edit
  -- another root name
  root_name : List ℕ → Edit
  -- another min-crossrefs
  min_crossrefs : ℕ → Edit

-- the code's edit as definitions see it
abbrev pub edit_of : EditSeen → Edit
edit_of (Write name bytes) = write name.now bytes.now
edit_of (Splice name start end bytes) = splice name.now start end bytes.now
edit_of (Remove name) = remove name.now
edit_of (Root name) = root_name name.now
edit_of (MinCrossrefs n) = min_crossrefs n

-- the bytes that an edit brings, if it brings any
abbrev pub bytes_of : Edit → List ℕ
bytes_of (write name bytes) = bytes
bytes_of (splice name start end bytes) = bytes
bytes_of _ = []

-- the same edit with these bytes in place of its own, if it brings any
abbrev pub with_bytes : List ℕ → Edit → Edit
with_bytes bytes (write name old) = write name bytes
with_bytes bytes (splice name start end old) = splice name start end bytes
with_bytes bytes edit = edit
