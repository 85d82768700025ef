-- The files of a job that have been found.
use Rattle.std.specs.Prelude.{ℕ, Bool, false, if◌then◌else◌, List, [], ◌∷◌, bytes_eq, Option, Some, None}
use Rattle.bt_paper.specs.declared.known.Known.{Known}

-- the name of the first file of a URI
abbrev pub name_at : List ℕ → List Known → Option (List ℕ)
name_at uri [] = None
name_at uri (k ∷ known) = if bytes_eq k.uri uri then Some k.name else name_at uri known

-- the URI of the first file of a name
abbrev pub uri_named : List ℕ → List Known → Option (List ℕ)
uri_named name [] = None
uri_named name (k ∷ known) = if bytes_eq k.name name then Some k.uri else uri_named name known

-- whether it is this URI
abbrev pub is_uri : List ℕ → Option (List ℕ) → Bool
is_uri uri None = false
is_uri uri (Some own) = bytes_eq own uri

-- a name, if the first file of this name has the URI
abbrev pub name_if_first : List Known → List ℕ → Option (List ℕ) → Option (List ℕ)
name_if_first known uri None = None
name_if_first known uri (Some name) = if is_uri uri (uri_named name known) then Some name else None

-- The name that the texts have for the file at a URI. No two URIs have one name.
abbrev pub name_of : List Known → List ℕ → Option (List ℕ)
name_of known uri = name_if_first known uri (name_at uri known)
