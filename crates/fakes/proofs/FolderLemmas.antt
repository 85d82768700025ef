-- What a folder in memory holds.
use Rattle.std.proofs.Common.{◌≡◌, ◌∙◌, ap, sym, refl, ◌+◌, ◌<◌, ◌≤◌, ℕ, suc, List, [], ◌∷◌, ◌++◌, length, take, drop, get_or, add-one, arith, Option, None, Some}
use Rattle.std.specs.Prelude.{fold, min, bytes_eq, if◌then◌else◌}
use Rattle.std.specs.Option.{option_map}
use Rattle.std.proofs.lemmas.List.{take_min, length-take}
use Rattle.std.proofs.lemmas.List.Sums.{fold-append}
use Rattle.std.proofs.Math.Seq.{drop-cons}
use Rattle.bt_one_shot.specs.Folders.{Contents, Written, with_file, Holds}
use Rattle.fakes.specs.Held.{nothing, held_in}

-- what a name has after some files, where it had this before
abbrev pub last_of : Option (List ℕ) → List Written → List ℕ → Option (List ℕ)
last_of before files name = fold with_file (λ _. before) files name

-- What a name has depends on what it had alone.
fold_at : (h k : Contents) (files : List Written) (name : List ℕ) → h name ≡ k name →
    fold with_file h files name ≡ fold with_file k files name
fold_at h k [] name is = is
fold_at h k (f ∷ fs) name is =
    fold_at (with_file h f) (with_file k f) fs name (ap (λ o. if bytes_eq f.name name then Some f.bytes else o) is)

-- One more file.
pub last_then : (before : Option (List ℕ)) (files : List Written) (i : ℕ) (file : Written)
    (found later : Option (List ℕ)) (name : List ℕ) →
    i < length files → file ≡ get_or files i file →
    later ≡ (if bytes_eq file.name name then Some file.bytes else found) →
    last_of found (drop i files) name ≡ last_of before files name →
    last_of later (drop (i + 1) files) name ≡ last_of before files name
last_then before files i file found later name lt is becomes same =
    fold_at (λ _. later) (with_file (λ _. found) file) (drop (i + 1) files) name becomes
    ∙ (sym (ap (λ fs. last_of found fs name) at_place) ∙ same)
  where
    at_place : drop i files ≡ file ∷ drop (i + 1) files
    at_place = rw add-one (drop-cons files i file lt ∙ ap (λ f. f ∷ drop (suc i) files) (sym is))

-- Files that were given, and then those that were written.
pub last_of_both : (given put : List Written) (name : List ℕ) (o : Option (List ℕ)) → o ≡ last_of None given name →
    last_of o put name ≡ held_in given put name
last_of_both given put name o is = fold_at (λ _. o) (fold with_file nothing given) put name is

-- A file that is written is held.
pub holds_more : (given put put' : List Written) (file : Written) → put' ≡ put ++ file ∷ [] →
    Holds (Some (held_in given put)) (Some (held_in given put')) (file ∷ [])
holds_more given put put' file is = λ name.
    ap (λ p. held_in given p name) is
    ∙ ap (λ h. h name) (fold-append with_file (fold with_file nothing given) put (file ∷ []))

-- The first bytes of a file

pub some_first : (n : ℕ) (held : Option (List ℕ)) (bytes first : List ℕ) → Some bytes ≡ held →
    first ≡ take (min n (length bytes)) bytes → Some first ≡ option_map (take n) held
some_first n held bytes first is are = rw (← is) (ap Some (are ∙ take_min n bytes))

pub none_first : (n : ℕ) (held : Option (List ℕ)) → None ≡ held → None ≡ option_map (take n) held
none_first n held is = rw (← is) refl

-- are no more than are read
pub first_within : (n : ℕ) (held : Option (List ℕ)) (first : List ℕ) → option_map (take n) held ≡ Some first →
    length first ≤ n
first_within n None first is = absurd cc
first_within n (Some bytes) first is =
    let same : take n bytes ≡ first = cc in
    rw (← same, length-take n bytes) (omega arith)
