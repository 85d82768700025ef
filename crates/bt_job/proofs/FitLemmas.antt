-- What is asked for is always fit for use.
use Rattle.std.specs.Prelude.{codes, not, fold, filter, slice_get}
use Rattle.std.specs.List.{before_first, position_or_len}
use Rattle.std.specs.Option.{is_some}
use Rattle.std.specs.Str.{bytes_eq}
use Rattle.std.specs.Char.{to_ascii_lowercase}
use Rattle.std.proofs.lemmas.Slice.Eq.{bytes_eq-Decides}
use Rattle.std.proofs.lemmas.List.Elements.{filter-append}
use Rattle.std.proofs.lemmas.List.Sums.{fold-append}
use Rattle.std.proofs.Common.{◌≡◌, ℕ, ◌≤◌, Bool, true, false, cond, List, [], ◌∷◌, ◌++◌, length, length-append, map, take, drop, take-append-drop, append_assoc, append-nil, Option, Some, None, refl, sym, ap, subst, ◌∙◌, arith}
use Rattle.bt_text.specs.CaseFolding.{is_same_folded}
use Rattle.bt_text.specs.NameList.{same_name, is_among}
use Rattle.bt_bib.specs.declared.aux_line.Command.TheVariants.{Citation, Database, Style}
use Rattle.bt_log.specs.declared.message.FileKind.TheVariants.{Bib, Bst}
use Rattle.bt_log.specs.declared.message.FileNote.TheVariants.{NotOpened, DatabaseTwice, BadFileName}
use Rattle.bt_job.specs.declared.files.File.{File}
use Rattle.bt_job.specs.declared.citations.Citations.{Citations}
use Rattle.bt_job.specs.FileNames.{is_file_name, text_of, with_name}
use Rattle.bt_job.specs.Faults.{LineFault, WrongFile, SecondStar, OtherSpelling, PartFault, key_fault, database_fault, style_fault, right_parts}
use Rattle.bt_job.specs.inner.Cases.{is_there, asked_from, spelling_fault}
use Rattle.bt_job.specs.Lines.{line_parts, JobLine, has_command, first_with, cited, database_names, style_names, job_lines}
use Rattle.bt_job.specs.Citations.{is_star, keys_of, star_of, styles, citations}
use Rattle.bt_job.specs.Fit.{AreDistinct, AreThere, IsWithin, IsThere, IsFit, AlwaysFit}
use Rattle.bt_job.proofs.NameLemmas.{same_bytes}
use Rattle.bt_job.proofs.PartLemmas.{right_wrong, right_more}
use Rattle.bt_job.proofs.CitedLemmas.{found_among_keys, found_there, keys_key, keys_star}

-- Keys

lower_same : (a b : List ℕ) → bytes_eq a b ≡ false → bytes_eq b a ≡ true → ⊥
lower_same a b differ is = let e : bytes_eq a b ≡ true = (bytes_eq-Decides a b).1 (sym ((bytes_eq-Decides b a).0 is)) in cc

-- a test that does not hold
false_from : (b : Bool) → (b ≡ true → ⊥) → b ≡ false
false_from true h = absurd (h refl)
false_from false h = refl

-- two keys that differ, the other way round
other_way : (a b : List ℕ) → is_same_folded a b ≡ false → is_same_folded b a ≡ false
other_way a b h = false_from (is_same_folded b a) (lower_same (map to_ascii_lowercase a) (map to_ascii_lowercase b) h)

-- neither this one nor a later one
none_first : (b : Bool) (k : List ℕ) (o : Option (List ℕ)) → cond b (Some k) o ≡ None → (b ≡ false) × (o ≡ None)
none_first true k o h = cc
none_first false k o h = (refl, h)

-- a key that is none of some and not another
not_same-append : (k key : List ℕ) (ks : List (List ℕ)) → same_name k ks ≡ None → is_same_folded key k ≡ false → same_name k (ks ++ key ∷ []) ≡ None
not_same-append k key [] h differ = rw differ refl
not_same-append k key (j ∷ ks) h differ =
    let both = none_first (is_same_folded j k) j (same_name k ks) h in
    rw both.0 (not_same-append k key ks both.1 differ)

-- a new key after distinct ones
distinct-append : (key : List ℕ) (ks : List (List ℕ)) → AreDistinct ks → same_name key ks ≡ None → AreDistinct (ks ++ key ∷ [])
distinct-append key [] d h = (refl, tt)
distinct-append key (k ∷ ks) d h =
    let both = none_first (is_same_folded k key) k (same_name key ks) h in
    (not_same-append k key ks d.0 (other_way k key both.0), distinct-append key ks d.1 both.1)

-- a key that isn't there yet, or is
distinct_with : (a : Bool) (key : List ℕ) (ks : List (List ℕ)) → AreDistinct ks → (a ≡ false → same_name key ks ≡ None) → AreDistinct (cond a ks (ks ++ key ∷ []))
distinct_with true key ks d h = d
distinct_with false key ks d h = distinct-append key ks d (h refl)

-- a key that isn't wrong is new or was spelled the same way
spelled_so : (o : Option (List ℕ)) (key : List ℕ) (ks : List (List ℕ)) → same_name key ks ≡ o → spelling_fault key o ≡ None → is_among ks key ≡ false → same_name key ks ≡ None
spelled_so None key ks is right new = is
spelled_so (Some old) key ks is right new = go (bytes_eq old key) refl right
  where
    go : (b : Bool) → bytes_eq old key ≡ b → cond b None (Some (OtherSpelling key old)) ≡ None → same_name key ks ≡ None
    go true e none = let there : is_among ks key ≡ true = found_there key key ks (is ∙ ap Some (same_bytes old key e)) in cc
    go false e none = let wrong : true ≡ false = ap is_some none in cc

distinct_key : (parts : List (List ℕ)) (part : List ℕ) → AreDistinct (keys_of parts) → key_fault parts part ≡ None → AreDistinct (keys_of (parts ++ part ∷ []))
distinct_key parts part d right = go (is_star part) refl
  where
    go : (b : Bool) → is_star part ≡ b → AreDistinct (keys_of (parts ++ part ∷ []))
    go true e = subst AreDistinct (sym (keys_star parts part e)) d
    go false e =
        let named : spelling_fault part (same_name part parts) ≡ None = sym (ap (λ b. cond b (cond (is_among parts part) (Some SecondStar) None) (spelling_fault part (same_name part parts))) e) ∙ right in
        subst AreDistinct (sym (keys_key parts part e))
        (distinct_with (is_among (keys_of parts) part) part (keys_of parts) d (spelled_so (same_name part parts) part (keys_of parts) (found_among_keys part parts e) named))

distinct_parts : (later parts : List (List ℕ)) → AreDistinct (keys_of parts) → AreDistinct (keys_of (parts ++ right_parts key_fault parts later))
distinct_parts [] parts d = subst (λ ps. AreDistinct (keys_of ps)) (sym (append-nil parts)) d
distinct_parts (part ∷ later) parts d = go (key_fault parts part) refl (λ e. distinct_parts later (parts ++ part ∷ []) (distinct_key parts part d e))
  where
    go : (o : Option LineFault) → key_fault parts part ≡ o → (key_fault parts part ≡ None → AreDistinct (keys_of (parts ++ part ∷ [] ++ right_parts key_fault (parts ++ part ∷ []) later)))
        → AreDistinct (keys_of (parts ++ right_parts key_fault parts (part ∷ later)))
    go None e more =
        subst (λ ps. AreDistinct (keys_of ps))
        (append_assoc parts (part ∷ []) (right_parts key_fault (parts ++ part ∷ []) later) ∙ ap (λ ps. parts ++ ps) (sym (right_more key_fault parts part later e)))
        (more e)
    go (Some f) e more = subst (λ ps. AreDistinct (keys_of ps)) (sym (append-nil parts) ∙ ap (λ ps. parts ++ ps) (sym (right_wrong key_fault parts part later f e))) d

distinct_lines : (lines : List JobLine) (parts : List (List ℕ)) → AreDistinct (keys_of parts) → AreDistinct (keys_of (fold (λ before line. before ++ right_parts key_fault before line.item.parts) parts lines))
distinct_lines [] parts d = d
distinct_lines (l ∷ ls) parts d = distinct_lines ls (parts ++ right_parts key_fault parts l.item.parts) (distinct_parts l.item.parts parts d)

distinct_cited : (lines : List JobLine) → AreDistinct (keys_of (cited lines))
unfolding cited
distinct_cited lines = distinct_lines (filter (has_command Citation) lines) [] tt

-- The place of `*`

with_longer : (b : Bool) (names : List (List ℕ)) (name : List ℕ) → length names ≤ length (cond b names (names ++ name ∷ []))
with_longer true names name = omega arith
with_longer false names name = omega (arith, length-append names (name ∷ []))

names_longer : (seen names : List (List ℕ)) → length seen ≤ length (fold with_name seen names)
names_longer seen [] = omega arith
names_longer seen (n ∷ ns) = omega (arith, with_longer (is_among seen n) seen n, names_longer (with_name seen n) ns)

-- there are no more keys before a place than in all
keys_before : (k : ℕ) (parts : List (List ℕ)) → length (keys_of (take k parts)) ≤ length (keys_of parts)
keys_before k parts =
    let is_key : List ℕ → Bool = λ part. not (is_star part) in
    let all : keys_of parts ≡ fold with_name (keys_of (take k parts)) (filter is_key (drop k parts)) =
    ap keys_of (sym (take-append-drop k parts)) ∙ ap (fold with_name []) (filter-append is_key (take k parts) (drop k parts)) ∙ fold-append with_name [] (filter is_key (take k parts)) (filter is_key (drop k parts)) in
    omega (arith, ap (λ (ks : List (List ℕ)). length ks) all, names_longer (keys_of (take k parts)) (filter is_key (drop k parts)))

star_within : (parts : List (List ℕ)) → IsWithin (star_of parts) (length (keys_of parts))
star_within parts = go (is_among parts (codes "*"))
  where
    go : (b : Bool) → IsWithin (cond b (Some (length (keys_of (before_first is_star parts)))) None) (length (keys_of parts))
    go true = keys_before (position_or_len is_star parts) parts
    go false = tt

-- Files

there_by : (files : List File) (fault : PartFault) (before : List (List ℕ)) (name : List ℕ) (later : List (List ℕ)) (o : Option LineFault) → fault before name ≡ o → (o ≡ None → is_there files name ≡ true)
    → AreThere files (right_parts fault (before ++ name ∷ []) later) → AreThere files (right_parts fault before (name ∷ later))
there_by files fault before name later None e there more = subst (AreThere files) (sym (right_more fault before name later e)) (there refl, more)
there_by files fault before name later (Some f) e there more = subst (AreThere files) (sym (right_wrong fault before name later f e)) tt

right_there : (files : List File) (fault : PartFault) (names before : List (List ℕ)) → ((before : List (List ℕ)) (name : List ℕ) → fault before name ≡ None → is_there files name ≡ true) → AreThere files (right_parts fault before names)
right_there files fault [] before h = tt
right_there files fault (n ∷ ns) before h = there_by files fault before n ns (fault before n) refl (h before n) (right_there files fault ns (before ++ n ∷ []) h)

base_there : (name : List ℕ) (f a t : Bool) → cond (not f) (Some (WrongFile BadFileName name)) (cond a (Some (WrongFile DatabaseTwice name)) (cond (not t) (Some (WrongFile (NotOpened Bib) name)) None)) ≡ None → t ≡ true
base_there name f a true h = refl
base_there name false a false h = let wrong : true ≡ false = ap is_some h in cc
base_there name true true false h = let wrong : true ≡ false = ap is_some h in cc
base_there name true false false h = let wrong : true ≡ false = ap is_some h in cc

style_there : (name : List ℕ) (f t : Bool) → cond (not f) (Some (WrongFile BadFileName name)) (cond (not t) (Some (WrongFile (NotOpened Bst) name)) None) ≡ None → t ≡ true
style_there name f true h = refl
style_there name false false h = let wrong : true ≡ false = ap is_some h in cc
style_there name true false h = let wrong : true ≡ false = ap is_some h in cc

first_there : (files : List File) (names : List (List ℕ)) → AreThere files names → IsThere files (slice_get names 0)
first_there files [] h = tt
first_there files (n ∷ ns) h = h.0

-- Jobs

fit_from : (files : List File) (root : List ℕ) (o : Option (List ℕ)) → IsFit files (asked_from files root o)
fit_from files root None = record { keys = tt; star = tt; databases = tt; style = tt }
fit_from files root (Some text) =
    let lines = job_lines files root in
    record {
      keys = distinct_cited lines;
      star = star_within (cited lines);
      databases = right_there files (database_fault files) (database_names (line_parts (first_with Database lines))) [] (λ before name. base_there name (is_file_name name) (is_among before name) (is_there files name));
      style = first_there files (styles files lines)
          (right_there files (style_fault files) (style_names (line_parts (first_with Style lines))) [] (λ before name. style_there name (is_file_name name) (is_there files name)));
    }

-- what is asked for is fit
pub always_fit : AlwaysFit
unfolding citations
always_fit files root = fit_from files (root ++ codes ".aux") (text_of files (root ++ codes ".aux"))

-- what was read is fit
pub reads_fit : (files : List File) (root : List ℕ) (x : Citations) → x ≡ citations files root → IsFit files x
reads_fit files root x is = rw is (always_fit files root)
