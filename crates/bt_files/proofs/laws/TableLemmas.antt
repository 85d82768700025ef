-- A session's name leads back to its author's, is admitted, and stays when other names are met.
use Rattle.std.proofs.Common.{◌≡◌, refl, sym, ap, ◌∙◌, ℕ, ◌+◌, ◌<◌, ◌^◌, Bool, true, false, cond, List, [], ◌∷◌, ◌++◌, length, get_or, Option, Some, None, arith, subst}
use Rattle.std.specs.Prelude.{not, ◌||◌, position}
use Rattle.std.specs.List.{position_from}
use Rattle.std.specs.Option.{option_map, is_some}
use Rattle.std.specs.Str.{bytes_eq}
use Rattle.std.proofs.lemmas.Bool.{and_parts, not-true, or_right}
use Rattle.std.proofs.lemmas.List.Quantifiers.{position-Some}
use Rattle.std.proofs.lemmas.Iterator.Adapters.{position_from-zero}
use Rattle.bt_text.specs.NameList.{is_among}
use Rattle.bt_job.specs.FileNames.{is_file_name}
use Rattle.bt_job.proofs.NameLemmas.{same_bytes, name_itself, is_among-append}
use Rattle.bt_files.specs.Names.{is_stand_in, is_own_name, numbered, session_name, stood_for, author_name, with_author}
use Rattle.bt_files.proofs.laws.NumberLemmas.{numbered_admitted}
use Rattle.bt_files.proofs.TableLemmas.{Stands, found, stands}

-- the place of a name
pub placed : (table : List (List ℕ)) (author session : List ℕ) (place : ℕ) → position (λ name. bytes_eq name author) table ≡ Some place
    → numbered (place + 1) author ≡ session → Stands 1 table author session
placed table author session place found same =
    let at : (place < length table) × (bytes_eq (get_or table place []) author ≡ true) × ((k : ℕ) → k < place → bytes_eq (get_or table k []) author ≡ false) =
    position-Some (λ name. bytes_eq name author) table place [] found in
    let next : 1 + place ≡ place + 1 = omega arith in
    record {
      place = place;
      within = at.0;
      there = same_bytes (get_or table place []) author at.1;
      same = ap (λ (n : ℕ). numbered n author) next ∙ same;
    }

-- what is known of a session's name
pub data Known (table : List (List ℕ)) (author session : List ℕ) : Type 0 where
  itself : is_own_name author ≡ true → author ≡ session → Known table author session
  by_number : (place : ℕ) → position (λ name. bytes_eq name author) table ≡ Some place → numbered (place + 1) author ≡ session → Known table author session

pub known : (table : List (List ℕ)) (author session : List ℕ) → session_name table author ≡ Some session → Known table author session
known table author session h = go (is_own_name author) refl (position (λ name. bytes_eq name author) table) refl h
  where
    go : (b : Bool) → is_own_name author ≡ b → (p : Option ℕ) → position (λ name. bytes_eq name author) table ≡ p
        → cond b (Some author) (option_map (λ place. numbered (place + 1) author) p) ≡ Some session → Known table author session
    go true e p is same = itself e (cc)
    go false e None is same = cc
    go false e (Some place) is same = by_number place is (cc)

pub leads_back : (table : List (List ℕ)) (author session : List ℕ) → length table < 2 ^ 64 → session_name table author ≡ Some session
    → author_name table session ≡ Some author
leads_back table author session few h = go (known table author session h)
  where
    go : Known table author session → author_name table session ≡ Some author
    go (itself is same) =
        let parts : (is_file_name author ≡ true) × (not (is_stand_in author) ≡ true) = and_parts (is_file_name author) (not (is_stand_in author)) is in
        subst (λ (s : List ℕ). author_name table s ≡ Some author) same
        (ap (λ (b : Bool). cond b (stood_for 1 table author) (Some author)) (not-true (is_stand_in author) parts.1))
    go (by_number place found same) =
        ap (λ (b : Bool). cond b (stood_for 1 table session) (Some session)) (ap is_stand_in (sym same))
        ∙ stands 1 table author session (omega arith) (placed table author session place found same)

pub is_admitted : (table : List (List ℕ)) (author session : List ℕ) → length table < 2 ^ 64 → session_name table author ≡ Some session
    → is_file_name session ≡ true
is_admitted table author session few h = go (known table author session h)
  where
    go : Known table author session → is_file_name session ≡ true
    go (itself is same) = ap is_file_name (sym same) ∙ (and_parts (is_file_name author) (not (is_stand_in author)) is).0
    go (by_number place found same) =
        let s : Stands 1 table author session = placed table author session place found same in
        let within : s.place < length table = s.within in
        ap is_file_name (sym s.same) ∙ numbered_admitted (1 + s.place) author (omega arith)

-- More names

place_stays : (test : List ℕ → Bool) (i place : ℕ) (table more : List (List ℕ)) → position_from test i table ≡ Some place
    → position_from test i (table ++ more) ≡ Some place
place_stays test i place [] more h = cc
place_stays test i place (name ∷ table) more h = go (test name) h (λ (later : position_from test (i + 1) table ≡ Some place). place_stays test (i + 1) place table more later)
  where
    go : (b : Bool) → cond b (Some i) (position_from test (i + 1) table) ≡ Some place
        → (position_from test (i + 1) table ≡ Some place → position_from test (i + 1) (table ++ more) ≡ Some place)
        → cond b (Some i) (position_from test (i + 1) (table ++ more)) ≡ Some place
    go true h later = h
    go false h later = later h

place_more : (author : List ℕ) (place : ℕ) (table more : List (List ℕ)) → position (λ name. bytes_eq name author) table ≡ Some place
    → position (λ name. bytes_eq name author) (table ++ more) ≡ Some place
place_more author place table more h =
    position_from-zero (λ (name : List ℕ). bytes_eq name author) (table ++ more)
    ∙ place_stays (λ (name : List ℕ). bytes_eq name author) 0 place table more (sym (position_from-zero (λ (name : List ℕ). bytes_eq name author) table) ∙ h)

pub more_names : (table more : List (List ℕ)) (author session : List ℕ) → session_name table author ≡ Some session → session_name (table ++ more) author ≡ Some session
more_names table more author session h = go (is_own_name author) refl (position (λ name. bytes_eq name author) table) refl h
  where
    go : (b : Bool) → is_own_name author ≡ b → (p : Option ℕ) → position (λ name. bytes_eq name author) table ≡ p
        → cond b (Some author) (option_map (λ place. numbered (place + 1) author) p) ≡ Some session → session_name (table ++ more) author ≡ Some session
    go true e p is same =
        ap (λ (b : Bool). cond b (Some author) (option_map (λ place. numbered (place + 1) author) (position (λ name. bytes_eq name author) (table ++ more)))) e ∙ same
    go false e None is same = cc
    go false e (Some place) is same =
        ap (λ (b : Bool). cond b (Some author) (option_map (λ place. numbered (place + 1) author) (position (λ name. bytes_eq name author) (table ++ more)))) e
        ∙ ap (λ (p : Option ℕ). option_map (λ place. numbered (place + 1) author) p) (place_more author place table more is) ∙ same

-- A name stays when another is met.
pub name_stays : (table : List (List ℕ)) (other author session : List ℕ) → session_name table author ≡ Some session
    → session_name (with_author table other) author ≡ Some session
name_stays table other author session h = go (is_own_name other) (is_among table other)
  where
    go : (b c : Bool) → session_name (cond b table (cond c table (table ++ other ∷ []))) author ≡ Some session
    go true c = h
    go false true = h
    go false false = more_names table (other ∷ []) author session h

place_there : (author : List ℕ) (i : ℕ) (table : List (List ℕ)) → is_some (position_from (λ name. bytes_eq name author) i table) ≡ is_among table author
place_there author i [] = refl
place_there author i (name ∷ table) = go (bytes_eq name author) (place_there author (i + 1) table)
  where
    go : (b : Bool) → is_some (position_from (λ name. bytes_eq name author) (i + 1) table) ≡ is_among table author
        → is_some (cond b (Some i) (position_from (λ name. bytes_eq name author) (i + 1) table)) ≡ (b || is_among table author)
    go true h = refl
    go false h = h

some_mapped : (author : List ℕ) (p : Option ℕ) → is_some (option_map (λ place. numbered (place + 1) author) p) ≡ is_some p
some_mapped author None = refl
some_mapped author (Some place) = refl

-- whether there is a name: if the author's name is its own, or in the table
named : (table : List (List ℕ)) (author : List ℕ) → is_some (session_name table author) ≡ (is_own_name author || is_among table author)
named table author = go (is_own_name author)
  where
    go : (b : Bool) → is_some (cond b (Some author) (option_map (λ place. numbered (place + 1) author) (position (λ name. bytes_eq name author) table)))
        ≡ (b || is_among table author)
    go true = refl
    go false =
        some_mapped author (position (λ name. bytes_eq name author) table)
        ∙ ap is_some (position_from-zero (λ (name : List ℕ). bytes_eq name author) table) ∙ place_there author 0 table

-- A name that was met has a session's name.
pub met_named : (table : List (List ℕ)) (author : List ℕ) → is_some (session_name (with_author table author) author) ≡ true
met_named table author = named (with_author table author) author ∙ go (is_own_name author) (is_among table author) refl
  where
    go : (b c : Bool) → is_among table author ≡ c → (b || is_among (cond b table (cond c table (table ++ author ∷ []))) author) ≡ true
    go true c e = refl
    go false true e = e
    go false false e = is_among-append table author author ∙ or_right (is_among table author) (bytes_eq author author) (name_itself author)
