-- Tables of names that were met: each of them is found at its own place.
use Rattle.std.proofs.Common.{◌≡◌, refl, sym, ap, ◌∙◌, ℕ, suc, ◌+◌, ◌<◌, ◌^◌, Bool, true, false, cond, List, [], ◌∷◌, ◌++◌, length, get_or, Some, None, arith, add-zero, subst, length-append, inl, inr}
use Rattle.std.specs.Prelude.{not, ◌||◌, position, fold}
use Rattle.std.specs.List.{position_from}
use Rattle.std.specs.Option.{option_map}
use Rattle.std.specs.Str.{bytes_eq}
use Rattle.std.proofs.lemmas.Bool.{and_from, cases_lt}
use Rattle.std.proofs.Math.ListN.{get_or-append}
use Rattle.std.proofs.Math.Seq.{get_or-append_seam}
use Rattle.std.proofs.lemmas.Iterator.Adapters.{position_from-zero}
use Rattle.bt_text.specs.NameList.{is_among}
use Rattle.bt_job.specs.FileNames.{is_file_name}
use Rattle.bt_job.proofs.NameLemmas.{same_bytes, name_itself}
use Rattle.bt_files.specs.Names.{is_stand_in, is_own_name, numbered, session_name, stood_for, author_name, with_author}
use Rattle.bt_files.proofs.TableLemmas.{Stands}
use Rattle.bt_files.proofs.laws.TableLemmas.{leads_back, more_names}

-- each name of a table is found where it is
pub record AreMet (table : List (List ℕ)) : Type 0 where
  pub found : (place : ℕ) → place < length table → session_name table (get_or table place []) ≡ Some (numbered (place + 1) (get_or table place []))

-- the place of a name that is put at the end
last_place : (author : List ℕ) (i : ℕ) (table : List (List ℕ)) → is_among table author ≡ false
    → position_from (λ name. bytes_eq name author) i (table ++ author ∷ []) ≡ Some (i + length table)
last_place author i [] h =
    ap (λ (b : Bool). cond b (Some i) None) (name_itself author) ∙ ap (λ (n : ℕ). Some n) (sym (add-zero i))
last_place author i (name ∷ table) h = go (bytes_eq name author) h (λ (k : is_among table author ≡ false). last_place author (i + 1) table k)
  where
    go : (b : Bool) → (b || is_among table author) ≡ false
        → (is_among table author ≡ false → position_from (λ name. bytes_eq name author) (i + 1) (table ++ author ∷ []) ≡ Some ((i + 1) + length table))
        → cond b (Some i) (position_from (λ name. bytes_eq name author) (i + 1) (table ++ author ∷ [])) ≡ Some (i + length (name ∷ table))
    go true k later = cc
    go false k later =
        let size : (i + 1) + length table ≡ i + length (name ∷ table) = omega arith in
        later k ∙ ap (λ (n : ℕ). Some n) size

last_named : (author : List ℕ) (table : List (List ℕ)) → is_own_name author ≡ false → is_among table author ≡ false
    → session_name (table ++ author ∷ []) author ≡ Some (numbered (length table + 1) author)
last_named author table own absent =
    let size : 0 + length table ≡ length table = omega arith in
    ap (λ (b : Bool). cond b (Some author) (option_map (λ place. numbered (place + 1) author) (position (λ name. bytes_eq name author) (table ++ author ∷ [])))) own
    ∙ ap (option_map (λ place. numbered (place + 1) author))
    (position_from-zero (λ (name : List ℕ). bytes_eq name author) (table ++ author ∷ []) ∙ last_place author 0 table absent ∙ ap (λ (n : ℕ). Some n) size)

one_more : (author : List ℕ) (table : List (List ℕ)) → AreMet table → is_own_name author ≡ false → is_among table author ≡ false → AreMet (table ++ author ∷ [])
one_more author table met own absent =
    record {
      found = λ place within.
          let P : List ℕ → Type 0 = λ a. session_name (table ++ author ∷ []) a ≡ Some (numbered (place + 1) a) in
          elim (cases_lt place (length table)) [
            | inl before ↦
                let is : get_or (table ++ author ∷ []) place [] ≡ get_or table place [] = get_or-append table (author ∷ []) [] place before in
                subst P (sym is) (more_names table (author ∷ []) (get_or table place []) (numbered (place + 1) (get_or table place [])) (met.found place before))
            | inr behind ↦
                let at : place ≡ length table = omega (arith, length-append table (author ∷ [])) in
                let is : get_or (table ++ author ∷ []) place [] ≡ author =
                ap (λ (n : ℕ). get_or (table ++ author ∷ []) n []) at ∙ get_or-append_seam table author [] [] in
                subst P (sym is) (last_named author table own absent ∙ ap (λ (n : ℕ). Some (numbered (n + 1) author)) (sym at))
          ];
    }

met_more : (author : List ℕ) (table : List (List ℕ)) → AreMet table → AreMet (with_author table author)
met_more author table met = go (is_own_name author) refl (is_among table author) refl
  where
    go : (b : Bool) → is_own_name author ≡ b → (c : Bool) → is_among table author ≡ c → AreMet (cond b table (cond c table (table ++ author ∷ [])))
    go true own c among = met
    go false own true among = met
    go false own false among = one_more author table met own among

pub all_met : (names table : List (List ℕ)) → AreMet table → AreMet (fold with_author table names)
all_met [] table met = met
all_met (name ∷ names) table met = all_met names (with_author table name) (met_more name table met)

pub none_met : AreMet []
none_met = record { found = λ place within. absurd (omega arith) }

-- the author's name that is found, at its place
stands_there : (number : ℕ) (table : List (List ℕ)) (author session : List ℕ) → stood_for number table session ≡ Some author → Stands number table author session
stands_there number [] author session h = cc
stands_there number (name ∷ table) author session h =
    go (bytes_eq (numbered number name) session) refl h (λ (k : stood_for (number + 1) table session ≡ Some author). stands_there (number + 1) table author session k)
  where
    go : (b : Bool) → bytes_eq (numbered number name) session ≡ b → cond b (Some name) (stood_for (number + 1) table session) ≡ Some author
        → (stood_for (number + 1) table session ≡ Some author → Stands (number + 1) table author session) → Stands number (name ∷ table) author session
    go true e k later =
        let is : name ≡ author = cc in
        record {
          place = 0;
          within = omega arith;
          there = is;
          same = ap (λ (n : ℕ). numbered n author) (add-zero number) ∙ ap (λ (a : List ℕ). numbered number a) (sym is) ∙ same_bytes (numbered number name) session e;
        }
    go false e k later =
        let s : Stands (number + 1) table author session = later k in
        let within : s.place < length table = s.within in
        let next : number + suc s.place ≡ (number + 1) + s.place = omega arith in
        record { place = suc s.place; within = omega arith; there = s.there; same = ap (λ (n : ℕ). numbered n author) next ∙ s.same }

pub leads_forth : (table : List (List ℕ)) (author session : List ℕ) → AreMet table → is_file_name session ≡ true → author_name table session ≡ Some author
    → session_name table author ≡ Some session
leads_forth table author session met admitted h = go (is_stand_in session) refl h
  where
    go : (b : Bool) → is_stand_in session ≡ b → cond b (stood_for 1 table session) (Some session) ≡ Some author → session_name table author ≡ Some session
    go false e k =
        let is : session ≡ author = cc in
        let own : is_own_name session ≡ true = and_from (is_file_name session) (not (is_stand_in session)) admitted (ap not e) in
        let P : List ℕ → Type 0 = λ a. session_name table a ≡ Some session in
        subst P is (ap (λ (b : Bool). cond b (Some session) (option_map (λ place. numbered (place + 1) session) (position (λ name. bytes_eq name session) table))) own)
    go true e k =
        let s : Stands 1 table author session = stands_there 1 table author session k in
        let next : s.place + 1 ≡ 1 + s.place = omega arith in
        let P : List ℕ → Type 0 = λ a. session_name table a ≡ Some (numbered (s.place + 1) a) in
        subst P s.there (met.found s.place s.within) ∙ ap (λ (n : List ℕ). Some n) (ap (λ (n : ℕ). numbered n author) next ∙ s.same)

pub met_lead_back : (names : List (List ℕ)) (author session : List ℕ) → is_file_name session ≡ true
    → author_name (fold with_author [] names) session ≡ Some author → session_name (fold with_author [] names) author ≡ Some session
met_lead_back names author session admitted h = leads_forth (fold with_author [] names) author session (all_met names [] none_met) admitted h

-- two names of an author have two names in the session
pub differ : (table : List (List ℕ)) (author another session : List ℕ) → length table < 2 ^ 64 → session_name table author ≡ Some session
    → session_name table another ≡ Some session → author ≡ another
differ table author another session few h k =
    let same : Some author ≡ Some another = sym (leads_back table author session few h) ∙ leads_back table another session few k in
    cc
