-- Names that are found by hashing, and the table that they are.
use Rattle.std.proofs.Common.{◌≡◌, refl, sym, ap, ◌∙◌, ℕ, ◌+◌, Bool, true, false, cond, List, [], ◌∷◌, ◌++◌, Option, Some, map, get_or}
use Rattle.std.specs.Prelude.{Vec, bytes_eq, ◌||◌, position}
use Rattle.std.specs.List.{list_any, position_from, slice_get}
use Rattle.std.specs.Option.{option_map}
use Rattle.std.specs.declared.alloc.Global.{Global}
use Rattle.std.specs.Cmp.Lexicographic.{nat_list_eq_equiv}
use Rattle.std.proofs.lemmas.Iterator.Adapters.{position_from-zero}
use Rattle.std.proofs.lemmas.Option.{slice_get-map, get_or_from_slice_get}
use Rattle.indexmap.specs.IndexSet.{insert_key}
use Rattle.bt_text.specs.NameList.{is_among}
use Rattle.bt_job.specs.FileNames.{with_name}
use Rattle.bt_files.specs.Names.{is_own_name, numbered, session_name, with_author}

abbrev pub Keys : Type 0
Keys = List (Vec ℕ Global)

-- the table that keys are
abbrev pub table_of : Keys → List (List ℕ)
table_of keys = map (λ name. name.items) keys

place_from : (author : List ℕ) (keys : Keys) (i : ℕ)
    → position_from (λ (key : Vec ℕ Global). bytes_eq author key.items) i keys ≡ position_from (λ (name : List ℕ). bytes_eq name author) i (table_of keys)
place_from author [] i = refl
place_from author (k ∷ ks) i =
    ap (λ (b : Bool). cond b (Some i) (position_from (λ (key : Vec ℕ Global). bytes_eq author key.items) (i + 1) ks)) (nat_list_eq_equiv.symm author k.items)
    ∙ ap (λ (p : Option ℕ). cond (bytes_eq k.items author) (Some i) p) (place_from author ks (i + 1))

-- the place of a name
pub place_of_key : (author : List ℕ) (keys : Keys)
    → position (λ (key : Vec ℕ Global). bytes_eq author key.items) keys ≡ position (λ (name : List ℕ). bytes_eq name author) (table_of keys)
place_of_key author keys =
    position_from-zero (λ (key : Vec ℕ Global). bytes_eq author key.items) keys ∙ place_from author keys 0
    ∙ sym (position_from-zero (λ (name : List ℕ). bytes_eq name author) (table_of keys))

-- whether a name is there
pub among_keys : (author : List ℕ) (keys : Keys) → list_any (λ (key : Vec ℕ Global). bytes_eq author key.items) keys ≡ is_among (table_of keys) author
among_keys author [] = refl
among_keys author (k ∷ ks) =
    ap (λ (b : Bool). b || list_any (λ (key : Vec ℕ Global). bytes_eq author key.items) ks) (nat_list_eq_equiv.symm author k.items)
    ∙ ap (λ (b : Bool). bytes_eq k.items author || b) (among_keys author ks)

table-append : (keys : Keys) (key : Vec ℕ Global) → table_of (keys ++ key ∷ []) ≡ table_of keys ++ key.items ∷ []
table-append [] key = refl
table-append (k ∷ ks) key = ap (λ (t : List (List ℕ)). k.items ∷ t) (table-append ks key)

-- the session's name of an author's name that needs another one
pub made : (author : List ℕ) (keys : Keys) (table : List (List ℕ)) (place : Option ℕ) → table_of keys ≡ table → is_own_name author ≡ false
    → place ≡ position (λ (key : Vec ℕ Global). bytes_eq author key.items) keys → option_map (λ p. numbered (p + 1) author) place ≡ session_name table author
made author keys table place are own is =
    ap (option_map (λ p. numbered (p + 1) author)) (is ∙ place_of_key author keys ∙ ap (λ (t : List (List ℕ)). position (λ (name : List ℕ). bytes_eq name author) t) are)
    ∙ ap (λ (b : Bool). cond b (Some author) (option_map (λ p. numbered (p + 1) author) (position (λ (name : List ℕ). bytes_eq name author) table))) (sym own)

-- a name that is noted already, or needs no other
pub own_stays : (author : List ℕ) (table : List (List ℕ)) → is_own_name author ≡ true → table ≡ with_author table author
own_stays author table own = ap (λ (b : Bool). cond b table (with_name table author)) (sym own)

pub met_stays : (author : List ℕ) (keys : Keys) (table : List (List ℕ)) → table_of keys ≡ table → is_own_name author ≡ false
    → list_any (λ (key : Vec ℕ Global). bytes_eq author key.items) keys ≡ true → table ≡ with_author table author
met_stays author keys table are own met =
    ap (λ (b : Bool). cond b table (table ++ author ∷ [])) (sym met ∙ among_keys author keys ∙ ap (λ (t : List (List ℕ)). is_among t author) are)
    ∙ ap (λ (b : Bool). cond b table (with_name table author)) (sym own)

-- a name more
pub noted : (author : List ℕ) (keys after : Keys) (key : Vec ℕ Global) (table : List (List ℕ)) → table_of keys ≡ table → is_own_name author ≡ false
    → list_any (λ (k : Vec ℕ Global). bytes_eq author k.items) keys ≡ false → key.items ≡ author
    → after ≡ insert_key (λ k m. bytes_eq k.items m.items) keys key → table_of after ≡ with_author table author
noted author keys after key table are own new is put =
    let absent : list_any (λ (k : Vec ℕ Global). bytes_eq key.items k.items) keys ≡ false =
    ap (λ (n : List ℕ). list_any (λ (k : Vec ℕ Global). bytes_eq n k.items) keys) is ∙ new in
    let lacks : is_among table author ≡ false = ap (λ (t : List (List ℕ)). is_among t author) (sym are) ∙ sym (among_keys author keys) ∙ new in
    ap table_of (put ∙ ap (λ (b : Bool). cond b keys (keys ++ key ∷ [])) absent) ∙ table-append keys key
    ∙ ap (λ (n : List ℕ). table_of keys ++ n ∷ []) is ∙ ap (λ (t : List (List ℕ)). t ++ author ∷ []) are
    ∙ ap (λ (b : Bool). cond b table (table ++ author ∷ [])) (sym lacks)
    ∙ ap (λ (b : Bool). cond b table (with_name table author)) (sym own)

-- the name at a place
pub at_key : (keys : Keys) (place : ℕ) (key : Vec ℕ Global) (table : List (List ℕ)) → table_of keys ≡ table → slice_get keys place ≡ Some key
    → get_or table place [] ≡ key.items
at_key keys place key table are is =
    get_or_from_slice_get table place key.items []
    (ap (λ (t : List (List ℕ)). slice_get t place) (sym are) ∙ slice_get-map (λ (name : Vec ℕ Global). name.items) keys place
    ∙ ap (option_map (λ (name : Vec ℕ Global). name.items)) is)
