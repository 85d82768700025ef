-- Tables of names, and the lists that they mirror.
use Rattle.std.proofs.Common.{◌≡◌, refl, sym, ap, ◌∙◌, ℕ, ◌||◌, Bool, true, false, cond, List, [], ◌∷◌, ◌++◌}
use Rattle.std.specs.Prelude.{bytes_eq, Vec}
use Rattle.std.specs.List.{list_any}
use Rattle.std.specs.declared.alloc.Global.{Global}
use Rattle.std.specs.Cmp.Lexicographic.{bytes_decides, nat_list_eq_equiv}
use Rattle.indexmap.specs.IndexSet.{insert_key}
use Rattle.bt_text.specs.NameList.{is_among}
use Rattle.bt_job.proofs.NameLemmas.{or_step, or_false, is_among-append}

abbrev pub Keys : Type 0
Keys = List (Vec ℕ Global)

-- whether keys have a name
abbrev pub key_among : List ℕ → Keys → Bool
key_among name keys = list_any (λ key. bytes_eq name key.items) keys

or_absorbs : (a b : Bool) → (b ≡ true → a ≡ true) → a ≡ (a || b)
or_absorbs true b h = refl
or_absorbs false false h = refl
or_absorbs false true h = h refl

-- one more key
among-append : (name : List ℕ) (keys : Keys) (key : Vec ℕ Global) → key_among name (keys ++ key ∷ []) ≡ (key_among name keys || bytes_eq name key.items)
among-append name [] key = or_false (bytes_eq name key.items)
among-append name (k ∷ ks) key = or_step (bytes_eq name k.items) _ (key_among name ks) (bytes_eq name key.items) (among-append name ks key)

-- after a key was added, given whether it was there
among-put : (b : Bool) (name : List ℕ) (keys : Keys) (key : Vec ℕ Global) → key_among key.items keys ≡ b
    → key_among name (cond b keys (keys ++ key ∷ [])) ≡ (key_among name keys || bytes_eq name key.items)
among-put true name keys key h =
    or_absorbs (key_among name keys) (bytes_eq name key.items) (λ same. ap (λ (n : List ℕ). key_among n keys) ((bytes_decides name key.items).0 same) ∙ h)
among-put false name keys key h = among-append name keys key

-- A list with a name appended is mirrored by the table once the name's key is added.
pub noted : (names : List (List ℕ)) (keys after : Keys) (key : Vec ℕ Global) (name : List ℕ) → ((n : List ℕ) → key_among n keys ≡ is_among names n)
    → after ≡ insert_key (λ k m. bytes_eq k.items m.items) keys key → key.items ≡ name → (n : List ℕ) → key_among n after ≡ is_among (names ++ name ∷ []) n
noted names keys after key name mirrors put is n =
    ap (key_among n) put ∙ among-put (key_among key.items keys) n keys key refl
    ∙ ap (λ (b : Bool). b || bytes_eq n key.items) (mirrors n)
    ∙ ap (λ (m : List ℕ). is_among names n || bytes_eq n m) is
    ∙ ap (λ (b : Bool). is_among names n || b) (nat_list_eq_equiv.symm n name)
    ∙ sym (is_among-append names name n)
