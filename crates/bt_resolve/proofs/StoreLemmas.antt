-- One more entry in a store.
use Rattle.std.proofs.Common.{◌≡◌, ◌∙◌, ap, sym, refl, ℕ, Bool, true, false, List, [], ◌∷◌, ◌++◌, map, Option, Some, None}
use Rattle.std.specs.Prelude.{◌||◌, bytes_eq, is_some, option_map, if◌then◌else◌}
use Rattle.std.specs.Map.{lookup}
use Rattle.bt_text.specs.declared.by_name.ByName.{ByName}
use Rattle.bt_text.specs.CaseFolding.{folded, is_same_folded}
use Rattle.bt_text.specs.ByName.{by_small, known, listed, with_entry}
use Rattle.bt_text.proofs.NameLemmas.{more_by_small, absent_by_small, values_by_small, by_small_again}
use Rattle.bt_resolve.specs.declared.stored.Stored.{Stored}
use Rattle.bt_resolve.specs.Values.{is_named}
use Rattle.bt_resolve.specs.Stored.{is_stored}
use Rattle.bt_resolve.specs.inner.Cases.{is_referred_to}
use Rattle.bt_resolve.specs.inner.Store.{IsIndexed, stored_in, with_reference}

abbrev key_of : Stored → List ℕ
key_of s = s.key

-- the entries by their keys, with one more entry
pub stored_next : (entries : List Stored) (s : Stored) (key : List ℕ) (old new : List (List ℕ × Stored)) → old ≡ by_small key_of entries → is_stored entries s.key ≡ false → key ≡ s.key →
    new ≡ with_entry (folded key) s old → new ≡ by_small key_of (entries ++ s ∷ [])
stored_next entries s key old new is absent same more =
    more_by_small key_of s entries old new is (absent_by_small key_of (folded s.key) entries absent) (more ∙ ap (λ (k : List ℕ). with_entry (folded k) s old) same)

pub entries_next : (entries : List Stored) (s : Stored) (new : List (List ℕ × Stored)) → new ≡ by_small key_of (entries ++ s ∷ []) → map (λ e. e.1) new ≡ entries ++ s ∷ []
entries_next entries s new is = ap (λ (es : List (List ℕ × Stored)). map (λ e. e.1) es) is ∙ values_by_small key_of (entries ++ s ∷ [])

swapped : (a b c : Bool) → (a || (b || c)) ≡ (b || (a || c))
swapped true true c = refl
swapped true false c = refl
swapped false true c = refl
swapped false false c = refl

referred-push : (entries : List Stored) (s : Stored) (key : List ℕ) → is_referred_to (entries ++ s ∷ []) key ≡ (is_named s.crossref key || is_referred_to entries key)
referred-push [] s key = refl
referred-push (t ∷ ts) s key =
    ap (λ (b : Bool). is_named t.crossref key || b) (referred-push ts s key)
    ∙ swapped (is_named t.crossref key) (is_named s.crossref key) (is_referred_to ts key)

noted : (b : Bool) (o : Option (Unit {0})) → is_some (if b then Some tt else o) ≡ (b || is_some o)
noted true o = refl
noted false o = refl

by_crossref : (crossref : Option (List ℕ)) (t : List ℕ → Option (Unit {0})) (key : List ℕ) → is_some (with_reference (option_map folded crossref) t key) ≡ (is_named crossref key || is_some (t key))
by_crossref None t key = refl
by_crossref (Some name) t key = noted (is_same_folded name key) (t key)

-- the table of the keys that are referred to with one more entry
pub references_next : (entries : List Stored) (s : Stored) (t u : List ℕ → Option (Unit {0})) → ((key : List ℕ) → is_some (t key) ≡ is_referred_to entries key) → ((key : List ℕ) → u key ≡ with_reference (option_map folded s.crossref) t key) → (key : List ℕ) → is_some (u key) ≡ is_referred_to (entries ++ s ∷ []) key
references_next entries s t u known more key =
    ap (λ (o : Option (Unit {0})). is_some o) (more key)
    ∙ by_crossref s.crossref t key
    ∙ ap (λ (b : Bool). is_named s.crossref key || b) (known key)
    ∙ sym (referred-push entries s key)

-- ---- the tables of a store

-- tables with one more entry, whose key is new
pub record IsNext (entries now : ByName Stored) (referred room noted_now : ByName (Unit {0})) (s : Stored) : Type 0 where
  pub absent : is_stored (stored_in entries) s.key ≡ false
  pub entry : listed now ≡ with_entry (folded s.key) s (listed entries)
  pub same : listed room ≡ listed referred
  pub reference : (key : List ℕ) → known noted_now key ≡ with_reference (option_map folded s.crossref) (known room) key

pub all_stored : (entries now : ByName Stored) (referred room noted_now : ByName (Unit {0})) (s : Stored) → IsIndexed entries referred → IsNext entries now referred room noted_now s → listed now ≡ by_small key_of (stored_in entries ++ s ∷ [])
all_stored entries now referred room noted_now s is next = stored_next (stored_in entries) s s.key (listed entries) (listed now) is.keys_known next.absent refl next.entry

pub indexed_next : (entries now : ByName Stored) (referred room noted_now : ByName (Unit {0})) (s : Stored) → IsIndexed entries referred → IsNext entries now referred room noted_now s → IsIndexed now noted_now
indexed_next entries now referred room noted_now s is next =
    let more = all_stored entries now referred room noted_now s is next in record {
      keys_known = by_small_again key_of (stored_in entries ++ s ∷ []) (listed now) more;
      references_known = λ key.
          references_next (stored_in entries) s (known referred) (known noted_now) is.references_known
          (λ name. next.reference name ∙ ap (λ (ks : List (List ℕ × Unit {0})). with_reference (option_map folded s.crossref) (λ k. lookup (bytes_eq (folded k)) ks) name) next.same) key
          ∙ ap (λ (es : List Stored). is_referred_to es key) (sym (entries_next (stored_in entries) s (listed now) more));
    }
