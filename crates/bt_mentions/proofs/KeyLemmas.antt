-- Where entries have their keys.
use Rattle.std.specs.List.{cons_option}
use Rattle.std.proofs.Common.{◌≡◌, ℕ, zero, suc, ◌+◌, ◌<◌, ◌≤◌, ◌==◌, Bool, true, false, cond, List, [], ◌∷◌, ◌++◌, length, drop, get_or, Some, None, refl, sym, ap, subst, ◌∙◌, arith}
use Rattle.std.proofs.lemmas.Bool.{false_from_ne_true}
use Rattle.std.proofs.lemmas.List.{drop_all, drop_more}
use Rattle.memchr.specs.Find.{IsFirstByte, is_byte}
use Rattle.bt_mentions.specs.declared.mention.Mention.{Mention}
use Rattle.bt_mentions.specs.Keys.{entry_key, with_entry_keys}

-- the keys of a text that follows an `@` or another byte
abbrev pub keys_by : Bool → List Mention → ℕ → List ℕ → List Mention
keys_by is_at found o t = with_entry_keys (cond is_at (found ++ cons_option (entry_key t o) []) found) o t

-- No entry begins before the first `@`.
skipped : (found : List Mention) (o k : ℕ) (bs : List ℕ) → ((j : ℕ) → j < k → is_byte 64 (get_or bs j 0) ≡ true → ⊥) → k ≤ length bs →
    with_entry_keys found o bs ≡ with_entry_keys found (o + k) (drop k bs)
skipped found o zero bs n le = ap (λ m. with_entry_keys found m bs) (omega arith)
skipped found o (suc k) [] n le = absurd (omega (arith, le))
skipped found o (suc k) (b ∷ bs) n le =
    ap (λ e. keys_by e found (suc o) bs) (false_from_ne_true (b == 64) (n 0 (omega arith)))
    ∙ skipped found (suc o) k bs (λ j lt. n (suc j) (omega (arith, lt))) (omega (arith, le))
    ∙ ap (λ m. with_entry_keys found m (drop k bs)) (omega arith)

pub no_more : (found : List Mention) (o : ℕ) (bs : List ℕ) → IsFirstByte (is_byte 64) bs None → found ≡ with_entry_keys found o bs
no_more found o bs none =
    sym (skipped found o (length bs) bs (λ j lt. none j (omega arith) (omega (arith, lt))) (omega arith)
    ∙ ap (with_entry_keys found (o + length bs)) (drop_all (length bs) bs (omega arith)))

-- The entry that may begin with the first `@`.
pub found_one : (found : List Mention) (o k m : ℕ) (bs t : List ℕ) → IsFirstByte (is_byte 64) bs (Some k) → t ≡ drop (k + 1) bs → m ≡ o + (k + 1) →
    with_entry_keys (found ++ cons_option (entry_key t m) []) m t ≡ with_entry_keys found o bs
found_one found o k m bs t first rest next =
    let step = skipped found o k bs (λ j lt. first.0.before j (omega arith) (omega (arith, lt))) (omega (arith, first.0.high)) in
    let here : drop k bs ≡ get_or bs k 0 ∷ t = drop_more bs k 0 first.0.high ∙ ap (λ s. get_or bs k 0 ∷ s) (sym rest) in
    let suc_is : suc (o + k) ≡ m = omega (arith, next) in
    ap (λ n. keys_by true found n t) (sym suc_is)
    ∙ ap (λ e. keys_by e found (suc (o + k)) t) (sym first.1)
    ∙ ap (with_entry_keys found (o + k)) (sym here) ∙ sym step
