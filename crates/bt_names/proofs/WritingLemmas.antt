-- Texts that are longer than a limit.
use Rattle.std.proofs.Common.{◌≡◌, ℕ, suc, ◌+◌, ◌-◌, ◌*◌, ◌<◌, ◌≤◌, Bool, true, false, cond, List, [], ◌∷◌, ◌++◌, length, map, take, subst, sym, ap, ◌∙◌, arith, length-append}
use Rattle.std.proofs.lemmas.Bool.{true≢false}
use native.Mathlib.Nat.{suc-mul, zero-mul}
use Rattle.std.proofs.lemmas.List.{length-map, length-take-le, take-append-le}
use Rattle.std.proofs.Math.Seq.{take-append_seam}
use Rattle.bt_names.specs.declared.tokens.Token.{Token}
use Rattle.bt_names.specs.Groups.{ends_in_tie, group_finished, put_in}
use Rattle.bt_names.specs.Joints.{by_text, is_short, joined}
use Rattle.bt_names.specs.inner.Spelling.{between_of, spell}

-- The end of a group takes away one byte at most.
finished_longer : (out : List ℕ) → length out ≤ length (group_finished out) + 1
finished_longer out =
    let front = take (length out - 1) out in
    by_tests (ends_in_tie out) (ends_in_tie front) (is_short front) out
  where
    by_tests : (x y z : Bool) (out : List ℕ) → let front = take (length out - 1) out in length out ≤ length (cond x (cond y front (cond z out (front ++ 32 ∷ []))) out) + 1
    by_tests false y z out = omega arith
    by_tests true true z out = omega (arith, length-take-le (length out - 1) out (omega arith))
    by_tests true false true out = omega arith
    by_tests true false false out =
        let front = take (length out - 1) out in
        omega (arith, length-take-le (length out - 1) out (omega arith), length-append front (32 ∷ []))

-- The text of a group stands before each token but the first.
joined_long : (own out : List ℕ) (ws : List Token) → length out + length ws * length own ≤ length (joined (by_text own) out ws)
joined_long own out [] =
    let none : 0 * length own ≡ 0 = zero-mul (length own) in
    omega (arith, none)
joined_long own out (w ∷ ws) =
    let one : suc (length ws) * length own ≡ length ws * length own + length own = suc-mul (length ws) (length own) in
    omega (arith, one, length-append out own, length-append (out ++ own) w.text, joined_long own ((out ++ own) ++ w.text) ws)

put_in_long : (limit : ℕ) (own before : List ℕ) (ws : List Token) (behind : List ℕ) → limit + 1 < (length ws - 1) * length own → limit < length (put_in (by_text own) before ws behind)
put_in_long limit own before [] behind h =
    let zero_less : length {A = Token} [] - 1 ≡ 0 = omega arith in
    let none : 0 * length own ≡ 0 = zero-mul (length own) in
    let less = subst (λ k. limit + 1 < k * length own) zero_less h in
    absurd (omega (arith, none, less))
put_in_long limit own before (w ∷ ws) behind h =
    let out = joined (by_text own) (before ++ w.text) ws in
    let one_less : length (w ∷ ws) - 1 ≡ length ws = omega arith in
    let less = subst (λ k. limit + 1 < k * length own) one_less h in
    omega (arith, less, joined_long own (before ++ w.text) ws, length-append out behind, finished_longer (out ++ behind))

pub own_longer : (limit : ℕ) (has_own whole : Bool) (own before : List ℕ) (ws : List Token) (behind : List ℕ) → has_own ≡ true → limit + 1 < (length ws - 1) * length own → limit < length (put_in (between_of has_own own whole) before (map (spell whole) ws) behind)
own_longer limit true whole own before ws behind e h =
    let same : length (map (spell whole) ws) ≡ length ws = length-map ws (spell whole) in
    put_in_long limit own before (map (spell whole) ws) behind (subst (λ k. limit + 1 < (k - 1) * length own) (sym same) h)
own_longer limit false whole own before ws behind e h = absurd (true≢false (sym e))

-- Where a piece is longer than the limit, the whole is.
pub piece_longer : (limit : ℕ) (out left given behind old all : List ℕ) → left ≡ given ++ behind → out ++ left ≡ old ++ all → length old ≤ length out → limit < length given → limit < length all
piece_longer limit out left given behind old all cut so_far grown long =
    omega (arith, long, grown, ap length so_far, length-append out left, length-append old all, ap length cut, length-append given behind)

-- Where what was written is longer than the limit, the whole is.
pub written_longer : (limit : ℕ) (out left given behind old all new : List ℕ) → left ≡ given ++ behind → out ++ left ≡ old ++ all → new ≡ out ++ given → limit < length new - length old → limit < length all
written_longer limit out left given behind old all new cut so_far grown long =
    omega (arith, long, ap length grown, length-append out given, ap length so_far, length-append out left, length-append old all, ap length cut, length-append given behind)

-- What was written so far still begins with the old bytes.
pub begins_with : (old out more all : List ℕ) → out ++ more ≡ old ++ all → length old ≤ length out → take (length old) out ≡ old
begins_with old out more all so_far grown =
    sym (take-append-le (length old) out more grown) ∙ ap (λ (l : List ℕ). take (length old) l) so_far ∙ take-append_seam old all

pub still_begins : (old out piece more all new : List ℕ) → out ++ more ≡ old ++ all → length old ≤ length out → new ≡ out ++ piece → take (length old) new ≡ old
still_begins old out piece more all new so_far grown is =
    ap (λ (l : List ℕ). take (length old) l) is ∙ take-append-le (length old) out piece grown ∙ begins_with old out more all so_far grown
