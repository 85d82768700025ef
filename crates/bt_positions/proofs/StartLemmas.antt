-- Where lines begin.
use Rattle.std.specs.List.Sorted.{IsNonDecreasingBy}
use Rattle.std.proofs.Common.{◌≡◌, ℕ, zero, suc, ◌+◌, ◌-◌, ◌<◌, ◌≤◌, Bool, true, false, cond, List, [], ◌∷◌, ◌++◌, length, drop, get_or, Some, None, refl, sym, ap, subst, ◌∙◌, append_assoc, append-nil, arith}
use Rattle.std.proofs.lemmas.Grind.{common_steps}
use Rattle.std.proofs.lemmas.List.{drop_all, drop_more}
use Rattle.std.proofs.lemmas.Bool.{false_from_ne_true}
use Rattle.memchr.specs.Find.{IsFirstByte, is_byte, is_byte2}
use Rattle.std.specs.Prelude.{◌==◌, ◌||◌, ◌&&◌, not}
use Rattle.bt_positions.specs.declared.lines.Lines.{Lines}
use Rattle.bt_positions.specs.declared.lines.Lines.TheVariants.{Editor, Bibtex}
use Rattle.bt_positions.specs.Lines.{begins_with_feed, ends_line, place_of_line, line_ends}
use Rattle.bt_positions.specs.inner.LineStarts.{line_starts}

-- the starts of a text whose first byte ends a line or not, by those of the rest, which begins at this offset
abbrev pub starts_by : Bool → ℕ → List ℕ → List ℕ
starts_by e n starts = cond e (n ∷ starts) starts

-- One more byte.
pub one_more : (l : Lines) (xs : List ℕ) (o b : ℕ) (t : List ℕ) →
    (xs ++ cond (ends_line l b t) (suc o ∷ []) []) ++ line_starts l (suc o) t ≡ xs ++ line_starts l o (b ∷ t)
one_more l xs o b t = go (ends_line l b t)
  where
    go : (e : Bool) → (xs ++ cond e (suc o ∷ []) []) ++ line_starts l (suc o) t ≡ xs ++ starts_by e (suc o) (line_starts l (suc o) t)
    go true = append_assoc xs (suc o ∷ []) (line_starts l (suc o) t)
    go false = ap (λ s. s ++ line_starts l (suc o) t) (append-nil xs)

editor_none : (x y z : Bool) → ((x || y) ≡ true → ⊥) → (x || (y && z)) ≡ false
editor_none true y z n = absurd (n refl)
editor_none false true z n = absurd (n refl)
editor_none false false z n = refl

bibtex_none : (x y : Bool) → ((x || y) ≡ true → ⊥) → x ≡ false
bibtex_none true y n = absurd (n refl)
bibtex_none false y n = refl

no_end : (l : Lines) (b : ℕ) (t : List ℕ) → (is_byte2 10 13 b ≡ true → ⊥) → ends_line l b t ≡ false
no_end Editor b t n = editor_none (b == 10) (b == 13) (not (begins_with_feed t)) n
no_end Bibtex b t n = bibtex_none (b == 10) (b == 13) n

-- No line ends before the first LF or CR.
skipped : (l : Lines) (o k : ℕ) (bs : List ℕ) → ((j : ℕ) → j < k → is_byte2 10 13 (get_or bs j 0) ≡ true → ⊥) → k ≤ length bs →
    line_starts l o bs ≡ line_starts l (o + k) (drop k bs)
skipped l o zero bs n le = ap (λ m. line_starts l m bs) (omega arith)
skipped l o (suc k) [] n le = absurd (omega (arith, le))
skipped l o (suc k) (b ∷ bs) n le =
    ap (λ e. starts_by e (suc o) (line_starts l (suc o) bs)) (no_end l b bs (n 0 (omega arith)))
    ∙ skipped l (suc o) k bs (λ j lt. n (suc j) (omega (arith, lt))) (omega (arith, le))
    ∙ ap (λ m. line_starts l m (drop k bs)) (omega arith)

pub no_more : (l : Lines) (o : ℕ) (bs : List ℕ) → IsFirstByte (is_byte2 10 13) bs None → line_starts l o bs ≡ []
no_more l o bs found =
    skipped l o (length bs) bs (λ j lt. found j (omega arith) (omega (arith, lt))) (omega arith)
    ∙ ap (line_starts l (o + length bs)) (drop_all (length bs) bs (omega arith))

-- The line that the first LF or CR may end.
pub found_one : (l : Lines) (xs : List ℕ) (o k m b : ℕ) (bs t : List ℕ) → IsFirstByte (is_byte2 10 13) bs (Some k) → b ≡ get_or bs k 0 → t ≡ drop (k + 1) bs →
    m ≡ o + (k + 1) → (xs ++ cond (ends_line l b t) (m ∷ []) []) ++ line_starts l m t ≡ xs ++ line_starts l o bs
found_one l xs o k m b bs t found is rest next =
    let step = skipped l o k bs (λ j lt. found.0.before j (omega arith) (omega (arith, lt))) (omega (arith, found.0.high)) in
    let here : drop k bs ≡ b ∷ t = drop_more bs k 0 found.0.high ∙ ap (λ x. x ∷ drop (k + 1) bs) (sym is) ∙ ap (λ s. b ∷ s) (sym rest) in
    let suc_is : m ≡ suc (o + k) = omega (arith, next) in
    subst (λ n. (xs ++ cond (ends_line l b t) (n ∷ []) []) ++ line_starts l n t ≡ xs ++ line_starts l o bs) (sym suc_is)
    (one_more l xs (o + k) b t ∙ ap (λ s. xs ++ line_starts l (o + k) s) (sym here) ∙ ap (λ s. xs ++ s) (sym step))

pub first_begins : (l : Lines) (n : ℕ) (t : List ℕ) → n ≡ 0 → 0 ≡ place_of_line l n t
first_begins l zero [] e = refl
first_begins l zero (b ∷ t) e = refl
first_begins l (suc n) t e = absurd (omega (arith, e))

pub place_step : (l : Lines) (n b : ℕ) (t : List ℕ) → place_of_line l (suc n) (b ∷ t) ≡ suc (place_of_line l (cond (ends_line l b t) n (suc n)) t)
place_step l n b t = grind (arith, common_steps)

pub ends_step : (n b : ℕ) (t : List ℕ) → line_ends (suc n) (b ∷ t) ≡ cond (ends_line Editor b t) 1 0 + line_ends n t
ends_step n b t = grind (arith, common_steps)

pub place_within : (l : Lines) (n : ℕ) (t : List ℕ) → place_of_line l n t ≤ length t
place_within l n [] = omega arith
place_within l zero (b ∷ t) = omega arith
place_within l (suc n) (b ∷ t) = subst (λ m. m ≤ suc (length t)) (sym (place_step l n b t)) (go (ends_line l b t) (λ k. place_within l k t))
  where
    go : (e : Bool) → ((k : ℕ) → place_of_line l k t ≤ length t) → suc (place_of_line l (cond e n (suc n)) t) ≤ suc (length t)
    go true later = omega (arith, later n)
    go false later = omega (arith, later (suc n))

-- The line after a start that is there begins at it.
start_is : (l : Lines) (o k d : ℕ) (t : List ℕ) → k < length (line_starts l o t) → o + place_of_line l (suc k) t ≡ get_or (line_starts l o t) k d
start_is l o k d [] p = absurd (omega (arith, p))
start_is l o k d (b ∷ t) p = ap (λ m. o + m) (place_step l k b t) ∙ go (ends_line l b t) (λ m. start_is l (suc o) m d t) k p
  where
    go : (e : Bool) → ((m : ℕ) → m < length (line_starts l (suc o) t) → suc o + place_of_line l (suc m) t ≡ get_or (line_starts l (suc o) t) m d) →
        (k : ℕ) → k < length (starts_by e (suc o) (line_starts l (suc o) t)) →
        o + suc (place_of_line l (cond e k (suc k)) t) ≡ get_or (starts_by e (suc o) (line_starts l (suc o) t)) k d
    go true later zero p = omega (arith, first_begins l 0 t refl)
    go true later (suc k) p = omega (arith, later k (omega (arith, p)))
    go false later k p = omega (arith, later k p)

-- A line after the last start begins at the text's end.
past_is : (l : Lines) (o k : ℕ) (t : List ℕ) → length (line_starts l o t) ≤ k → place_of_line l (suc k) t ≡ length t
past_is l o k [] p = refl
past_is l o k (b ∷ t) p = place_step l k b t ∙ go (ends_line l b t) (λ m. past_is l (suc o) m t) k p
  where
    go : (e : Bool) → ((m : ℕ) → length (line_starts l (suc o) t) ≤ m → place_of_line l (suc m) t ≡ length t) →
        (k : ℕ) → length (starts_by e (suc o) (line_starts l (suc o) t)) ≤ k → suc (place_of_line l (cond e k (suc k)) t) ≡ suc (length t)
    go true later zero p = absurd (omega (arith, p))
    go true later (suc k) p = ap suc (later k (omega (arith, p)))
    go false later k p = ap suc (later k p)

pub start_there : (l : Lines) (n d : ℕ) (t starts : List ℕ) → starts ≡ line_starts l 0 t → 0 < n → n ≤ length starts → get_or starts (n - 1) d ≡ place_of_line l n t
start_there l zero d t starts is some p = absurd (omega (arith, some))
start_there l (suc k) d t starts is some p =
    let there : k < length starts = omega (arith, p) in
    let at = start_is l 0 k d t (subst (λ s. k < length s) is there) in
    let down : k ≡ suc k - 1 = omega arith in
    subst (λ m. get_or starts m d ≡ place_of_line l (suc k) t) down (subst (λ s. get_or s k d ≡ place_of_line l (suc k) t) (sym is) (omega (arith, at)))

pub start_beyond : (l : Lines) (n : ℕ) (t starts : List ℕ) → starts ≡ line_starts l 0 t → length starts < n → length t ≡ place_of_line l n t
start_beyond l zero t starts is p = absurd (omega (arith, p))
start_beyond l (suc k) t starts is p =
    let past : length starts ≤ k = omega (arith, p) in
    sym (past_is l 0 k t (subst (λ s. length s ≤ k) is past))

-- Starts lie behind the begin of the text,
starts_behind : (l : Lines) (o : ℕ) (t : List ℕ) (k d : ℕ) → k < length (line_starts l o t) → o < get_or (line_starts l o t) k d
starts_behind l o [] k d p = absurd (omega (arith, p))
starts_behind l o (b ∷ t) k d p = go (ends_line l b t) (λ m. starts_behind l (suc o) t m d) k p
  where
    go : (e : Bool) → ((m : ℕ) → m < length (line_starts l (suc o) t) → suc o < get_or (line_starts l (suc o) t) m d) →
        (k : ℕ) → k < length (starts_by e (suc o) (line_starts l (suc o) t)) → o < get_or (starts_by e (suc o) (line_starts l (suc o) t)) k d
    go true later zero p = omega arith
    go true later (suc k) p = omega (arith, later k (omega (arith, p)))
    go false later k p = omega (arith, later k p)

-- and rise.
starts_rise : (l : Lines) (o : ℕ) (t : List ℕ) → IsNonDecreasingBy (λ (n : ℕ). n) (line_starts l o t)
starts_rise l o [] i j d le lt = absurd (omega (arith, lt))
starts_rise l o (b ∷ t) i j d le lt = go (ends_line l b t) (λ i j. starts_rise l (suc o) t i j d) (λ m. starts_behind l (suc o) t m d) i j le lt
  where
    go : (e : Bool) → ((i j : ℕ) → i ≤ j → j < length (line_starts l (suc o) t) → get_or (line_starts l (suc o) t) i d ≤ get_or (line_starts l (suc o) t) j d) →
        ((m : ℕ) → m < length (line_starts l (suc o) t) → suc o < get_or (line_starts l (suc o) t) m d) →
        (i j : ℕ) → i ≤ j → j < length (starts_by e (suc o) (line_starts l (suc o) t)) →
        get_or (starts_by e (suc o) (line_starts l (suc o) t)) i d ≤ get_or (starts_by e (suc o) (line_starts l (suc o) t)) j d
    go true later behind zero zero le lt = omega arith
    go true later behind zero (suc j) le lt = omega (arith, behind j (omega (arith, lt)))
    go true later behind (suc i) zero le lt = absurd (omega (arith, le))
    go true later behind (suc i) (suc j) le lt = later i j (omega (arith, le)) (omega (arith, lt))
    go false later behind i j le lt = later i j le lt

pub these_rise : (t starts : List ℕ) → starts ≡ line_starts Editor 0 t → IsNonDecreasingBy (λ (n : ℕ). n) starts
these_rise t starts is = subst (IsNonDecreasingBy (λ (n : ℕ). n)) (sym is) (starts_rise Editor 0 t)

-- The number of starts up to an offset is the number of lines that end before it.
ends_counted : (o n r : ℕ) (t : List ℕ) → r ≤ length (line_starts Editor o t) →
    ((k d : ℕ) → k < r → get_or (line_starts Editor o t) k d ≤ o + n) →
    ((d : ℕ) → r < length (line_starts Editor o t) → o + n < get_or (line_starts Editor o t) r d) → r ≡ line_ends n t
ends_counted o n r [] p below above = omega (arith, p)
ends_counted o zero zero (b ∷ t) p below above = refl
ends_counted o zero (suc r) (b ∷ t) p below above =
    absurd (omega (arith, below 0 0 (omega arith), starts_behind Editor o (b ∷ t) 0 0 (omega (arith, p))))
ends_counted o (suc n) r (b ∷ t) p below above = go (ends_line Editor b t) (λ q. ends_counted (suc o) n q t) r p below above ∙ sym (ends_step n b t)
  where
    go : (e : Bool) →
        ((q : ℕ) → q ≤ length (line_starts Editor (suc o) t) → ((k d : ℕ) → k < q → get_or (line_starts Editor (suc o) t) k d ≤ suc o + n) →
        ((d : ℕ) → q < length (line_starts Editor (suc o) t) → suc o + n < get_or (line_starts Editor (suc o) t) q d) → q ≡ line_ends n t) →
        (r : ℕ) → r ≤ length (starts_by e (suc o) (line_starts Editor (suc o) t)) →
        ((k d : ℕ) → k < r → get_or (starts_by e (suc o) (line_starts Editor (suc o) t)) k d ≤ o + suc n) →
        ((d : ℕ) → r < length (starts_by e (suc o) (line_starts Editor (suc o) t)) → o + suc n < get_or (starts_by e (suc o) (line_starts Editor (suc o) t)) r d) →
        r ≡ cond e 1 0 + line_ends n t
    go true later zero p below above = absurd (omega (arith, above 0 (omega arith)))
    go true later (suc r) p below above =
        let same = later r (omega (arith, p)) (λ k d lt. omega (arith, below (suc k) d (omega (arith, lt)))) (λ d lt. omega (arith, above d (omega (arith, lt)))) in
        omega (arith, same)
    go false later r p below above =
        let same = later r p (λ k d lt. omega (arith, below k d lt)) (λ d lt. omega (arith, above d lt)) in
        omega (arith, same)

pub counted : (n r : ℕ) (t starts : List ℕ) → starts ≡ line_starts Editor 0 t → r ≤ length starts →
    ((k d : ℕ) → k < r → get_or starts k d ≤ n) → ((d : ℕ) → r < length starts → n < get_or starts r d) → r ≡ line_ends n t
counted n r t starts is p below above =
    let none : n ≡ 0 + n = omega arith in
    ends_counted 0 n r t (subst (λ s. r ≤ length s) is p)
    (subst (λ m. (k d : ℕ) → k < r → get_or (line_starts Editor 0 t) k d ≤ m) none (subst (λ s. (k d : ℕ) → k < r → get_or s k d ≤ n) is below))
    (subst (λ m. (d : ℕ) → r < length (line_starts Editor 0 t) → m < get_or (line_starts Editor 0 t) r d) none (subst (λ s. (d : ℕ) → r < length s → n < get_or s r d) is above))

-- Without CR, lines are the same for both.
pub same_ends : (b : ℕ) (t : List ℕ) → (is_byte 13 b ≡ true → ⊥) → ends_line Editor b t ≡ ends_line Bibtex b t
same_ends b t n = grind (arith, common_steps, false_from_ne_true (b == 13) n)

pub same_starts : (o : ℕ) (t : List ℕ) → ((j : ℕ) → j < length t → is_byte 13 (get_or t j 0) ≡ true → ⊥) → line_starts Editor o t ≡ line_starts Bibtex o t
same_starts o [] n = refl
same_starts o (b ∷ t) n =
    ap (λ e. starts_by e (suc o) (line_starts Editor (suc o) t)) (same_ends b t (n 0 (omega arith)))
    ∙ ap (starts_by (ends_line Bibtex b t) (suc o)) (same_starts (suc o) t (λ j lt. n (suc j) (omega (arith, lt))))

pub without_returns : (t : List ℕ) → IsFirstByte (is_byte 13) t None → line_starts Editor 0 t ≡ line_starts Bibtex 0 t
without_returns t none = same_starts 0 t (λ j lt. none j (omega arith) lt)
