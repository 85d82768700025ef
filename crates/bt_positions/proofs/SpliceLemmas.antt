-- Line starts after a part of a text is replaced.
use Rattle.std.specs.List.{AllByRecursion}
use Rattle.std.proofs.Common.{◌≡◌, ◌∙◌, ◌==◌, ℕ, zero, suc, ◌+◌, ◌-◌, ◌^◌, ◌<◌, ◌≤◌, Bool, true, false, cond, List, [], ◌∷◌, ◌++◌, length, take, drop, get_or, None, refl, sym, ap, subst, length-append, length-drop, arith}
use Rattle.std.proofs.lemmas.List.{length-take-le}
use Rattle.memchr.specs.Find.{IsFirstByte, is_byte}
use Rattle.bt_positions.specs.declared.lines.Lines.{Lines}
use Rattle.bt_positions.specs.declared.lines.Lines.TheVariants.{Editor, Bibtex}
use Rattle.bt_positions.specs.Lines.{ends_line, line_ends}
use Rattle.bt_positions.specs.inner.LineStarts.{line_starts, moved, CanMove}
use Rattle.bt_positions.proofs.StartLemmas.{starts_by, ends_step, same_ends, same_starts}

-- The starts of two joined texts.
joined : (o : ℕ) (s t : List ℕ) → line_starts Bibtex o (s ++ t) ≡ line_starts Bibtex o s ++ line_starts Bibtex (o + length s) t
joined o [] t = ap (λ m. line_starts Bibtex m t) (omega arith)
joined o (b ∷ s) t =
    ap (starts_by (b == 10) (suc o)) (joined (suc o) s t ∙ ap (λ m. line_starts Bibtex (suc o) s ++ line_starts Bibtex m t) (omega arith))
    ∙ go (b == 10) (line_starts Bibtex (suc o) s)
  where
    go : (e : Bool) (xs : List ℕ) → starts_by e (suc o) (xs ++ line_starts Bibtex (o + suc (length s)) t) ≡ starts_by e (suc o) xs ++ line_starts Bibtex (o + suc (length s)) t
    go true xs = refl
    go false xs = refl

-- The starts behind an offset of a text without CR,
behind : (o n : ℕ) (t : List ℕ) → ((j : ℕ) → j < length t → is_byte 13 (get_or t j 0) ≡ true → ⊥) →
    drop (line_ends n t) (line_starts Editor o t) ≡ line_starts Bibtex (o + n) (drop n t)
behind o zero [] none = refl
behind o zero (b ∷ t) none = same_starts o (b ∷ t) none ∙ ap (λ m. line_starts Bibtex m (b ∷ t)) (omega arith)
behind o (suc n) [] none = refl
behind o (suc n) (b ∷ t) none =
    ap (λ k. drop k (line_starts Editor o (b ∷ t))) (ends_step n b t) ∙ go (ends_line Editor b t)
    ∙ behind (suc o) n t (λ j lt. none (suc j) (omega (arith, lt))) ∙ ap (λ m. line_starts Bibtex m (drop n t)) (omega arith)
  where
    go : (e : Bool) → drop (cond e 1 0 + line_ends n t) (starts_by e (suc o) (line_starts Editor (suc o) t)) ≡ drop (line_ends n t) (line_starts Editor (suc o) t)
    go true = let one : 1 + line_ends n t ≡ suc (line_ends n t) = omega arith in ap (λ k. drop k (suc o ∷ line_starts Editor (suc o) t)) one
    go false = ap (λ k. drop k (line_starts Editor (suc o) t)) (omega arith)

-- and those up to it.
before : (o n : ℕ) (t : List ℕ) → ((j : ℕ) → j < length t → is_byte 13 (get_or t j 0) ≡ true → ⊥) →
    take (line_ends n t) (line_starts Editor o t) ≡ line_starts Bibtex o (take n t)
before o zero [] none = refl
before o zero (b ∷ t) none = refl
before o (suc n) [] none = refl
before o (suc n) (b ∷ t) none =
    ap (λ k. take k (line_starts Editor o (b ∷ t))) (ends_step n b t)
    ∙ go (ends_line Editor b t)
    ∙ ap (starts_by (ends_line Editor b t) (suc o)) (before (suc o) n t (λ j lt. none (suc j) (omega (arith, lt))))
    ∙ ap (λ e. starts_by e (suc o) (line_starts Bibtex (suc o) (take n t))) (same_ends b t (none 0 (omega arith)))
  where
    go : (e : Bool) → take (cond e 1 0 + line_ends n t) (starts_by e (suc o) (line_starts Editor (suc o) t)) ≡ starts_by e (suc o) (take (line_ends n t) (line_starts Editor (suc o) t))
    go true = let one : 1 + line_ends n t ≡ suc (line_ends n t) = omega arith in ap (λ k. take k (suc o ∷ line_starts Editor (suc o) t)) one
    go false = ap (λ k. take k (line_starts Editor (suc o) t)) (omega arith)

-- Starts move with their text.
moves : (l : Lines) (from to k : ℕ) (t : List ℕ) → moved from to (line_starts l (from + k) t) ≡ line_starts l (to + k) t
moves l from to k [] = refl
moves l from to k (b ∷ t) =
    go (ends_line l b t) (ap (λ m. moved from to (line_starts l m t)) (omega arith) ∙ moves l from to (suc k) t)
    ∙ ap (λ m. starts_by (ends_line l b t) m (line_starts l m t)) (omega arith)
  where
    go : (e : Bool) → moved from to (line_starts l (suc (from + k)) t) ≡ line_starts l (to + suc k) t →
        moved from to (starts_by e (suc (from + k)) (line_starts l (suc (from + k)) t)) ≡ starts_by e (to + suc k) (line_starts l (to + suc k) t)
    go true rest = ap (λ m. m ∷ moved from to (line_starts l (suc (from + k)) t)) (omega arith) ∙ ap (λ xs. (to + suc k) ∷ xs) rest
    go false rest = rest

can_move : (l : Lines) (from to o : ℕ) (t : List ℕ) → from ≤ o → o + length t - from + to < 2 ^ 64 → AllByRecursion (CanMove from to) (line_starts l o t)
can_move l from to o [] low high = tt
can_move l from to o (b ∷ t) low high =
    go (ends_line l b t) (omega (arith, low), omega (arith, low, high)) (can_move l from to (suc o) t (omega (arith, low)) (omega (arith, low, high)))
  where
    go : (e : Bool) → CanMove from to (suc o) → AllByRecursion (CanMove from to) (line_starts l (suc o) t) → AllByRecursion (CanMove from to) (starts_by e (suc o) (line_starts l (suc o) t))
    go true first rest = (first, rest)
    go false first rest = rest

-- The parts of a text after a part of it is replaced: their starts can move, and are those of the text.
new_length : (s e : ℕ) (n t : List ℕ) → s ≤ length t → length (take s t ++ n ++ drop e t) ≡ s + length n + (length t - e)
new_length s e n t le =
    omega (arith, length-append (take s t ++ n) (drop e t), length-append (take s t) n, length-take-le s t le, length-drop e t)

pub inner_moves : (s e : ℕ) (n t inner : List ℕ) → inner ≡ line_starts Bibtex 0 n → s ≤ e → e ≤ length t → length (take s t ++ n ++ drop e t) < 2 ^ 64 →
    AllByRecursion (CanMove 0 s) inner
inner_moves s e n t inner is in_order within room =
    subst (AllByRecursion (CanMove 0 s)) (sym is) (can_move Bibtex 0 s 0 n (omega arith) (omega (arith, room, new_length s e n t (omega (arith, in_order, within)))))

back_is : (e k : ℕ) (t starts back : List ℕ) → starts ≡ line_starts Editor 0 t → IsFirstByte (is_byte 13) t None → k ≡ line_ends e t → back ≡ drop k starts →
    back ≡ line_starts Bibtex e (drop e t)
back_is e k t starts back all none counts is =
    is ∙ ap (λ m. drop m starts) counts ∙ ap (drop (line_ends e t)) all ∙ behind 0 e t (λ j lt. none j (omega arith) lt) ∙ ap (λ m. line_starts Bibtex m (drop e t)) (omega arith)

pub back_moves : (s e k : ℕ) (n t starts back : List ℕ) → starts ≡ line_starts Editor 0 t → IsFirstByte (is_byte 13) t None → k ≡ line_ends e t → back ≡ drop k starts →
    s ≤ e → e ≤ length t → length (take s t ++ n ++ drop e t) < 2 ^ 64 → AllByRecursion (CanMove e (s + length n)) back
back_moves s e k n t starts back all none counts is in_order within room =
    subst (AllByRecursion (CanMove e (s + length n))) (sym (back_is e k t starts back all none counts is))
    (can_move Bibtex e (s + length n) e (drop e t) (omega arith) (omega (arith, within, room, length-drop e t, new_length s e n t (omega (arith, in_order, within)))))

pub starts_are : (s e j k : ℕ) (n t starts front inner back : List ℕ) → starts ≡ line_starts Editor 0 t → IsFirstByte (is_byte 13) t None →
    j ≡ line_ends s t → front ≡ take j starts → inner ≡ line_starts Bibtex 0 n → k ≡ line_ends e t → back ≡ drop k starts → s ≤ e → e ≤ length t →
    front ++ moved 0 s inner ++ moved e (s + length n) back ≡ line_starts Bibtex 0 (take s t ++ n ++ drop e t)
starts_are s e j k n t starts front inner back all none ends first is counts last in_order within =
    (λ i. one i ++ two i ++ three i)
    ∙ ap (λ x. x ++ line_starts Bibtex (0 + length (take s t ++ n)) (drop e t)) (sym (joined 0 (take s t) n)) ∙ sym (joined 0 (take s t ++ n) (drop e t))
  where
    one : front ≡ line_starts Bibtex 0 (take s t)
    one = first ∙ ap (λ m. take m starts) ends ∙ ap (take (line_ends s t)) all ∙ before 0 s t (λ j lt. none j (omega arith) lt)

    two : moved 0 s inner ≡ line_starts Bibtex (0 + length (take s t)) n
    two = ap (moved 0 s) is ∙ moves Bibtex 0 s 0 n ∙ ap (λ m. line_starts Bibtex m n) (omega (arith, length-take-le s t (omega (arith, in_order, within))))

    three : moved e (s + length n) back ≡ line_starts Bibtex (0 + length (take s t ++ n)) (drop e t)
    three =
        ap (moved e (s + length n)) (back_is e k t starts back all none counts last ∙ ap (λ m. line_starts Bibtex m (drop e t)) (omega arith))
        ∙ moves Bibtex e (s + length n) 0 (drop e t)
        ∙ ap (λ m. line_starts Bibtex m (drop e t)) (omega (arith, length-append (take s t) n, length-take-le s t (omega (arith, in_order, within))))
