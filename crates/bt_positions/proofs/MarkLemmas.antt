-- Lines, and the marks of a text.
use Rattle.std.proofs.Common.{◌≡◌, ℕ, zero, suc, ◌+◌, ◌-◌, ◌*◌, ◌≤◌, ◌<◌, Bool, true, false, cond, min, List, [], ◌∷◌, ◌++◌, length, take, drop, get_or, refl, ap, sym, subst, inl, inr, ◌⊎◌, ◌∙◌, arith, length-append, length-drop, add-one, ◌/◌}
use Rattle.std.proofs.Math.Nat.{mul-div-le}
use Rattle.std.proofs.Math.ListN.{get_or-append}
use Rattle.std.proofs.Math.Seq.{get_or-append_seam}
use Rattle.std.proofs.lemmas.Bool.{cases_lt}
use Rattle.std.proofs.lemmas.List.{length-take, drop-drop}
use Rattle.std.proofs.lemmas.Grind.{common_steps}
use Rattle.bt_positions.specs.declared.counting.Counting.{Counting}
use Rattle.bt_positions.specs.declared.counting.Counting.TheVariants.{Utf8, LatinAsUtf16}
use Rattle.bt_positions.specs.declared.lines.Lines.TheVariants.{Editor}
use Rattle.bt_positions.specs.Units.{width, fitting}
use Rattle.bt_positions.specs.Lines.{ends_line, place_of_line, line_ends, first_line}
use Rattle.bt_positions.specs.inner.Marks.{line_start, character_at, marks_of, LeadsTo}
use Rattle.bt_positions.proofs.LineLemmas.{first_within}
use Rattle.bt_positions.proofs.StartLemmas.{first_begins, place_step, ends_step, place_within}
use Rattle.bt_positions.proofs.WidthLemmas.{width_take, width_few, width_single, fitting_skip}

-- A line begins before the offsets in it.
pub start_before : (n : ℕ) (t : List ℕ) → place_of_line Editor (line_ends n t) t ≤ n
start_before n [] = grind (arith, common_steps)
start_before zero (b ∷ t) = grind (arith, common_steps)
start_before (suc n) (b ∷ t) = grind (arith, common_steps, start_before n t)

next_true : (k b : ℕ) (t : List ℕ) → ends_line Editor b t ≡ true → place_of_line Editor (suc k) (b ∷ t) ≡ suc (place_of_line Editor k t)
next_true k b t ends = place_step Editor k b t ∙ ap (λ e. suc (place_of_line Editor (cond e k (suc k)) t)) ends

next_false : (k b : ℕ) (t : List ℕ) → ends_line Editor b t ≡ false → place_of_line Editor (suc k) (b ∷ t) ≡ suc (place_of_line Editor (suc k) t)
next_false k b t ends = place_step Editor k b t ∙ ap (λ e. suc (place_of_line Editor (cond e k (suc k)) t)) ends

ends_true : (n b : ℕ) (t : List ℕ) → ends_line Editor b t ≡ true → line_ends (suc n) (b ∷ t) ≡ suc (line_ends n t)
ends_true n b t ends = ends_step n b t ∙ ap (λ e. cond e 1 0 + line_ends n t) ends ∙ omega arith

ends_false : (n b : ℕ) (t : List ℕ) → ends_line Editor b t ≡ false → line_ends (suc n) (b ∷ t) ≡ line_ends n t
ends_false n b t ends = ends_step n b t ∙ ap (λ e. cond e 1 0 + line_ends n t) ends ∙ omega arith

-- The rest of a text has an offset's line where the text has it.
start_rest : (k p b : ℕ) (t : List ℕ) → (e : Bool) → ends_line Editor b t ≡ e → place_of_line Editor (cond e 1 0 + k) (b ∷ t) ≤ suc p →
    place_of_line Editor k t ≤ p
start_rest k p b t true ends at =
    let more : 1 + k ≡ suc k = omega arith in
    let next = subst (λ m. place_of_line Editor m (b ∷ t) ≤ suc p) more at in
    omega (arith, next, next_true k b t ends)
start_rest zero p b t false ends at = omega (arith, first_begins Editor 0 t refl)
start_rest (suc k) p b t false ends at =
    let none : 0 + suc k ≡ suc k = omega arith in
    let next = subst (λ m. place_of_line Editor m (b ∷ t) ≤ suc p) none at in
    omega (arith, next, next_false k b t ends)

-- An offset after the beginning of another one's line, and not after that one, is in the same line.
pub same_line : (p n : ℕ) (t : List ℕ) → p ≤ n → place_of_line Editor (line_ends n t) t ≤ p → line_ends p t ≡ line_ends n t
same_line p n [] le at = refl
same_line zero zero (b ∷ t) le at = refl
same_line (suc p) zero (b ∷ t) le at = absurd (omega (arith, le))
same_line zero (suc n) (b ∷ t) le at = grind (arith, common_steps)
same_line (suc p) (suc n) (b ∷ t) le at =
    let at_rest = subst (λ m. place_of_line Editor m (b ∷ t) ≤ suc p) (ends_step n b t) at in
    let rest = same_line p n t (omega (arith, le)) (start_rest (line_ends n t) p b t (ends_line Editor b t) refl at_rest) in
    ends_step p b t ∙ ap (λ m. cond (ends_line Editor b t) 1 0 + m) rest ∙ sym (ends_step n b t)

-- The line of an offset that lies between the beginnings of two lines.
pub in_line : (k p : ℕ) (t : List ℕ) → place_of_line Editor k t ≤ p → p < place_of_line Editor (suc k) t → line_ends p t ≡ k
in_line k p [] le lt = absurd (omega (arith, lt))
in_line zero zero (b ∷ t) le lt = refl
in_line (suc k) zero (b ∷ t) le lt = absurd (omega (arith, le, place_step Editor k b t))
in_line zero (suc p) (b ∷ t) le lt = go (ends_line Editor b t) refl (λ below. in_line zero p t (omega (arith, first_begins Editor 0 t refl)) below)
  where
    go : (e : Bool) → ends_line Editor b t ≡ e → (p < place_of_line Editor 1 t → line_ends p t ≡ 0) → line_ends (suc p) (b ∷ t) ≡ 0
    go true ends later = absurd (omega (arith, lt, next_true 0 b t ends, first_begins Editor 0 t refl))
    go false ends later = ends_false p b t ends ∙ later (omega (arith, lt, next_false 0 b t ends))
in_line (suc k) (suc p) (b ∷ t) le lt = go (ends_line Editor b t) refl (in_line k p t) (in_line (suc k) p t)
  where
    go : (e : Bool) → ends_line Editor b t ≡ e →
        (place_of_line Editor k t ≤ p → p < place_of_line Editor (suc k) t → line_ends p t ≡ k) →
        (place_of_line Editor (suc k) t ≤ p → p < place_of_line Editor (suc (suc k)) t → line_ends p t ≡ suc k) →
        line_ends (suc p) (b ∷ t) ≡ suc k
    go true ends ended same =
        ends_true p b t ends ∙ ap suc (ended (omega (arith, le, next_true k b t ends)) (omega (arith, lt, next_true (suc k) b t ends)))
    go false ends ended same =
        ends_false p b t ends ∙ same (omega (arith, le, next_false k b t ends)) (omega (arith, lt, next_false (suc k) b t ends))

first_end_short : (t : List ℕ) → place_of_line Editor 1 t ≤ length (first_line t) + 2
first_end_short [] = omega arith
first_end_short (b ∷ []) = grind (arith, common_steps)
first_end_short (b ∷ d ∷ t) = grind (arith, common_steps, first_end_short (d ∷ t))

-- A line's end has at most two bytes.
pub end_short : (k : ℕ) (t : List ℕ) → place_of_line Editor (suc k) t ≤ place_of_line Editor k t + length (first_line (drop (place_of_line Editor k t) t)) + 2
end_short k [] = omega arith
end_short zero (b ∷ t) = omega (arith, first_end_short (b ∷ t))
end_short (suc k) (b ∷ t) = go (ends_line Editor b t) refl (end_short k t) (end_short (suc k) t)
  where
    go : (e : Bool) → ends_line Editor b t ≡ e →
        place_of_line Editor (suc k) t ≤ place_of_line Editor k t + length (first_line (drop (place_of_line Editor k t) t)) + 2 →
        place_of_line Editor (suc (suc k)) t ≤ place_of_line Editor (suc k) t + length (first_line (drop (place_of_line Editor (suc k) t) t)) + 2 →
        place_of_line Editor (suc (suc k)) (b ∷ t) ≤ place_of_line Editor (suc k) (b ∷ t) + length (first_line (drop (place_of_line Editor (suc k) (b ∷ t)) (b ∷ t))) + 2
    go true ends ended same =
        subst (λ m. place_of_line Editor (suc (suc k)) (b ∷ t) ≤ m + length (first_line (drop m (b ∷ t))) + 2) (sym (next_true k b t ends))
        (omega (arith, ended, next_true (suc k) b t ends))
    go false ends ended same =
        subst (λ m. place_of_line Editor (suc (suc k)) (b ∷ t) ≤ m + length (first_line (drop m (b ∷ t))) + 2) (sym (next_false k b t ends))
        (omega (arith, same, next_false (suc k) b t ends))

-- The units before an offset in its line, by those before an offset that isn't before the line's beginning.
pub counted_on : (c : Counting) (p n : ℕ) (t : List ℕ) → p ≤ n → line_start n t ≤ p →
    character_at c n t ≡ character_at c p t + width c (take (n - p) (drop p t))
counted_on c p n t le at =
    let s = place_of_line Editor (line_ends n t) t in
    let start : s ≤ n = start_before n t in
    let is_start : min s n ≡ s = omega (arith, start) in
    let begins : s ≤ p = omega (arith, at, is_start) in
    let same : place_of_line Editor (line_ends p t) t ≡ s = ap (λ k. place_of_line Editor k t) (same_line p n t le begins) in
    let is_same : min (place_of_line Editor (line_ends p t) t) p ≡ s = omega (arith, same, begins) in
    let parts : n - s ≡ (p - s) + (n - p) = omega (arith, begins, le) in
    let there : s + (p - s) ≡ p = omega (arith, begins) in
    ap (λ m. width c (take (n - m) (drop m t))) is_start
    ∙ ap (λ m. width c (take m (drop s t))) parts
    ∙ width_take c (p - s) (n - p) (drop s t)
    ∙ ap (λ r. width c (take (p - s) (drop s t)) + width c (take (n - p) r)) (drop-drop (p - s) s t ∙ ap (λ m. drop m t) there)
    ∙ ap (λ m. width c (take (p - m) (drop m t)) + width c (take (n - p) (drop p t))) (sym is_same)

pub character_few : (c : Counting) (n : ℕ) (t : List ℕ) → character_at c n t ≤ 2 * length t
character_few c n t =
    let s = line_start n t in
    omega (arith, width_few c (take (n - s) (drop s t)), length-take (n - s) (drop s t), length-drop s t)

-- What a mark is.
pub length_marks : (c : Counting) (n : ℕ) (t : List ℕ) → length (marks_of c n t) ≡ n
length_marks c zero t = refl
length_marks c (suc n) t = length-append (marks_of c n t) _ ∙ omega (arith, length_marks c n t)

mark_at : (c : Counting) (n k : ℕ) (t : List ℕ) → k < n → get_or (marks_of c n t) k 0 ≡ character_at c (2048 * suc k) t
mark_at c zero k t lt = absurd (omega (arith, lt))
mark_at c (suc n) k t lt = go (cases_lt k n) (mark_at c n k t)
  where
    go : (k < n) ⊎ (n ≤ k) → (k < n → get_or (marks_of c n t) k 0 ≡ character_at c (2048 * suc k) t) →
        get_or (marks_of c n t ++ (character_at c (2048 * suc n) t ∷ [])) k 0 ≡ character_at c (2048 * suc k) t
    go (inl below) later = get_or-append (marks_of c n t) _ 0 k (omega (arith, below, length_marks c n t)) ∙ later below
    go (inr last) later =
        let is : k ≡ length (marks_of c n t) = omega (arith, lt, last, length_marks c n t) in
        let number : n ≡ k = omega (arith, lt, last) in
        ap (λ j. get_or (marks_of c n t ++ (character_at c (2048 * suc n) t ∷ [])) j 0) is
        ∙ get_or-append_seam (marks_of c n t) _ [] 0
        ∙ ap (λ j. character_at c (2048 * suc j) t) number

mark_is : (c : Counting) (m : ℕ) (marks t : List ℕ) → marks ≡ marks_of c (length marks) t → 0 < m → m ≤ length marks →
    get_or marks (m - 1) 0 ≡ character_at c (m * 2048) t
mark_is c zero marks t are some le = absurd (omega (arith, some))
mark_is c (suc k) marks t are some le =
    let down : suc k - 1 ≡ k = omega arith in
    let place : 2048 * suc k ≡ suc k * 2048 = omega arith in
    ap (λ j. get_or marks j 0) down ∙ ap (λ l. get_or l k 0) are ∙ mark_at c (length marks) k t (omega (arith, le)) ∙ ap (λ p. character_at c p t) place

-- The units before an offset in its line, by the last mark before it in that line.
pub by_mark : (c : Counting) (m start n w : ℕ) (marks t : List ℕ) → marks ≡ marks_of c (length marks) t → start ≡ line_start n t →
    m ≡ min (n / 2048) (length marks) → start < m * 2048 → w ≡ width c (take (n - m * 2048) (drop (m * 2048) t)) →
    get_or marks (m - 1) 0 + w ≡ character_at c n t
by_mark c m start n w marks t are begins last behind counted =
    let le : m * 2048 ≤ n = omega (arith, last, mul-div-le n 2048) in
    let at : line_start n t ≤ m * 2048 = omega (arith, begins, behind) in
    ap (λ u. u + w) (mark_is c m marks t are (omega (arith, behind)) (omega (arith, last)))
    ∙ ap (λ u. character_at c (m * 2048) t + u) counted
    ∙ sym (counted_on c (m * 2048) n t le at)

-- A spot of a line from which its characters are found.
leads_to : (c : Counting) (n start p u : ℕ) (t : List ℕ) → start ≤ length t → start ≤ p → p ≤ start + length (first_line (drop start t)) →
    u ≡ width c (take (p - start) (drop start t)) → u ≤ n → LeadsTo c n start t (record { place = p; units = u })
leads_to c n start p u t at le short is fits =
    let m = p - start in
    let s = drop start t in
    let there : start + m ≡ p = omega (arith, le) in
    let rest : drop m s ≡ drop p t = drop-drop m start t ∙ ap (λ k. drop k t) there in
    let skip = fitting_skip c n m s (omega (arith, le, short)) (omega (arith, is, fits)) in record {
      before = fits;
      within = omega (arith, at, short, first_within s, length-drop start t);
      same = omega (arith, there, skip, ap (λ r. fitting c (n - u) (first_line r)) rest, ap (λ v. fitting c (n - v) (first_line (drop m s))) is);
    }

pub begin_leads : (c : Counting) (n k start : ℕ) (t : List ℕ) → start ≡ place_of_line Editor k t → LeadsTo c n start t (record { place = start; units = 0 })
begin_leads c n k start t begins =
    let none : start - start ≡ 0 = omega arith in
    leads_to c n start start 0 t (omega (arith, begins, place_within Editor k t)) (omega arith) (omega arith)
    (sym (ap (λ m. width c (take m (drop start t))) none)) (omega arith)

line_short : (k start next : ℕ) (t : List ℕ) → start ≡ place_of_line Editor k t → next ≡ place_of_line Editor (k + 1) t →
    next ≤ start + length (first_line (drop start t)) + 2
line_short k start next t begins ends =
    let after : next ≡ place_of_line Editor (suc k) t = ends ∙ ap (λ m. place_of_line Editor m t) (add-one k) in
    subst (λ s. next ≤ s + length (first_line (drop s t)) + 2) (sym begins) (omega (arith, after, end_short k t))

pub mark_leads : (c : Counting) (n k start next m : ℕ) (marks t : List ℕ) → marks ≡ marks_of c (length marks) t →
    start ≡ place_of_line Editor k t → next ≡ place_of_line Editor (k + 1) t → start < m * 2048 → m * 2048 + 2 ≤ next → m ≤ length marks →
    get_or marks (m - 1) 0 ≤ n → LeadsTo c n start t (record { place = m * 2048; units = get_or marks (m - 1) 0 })
mark_leads c n k start next m marks t are begins ends behind before le fits =
    let p = m * 2048 in
    let after : next ≡ place_of_line Editor (suc k) t = ends ∙ ap (λ j. place_of_line Editor j t) (add-one k) in
    let line : line_ends p t ≡ k = in_line k p t (omega (arith, begins, behind)) (omega (arith, after, before)) in
    let same : place_of_line Editor (line_ends p t) t ≡ start = ap (λ j. place_of_line Editor j t) line ∙ sym begins in
    let is_start : line_start p t ≡ start = omega (arith, same, behind) in
    leads_to c n start p _ t (omega (arith, begins, place_within Editor k t)) (omega (arith, behind))
    (omega (arith, line_short k start next t begins ends, before))
    (mark_is c m marks t are (omega (arith, behind)) le ∙ ap (λ s. width c (take (p - s) (drop s t))) is_start) fits

pub single_leads : (c : Counting) (n k start next u : ℕ) (t : List ℕ) → (c ≡ Utf8) ⊎ (c ≡ LatinAsUtf16) →
    start ≡ place_of_line Editor k t → next ≡ place_of_line Editor (k + 1) t → u ≡ min n (next - 2 - start) →
    LeadsTo c n start t (record { place = start + u; units = u })
single_leads c n k start next u t single begins ends is =
    let s = drop start t in
    let short : u ≤ length (first_line s) = omega (arith, is, line_short k start next t begins ends) in
    let back : start + u - start ≡ u = omega arith in
    let long : u ≡ length (take u s) = omega (arith, short, first_within s, length-take u s) in
    leads_to c n start (start + u) u t (omega (arith, begins, place_within Editor k t)) (omega arith) (omega (arith, short))
    (long ∙ width_single c (take u s) single ∙ sym (ap (λ m. width c (take m s)) back)) (omega (arith, is))
