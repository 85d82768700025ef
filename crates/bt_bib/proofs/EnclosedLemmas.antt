-- What braces and quotes enclose, byte by byte, with a count of the open braces.
use Rattle.std.specs.Prelude.{◌==◌, ◌&&◌, ◌||◌, not, count_by}
use Rattle.std.specs.List.{list_all, take_while}
use Rattle.std.specs.Option.{unwrap_or}
use Rattle.memchr.specs.Find.{IsFirstByte, is_byte3}
use Rattle.std.proofs.Common.{◌≡◌, ℕ, zero, suc, ◌+◌, ◌-◌, ◌<◌, ◌≤◌, Bool, true, false, cond, List, [], ◌∷◌, ◌++◌, length, drop, take, get_or, Option, Result, Ok, Err, refl, ap, sym, subst, ◌∙◌, arith, append_assoc, length-drop, inl, inr}
use Rattle.std.proofs.lemmas.List.{drop_more, drop_all, drop_at, drop-drop, take_at, take-append-drop, length-take-le}
use Rattle.std.proofs.lemmas.List.Sums.{sum_by-append, sum_by-cons, take_while-cons}
use Rattle.std.proofs.lemmas.Bool.{and_from, and_parts, cases_eq, eq-eqb, ne_eqb, eqb-true, false≢true}
use Rattle.bt_text.specs.ByteTests.{is_line_feed, left_brace, right_brace}
use Rattle.bt_bib.specs.declared.spot.Spot.{Spot}
use Rattle.bt_bib.specs.declared.fault.ItemFault.TheVariants.{EndOfFile, UnbalancedBraces}
use Rattle.bt_bib.specs.declared.enclosure.Turn.{Turn}
use Rattle.bt_bib.specs.declared.enclosure.Turn.TheVariants as turns
use Rattle.bt_bib.specs.Spot.{Here, at, here, spot_after_byte, spot_after, after_bytes}
use Rattle.bt_bib.specs.Scan.{first}
use Rattle.bt_bib.specs.Stop.{Stop, ◌>>=◌}
use Rattle.bt_bib.specs.Enclosure.{enclosed, enclosed_text, ends_enclosed}
use Rattle.bt_bib.specs.inner.Cases.{enclosed_by}
use Rattle.bt_bib.specs.inner.Enclosure.{enclosed_end, turn, is_plain, IsPlainUpto}
use Rattle.bt_bib.proofs.RunLemmas.{passed-nil, passed-cons, same_spot, flat_count}
use Rattle.bt_bib.proofs.SeekLemmas.{near_run, near_within}

abbrev pub between : Here → Here → List ℕ
between h e = take (e.spot.place - h.spot.place) h.rest

-- the byte that closes, found with a count
unfoldable pub enclosed_run : ℕ → ℕ → Spot → List ℕ → Result Here Stop
enclosed_run close depth s [] = Err (EndOfFile, at s [])
enclosed_run close depth s (b ∷ rest) = elim (turn close depth b) [
  | turns.Closes ↦ Ok (at s (b ∷ rest))
  | turns.Breaks ↦ Err (UnbalancedBraces, at s (b ∷ rest))
  | turns.Goes d ↦ enclosed_run close d (spot_after_byte b s) rest
]

-- with the bytes up to there
abbrev pub taken : Here → Result Here Stop → Result (List ℕ × Here) Stop
taken h r = r >>= λ e. Ok (between h e, e)

positive : (d : ℕ) → (d == 0) ≡ false → 1 ≤ d
positive zero h = absurd (false≢true (sym h))
positive (suc d) h = omega arith

apart : (b : ℕ) → (b == left_brace) ≡ true → (b == right_brace) ≡ true → ⊥
apart b l r = omega (arith, eqb-true b left_brace l, eqb-true b right_brace r)

balanced_is : (x y d : ℕ) → x ≡ y + d → (x == y) ≡ (d == 0)
balanced_is x y d e = elim (cases_eq d 0) [
  | inl z ↦ eq-eqb x y (omega arith) ∙ sym (eq-eqb d 0 z)
  | inr n ↦ ne_eqb x y (λ q. n (omega arith)) ∙ sym (ne_eqb d 0 n)
]

-- A byte ends the enclosed text if no brace is open, and is counted otherwise. c: it is the closing sign; z: no brace
-- is open; l and r: it is a left brace, a right brace; x and y: the number of left and right braces before it.
turn_by : {X : Type 0} (now later shut broken : X) (goes : ℕ → X) (c z l r : Bool) (d x y : ℕ) → now ≡ cond c shut broken → x ≡ y + d → (z ≡ false → 1 ≤ d) → (l ≡ true → r ≡ true → ⊥) → ((e : ℕ) → x + cond l 1 0 ≡ y + cond r 1 0 + e → later ≡ goes e)
    → cond ((c || r) && z) now later ≡ elim (cond (c && z) turns.Closes (cond l (turns.Goes (d + 1)) (cond r (cond z turns.Breaks (turns.Goes (d - 1))) (turns.Goes d)))) [
      | turns.Closes ↦ shut
      | turns.Breaks ↦ broken
      | turns.Goes e ↦ goes e
    ]
turn_by now later shut broken goes true true l r d x y stop count deep two k = stop
turn_by now later shut broken goes true false true true d x y stop count deep two k = absurd (two refl refl)
turn_by now later shut broken goes true false true false d x y stop count deep two k = k (d + 1) (omega arith)
turn_by now later shut broken goes true false false true d x y stop count deep two k = k (d - 1) (omega (arith, deep refl))
turn_by now later shut broken goes true false false false d x y stop count deep two k = k d (omega arith)
turn_by now later shut broken goes false true true true d x y stop count deep two k = absurd (two refl refl)
turn_by now later shut broken goes false true true false d x y stop count deep two k = k (d + 1) (omega arith)
turn_by now later shut broken goes false true false true d x y stop count deep two k = stop
turn_by now later shut broken goes false true false false d x y stop count deep two k = k d (omega arith)
turn_by now later shut broken goes false false true true d x y stop count deep two k = absurd (two refl refl)
turn_by now later shut broken goes false false true false d x y stop count deep two k = k (d + 1) (omega arith)
turn_by now later shut broken goes false false false true d x y stop count deep two k = k (d - 1) (omega (arith, deep refl))
turn_by now later shut broken goes false false false false d x y stop count deep two k = k d (omega arith)

-- what follows, in each of the three cases
turn_then : (h e : Here) (goes : ℕ → Result Here Stop) (t : Turn) → elim t [
  | turns.Closes ↦ taken h (Ok e)
  | turns.Breaks ↦ taken h (Err (UnbalancedBraces, e))
  | turns.Goes d ↦ taken h (goes d)
] ≡ taken h (elim t [
  | turns.Closes ↦ Ok e
  | turns.Breaks ↦ Err (UnbalancedBraces, e)
  | turns.Goes d ↦ goes d
])
turn_then h e goes turns.Closes = refl
turn_then h e goes turns.Breaks = refl
turn_then h e goes (turns.Goes d) = refl

-- what the definition returns if `text` is enclosed
abbrev answer : ℕ → Here → List ℕ → Result (List ℕ × Here) Stop
answer close h text = enclosed_by close text (after_bytes text h) (first (after_bytes text h).rest)

answer_if : (close : ℕ) (h : Here) (v : Bool) (x y : List ℕ) → answer close h (cond v x y) ≡ cond v (answer close h x) (answer close h y)
answer_if close h true x y = refl
answer_if close h false x y = refl

beyond_front : (h : Here) (front rest : List ℕ) → h.rest ≡ front ++ rest → after_bytes front h ≡ at (spot_after front h.spot) rest
beyond_front h front rest is = ap (λ r. at (spot_after front h.spot) r) (ap (drop (length front)) is ∙ drop_at front rest (length front) refl)

between_front : (h : Here) (front rest : List ℕ) → h.rest ≡ front ++ rest → between h (at (spot_after front h.spot) rest) ≡ front
between_front h front rest is =
    let n : h.spot.place + length front - h.spot.place ≡ length front = omega arith in
    ap (λ k. take k h.rest) n ∙ ap (take (length front)) is ∙ take_at front rest (length front) refl

passed-more : (front : List ℕ) (b : ℕ) (s : Spot) → spot_after (front ++ b ∷ []) s ≡ spot_after_byte b (spot_after front s)
passed-more [] b s = passed-cons b [] s ∙ passed-nil (spot_after_byte b s) ∙ ap (spot_after_byte b) (sym (passed-nil s))
passed-more (x ∷ front) b s = passed-cons x (front ++ b ∷ []) s ∙ passed-more front b (spot_after_byte x s) ∙ ap (spot_after_byte b) (sym (passed-cons x front s))

abbrev lefts : List ℕ → ℕ
lefts t = count_by (λ b. b == left_brace) t

abbrev rights : List ℕ → ℕ
rights t = count_by (λ b. b == right_brace) t

count-more : (test : ℕ → Bool) (front : List ℕ) (b : ℕ) → count_by test (front ++ b ∷ []) ≡ count_by test front + cond (test b) 1 0
count-more test front b = sum_by-append (λ x. cond (test x) 1 0) front (b ∷ []) ∙ ap (λ n. count_by test front + n) (omega (arith, sum_by-cons (λ x. cond (test x) 1 0) b []))

enclosed_walks : (close d : ℕ) (h : Here) (front rest : List ℕ) → h.rest ≡ front ++ rest → lefts front ≡ rights front + d → answer close h (enclosed_text close front rest) ≡ taken h (enclosed_run close d (spot_after front h.spot) rest)
unfolding enclosed_run
enclosed_walks close d h front [] is count = ap (λ e. enclosed_by close front e (first e.rest)) (beyond_front h front [] is)
enclosed_walks close d h front (b ∷ rest) is count =
    let here_is = beyond_front h front (b ∷ rest) is in
    let e = at (spot_after front h.spot) (b ∷ rest) in
    let later = answer close h (enclosed_text close (front ++ b ∷ []) rest) in
    let goes : ℕ → Result Here Stop = λ d. enclosed_run close d (spot_after_byte b (spot_after front h.spot)) rest in
    let stop : answer close h front ≡ cond (b == close) (taken h (Ok e)) (taken h (Err (UnbalancedBraces, e))) =
    ap (λ x. enclosed_by close front x (first x.rest)) here_is ∙ ap (λ t. cond (b == close) (Ok (t, e)) (Err (UnbalancedBraces, e))) (sym (between_front h front (b ∷ rest) is)) in
    let on : (d : ℕ) → lefts front + cond (b == left_brace) 1 0 ≡ rights front + cond (b == right_brace) 1 0 + d → later ≡ taken h (goes d) = λ d more.
    enclosed_walks close d h (front ++ b ∷ []) rest (is ∙ sym (append_assoc front (b ∷ []) rest)) (count-more (λ x. x == left_brace) front b ∙ more ∙ ap (λ n. n + d) (sym (count-more (λ x. x == right_brace) front b)))
    ∙ ap (λ s. taken h (enclosed_run close d s rest)) (passed-more front b h.spot) in
    answer_if close h (ends_enclosed close front b) front (enclosed_text close (front ++ b ∷ []) rest)
    ∙ ap (λ v. cond ((b == close || b == right_brace) && v) (answer close h front) later) (balanced_is (lefts front) (rights front) d count)
    ∙ turn_by (answer close h front) later (taken h (Ok e)) (taken h (Err (UnbalancedBraces, e))) (λ d. taken h (goes d)) (b == close) (d == 0) (b == left_brace) (b == right_brace) d (lefts front) (rights front) stop count (positive d) (apart b) on
    ∙ turn_then h e goes (turn close d b)

-- the definition is that walk
pub enclosed_is_run : (close : ℕ) (h : Here) → enclosed close h ≡ taken h (enclosed_run close 0 h.spot h.rest)
unfolding enclosed
enclosed_is_run close h = enclosed_walks close 0 h [] h.rest refl refl ∙ ap (λ s. taken h (enclosed_run close 0 s h.rest)) (passed-nil h.spot)

untaken : (h : Here) (r : Result Here Stop) → (taken h r >>= λ x. Ok x.1) ≡ r
untaken h (Ok e) = refl
untaken h (Err stop) = refl

pub end_is_run : (close : ℕ) (h : Here) → enclosed_end close h ≡ enclosed_run close 0 h.spot h.rest
end_is_run close h = ap (λ (r : Result (List ℕ × Here) Stop). r >>= λ x. Ok x.1) (enclosed_is_run close h) ∙ untaken h (enclosed_run close 0 h.spot h.rest)

-- what is enclosed is the text up to its end
pub enclosed_is_taken : (close : ℕ) (h : Here) → enclosed close h ≡ taken h (enclosed_end close h)
enclosed_is_taken close h = enclosed_is_run close h ∙ ap (taken h) (sym (end_is_run close h))

pub enclosed_found : (close : ℕ) (text : List ℕ) (from end : Spot) → enclosed_end close (here text from) ≡ Ok (here text end) → enclosed close (here text from) ≡ Ok (take (end.place - from.place) (drop from.place text), here text end)
enclosed_found close text from end is = enclosed_is_taken close (here text from) ∙ ap (taken (here text from)) is

pub enclosed_stopped : (close : ℕ) (h : Here) (stop : Stop) → enclosed_end close h ≡ Err stop → enclosed close h ≡ Err stop
enclosed_stopped close h stop is = enclosed_is_taken close h ∙ ap (taken h) is

-- a loop over the bytes
pub enclosed_cons : (close d : ℕ) (s : Spot) (b : ℕ) (rest : List ℕ) (t : Turn) → t ≡ turn close d b → enclosed_run close d s (b ∷ rest) ≡ elim t [
  | turns.Closes ↦ Ok (at s (b ∷ rest))
  | turns.Breaks ↦ Err (UnbalancedBraces, at s (b ∷ rest))
  | turns.Goes e ↦ enclosed_run close e (spot_after_byte b s) rest
]
unfolding enclosed_run
enclosed_cons close d s b rest t e = rw e refl

enclosed_nil : (close d : ℕ) (s : Spot) → enclosed_run close d s [] ≡ Err (EndOfFile, at s [])
unfolding enclosed_run
enclosed_nil close d s = refl

pub enclosed_closes : (close d : ℕ) (text : List ℕ) (s : Spot) → s.place < length text → turns.Closes ≡ turn close d (get_or text s.place 0) → enclosed_run close d s (drop s.place text) ≡ Ok (here text s)
enclosed_closes close d text s lt h =
    let e = drop_more text s.place 0 lt in
    ap (enclosed_run close d s) e ∙ enclosed_cons close d s (get_or text s.place 0) (drop (s.place + 1) text) turns.Closes h ∙ ap (λ r. Ok (at s r)) (sym e)

pub enclosed_breaks : (close d : ℕ) (text : List ℕ) (s : Spot) → s.place < length text → turns.Breaks ≡ turn close d (get_or text s.place 0) → enclosed_run close d s (drop s.place text) ≡ Err (UnbalancedBraces, here text s)
enclosed_breaks close d text s lt h =
    let e = drop_more text s.place 0 lt in
    ap (enclosed_run close d s) e ∙ enclosed_cons close d s (get_or text s.place 0) (drop (s.place + 1) text) turns.Breaks h ∙ ap (λ r. Err (UnbalancedBraces, at s r)) (sym e)

pub enclosed_goes : (close d n : ℕ) (text : List ℕ) (s : Spot) → s.place < length text → turns.Goes n ≡ turn close d (get_or text s.place 0) → enclosed_run close n (spot_after_byte (get_or text s.place 0) s) (drop (s.place + 1) text) ≡ enclosed_run close d s (drop s.place text)
enclosed_goes close d n text s lt h =
    let e = drop_more text s.place 0 lt in
    sym (ap (enclosed_run close d s) e ∙ enclosed_cons close d s (get_or text s.place 0) (drop (s.place + 1) text) (turns.Goes n) h)

pub enclosed_ends : (close d : ℕ) (text : List ℕ) (s : Spot) → length text ≤ s.place → enclosed_run close d s (drop s.place text) ≡ Err (EndOfFile, here text s)
enclosed_ends close d text s le =
    let e = drop_all s.place text le in
    ap (enclosed_run close d s) e ∙ enclosed_nil close d s ∙ ap (λ r. Err (EndOfFile, at s r)) (sym e)

-- a jump over bytes that are no braces and don't close
plain_turn : (c z l r : Bool) (d : ℕ) → not (c || l || r) ≡ true → cond (c && z) turns.Closes (cond l (turns.Goes (d + 1)) (cond r (cond z turns.Breaks (turns.Goes (d - 1))) (turns.Goes d))) ≡ turns.Goes d
plain_turn true z l r d h = absurd (false≢true h)
plain_turn false z true r d h = absurd (false≢true h)
plain_turn false z false true d h = absurd (false≢true h)
plain_turn false z false false d h = refl

plain_goes : (close d : ℕ) (s : Spot) (b : ℕ) (rest : List ℕ) → is_plain close b ≡ true → enclosed_run close d s (b ∷ rest) ≡ enclosed_run close d (spot_after_byte b s) rest
plain_goes close d s b rest h = enclosed_cons close d s b rest (turns.Goes d) (sym (plain_turn (b == close) (d == 0) (b == left_brace) (b == right_brace) d h))

plain_front : (close d : ℕ) (s : Spot) (front rest : List ℕ) → list_all (is_plain close) front ≡ true → enclosed_run close d (spot_after front s) rest ≡ enclosed_run close d s (front ++ rest)
plain_front close d s [] rest all = ap (λ u. enclosed_run close d u rest) (passed-nil s)
plain_front close d s (b ∷ front) rest all =
    let both = and_parts (is_plain close b) (list_all (is_plain close) front) all in
    ap (λ u. enclosed_run close d u rest) (passed-cons b front s) ∙ plain_front close d (spot_after_byte b s) front rest both.1 ∙ sym (plain_goes close d s b (front ++ rest) both.0)

pub enclosed_jumps : (close d : ℕ) (text : List ℕ) (s end : Spot) → s.place ≤ end.place → IsPlainUpto close text s end → enclosed_run close d end (drop end.place text) ≡ enclosed_run close d s (drop s.place text)
enclosed_jumps close d text s end le upto =
    let n = end.place - s.place in
    let rest = drop s.place text in
    let far : end.place ≡ s.place + n = omega arith in
    ap (λ u. enclosed_run close d u (drop end.place text)) upto.moved
    ∙ ap (enclosed_run close d (spot_after (take n rest) s)) (ap (λ k. drop k text) far ∙ sym (drop-drop n s.place text))
    ∙ plain_front close d s (take n rest) (drop n rest) upto.plain
    ∙ ap (enclosed_run close d s) (take-append-drop n rest)

-- the end of such a jump
upto_by : (close : ℕ) (text : List ℕ) (s end : Spot) (n : ℕ) → end.place ≡ s.place + n → end ≡ spot_after (take n (drop s.place text)) s → list_all (is_plain close) (take n (drop s.place text)) ≡ true → IsPlainUpto close text s end
upto_by close text s end n far moved plain =
    let same : n ≡ end.place - s.place = omega (arith, far) in
    record {
      moved = moved ∙ ap (λ k. spot_after (take k (drop s.place text)) s) same;
      plain = subst (λ k. list_all (is_plain close) (take k (drop s.place text)) ≡ true) same plain;
    }

passes_by : (v : Bool) (p : ℕ → Bool) (b : ℕ) (front : List ℕ) → (v ≡ true → p b ≡ true) → list_all p front ≡ true → list_all p (cond v (b ∷ front) []) ≡ true
passes_by true p b front k e = and_from (p b) (list_all p front) (k refl) e
passes_by false p b front k e = refl

passes_run : (p q : ℕ → Bool) → ((b : ℕ) → q b ≡ true → p b ≡ true) → (bs : List ℕ) → list_all p (take_while q bs) ≡ true
passes_run p q k [] = refl
passes_run p q k (b ∷ bs) = ap (list_all p) (take_while-cons q b bs) ∙ passes_by (q b) p b (take_while q bs) (k b) (passes_run p q k bs)

-- found by a search in the next `most` bytes
pub upto_found : (close : ℕ) (text near : List ℕ) (s end : Spot) (most : ℕ) (r : Option ℕ) (n : ℕ) → near ≡ take most (drop s.place text) → most ≤ length text - s.place → IsFirstByte (is_byte3 close left_brace right_brace) near r → n ≡ unwrap_or r (length near) → end ≡ spot_after (take n (drop s.place text)) s → IsPlainUpto close text s end
upto_found close text near s end most r n same le found is ends =
    let rest = drop s.place text in
    let hit = is_byte3 close left_brace right_brace in
    let within : most ≤ length rest = omega (arith, le, length-drop s.place text) in
    let run = near_run hit rest near most r n same within found is in
    let len = length-take-le n rest (omega (arith, within, near_within hit rest near most r n same within found is)) in
    upto_by close text s end n (ap (λ (u : Spot). u.place) ends ∙ ap (λ k. s.place + k) len) ends (ap (list_all (is_plain close)) (sym run) ∙ passes_run (is_plain close) (λ b. not (hit b)) (λ b h. h) near)

-- the same by a search that stops at line feeds too, for what braces enclose
feed_plain : (f l r : Bool) → not (f || l || r) ≡ true → not (r || l || r) ≡ true
feed_plain true l r h = absurd (false≢true h)
feed_plain false true r h = absurd (false≢true h)
feed_plain false false true h = absurd (false≢true h)
feed_plain false false false h = refl

feed_flat : (f l r : Bool) → not (f || l || r) ≡ true → f ≡ false
feed_flat true l r h = absurd (false≢true h)
feed_flat false l r h = refl

pub upto_feed : (close : ℕ) (text near : List ℕ) (s end : Spot) (most : ℕ) (r : Option ℕ) (n : ℕ) → close ≡ right_brace → near ≡ take most (drop s.place text) → most ≤ length text - s.place → IsFirstByte (is_byte3 10 left_brace right_brace) near r → n ≡ unwrap_or r (length near) → end.place ≡ s.place + n → end.line ≡ s.line → IsPlainUpto close text s end
upto_feed close text near s end most r n brace same le found is far line =
    let rest = drop s.place text in
    let hit = is_byte3 10 left_brace right_brace in
    let within : most ≤ length rest = omega (arith, le, length-drop s.place text) in
    let run = near_run hit rest near most r n same within found is in
    let flat = ap (count_by is_line_feed) (sym run) ∙ flat_count (λ b. not (hit b)) (λ b h. feed_flat (b == 10) (b == left_brace) (b == right_brace) h) near in
    let len = length-take-le n rest (omega (arith, within, near_within hit rest near most r n same within found is)) in
    let plain = ap (list_all (is_plain right_brace)) (sym run) ∙ passes_run (is_plain right_brace) (λ b. not (hit b)) (λ b h. feed_plain (b == 10) (b == left_brace) (b == right_brace) h) near in
    let ends = same_spot end.place end.line (s.place + length (take n rest)) (s.line + count_by is_line_feed (take n rest)) (omega (arith, far, len)) (omega (arith, line, flat)) in
    subst (λ c. IsPlainUpto c text s end) (sym brace) (upto_by right_brace text s end n far ends plain)
