-- Runs of bytes, byte by byte.
use Rattle.std.specs.Prelude.{count_by, not, nat_le, ◌&&◌}
use Rattle.std.specs.List.{take_while}
use Rattle.std.proofs.Common.{◌≡◌, ℕ, ◌+◌, ◌-◌, ◌<◌, ◌≤◌, Bool, true, false, cond, List, [], ◌∷◌, length, drop, take, get_or, refl, ap, sym, subst, ◌∙◌, arith}
use Rattle.std.proofs.lemmas.List.{drop_more, drop_all, drop-drop}
use Rattle.std.proofs.lemmas.List.Sums.{sum_by-cons, take_while-cons}
use Rattle.bt_bib.specs.declared.spot.Spot.{Spot}
use Rattle.std.proofs.lemmas.Bool.Decides.{nat_tests}
use Rattle.bt_text.specs.ByteTests.{is_digit, is_line_feed, is_small, is_white}
use Rattle.bt_text.specs.NameBytes.{is_name_byte}
use Rattle.bt_bib.specs.Spot.{Here, at, here, spot_after_byte, spot_after, after_bytes}
use Rattle.bt_bib.specs.Scan.{after_run, run}

-- after the longest run of bytes that pass a test, a byte at a time
unfoldable pub past_run : (ℕ → Bool) → Spot → List ℕ → Here
past_run test s [] = at s []
past_run test s (b ∷ rest) = cond (test b) (past_run test (spot_after_byte b s) rest) (at s (b ∷ rest))

abbrev one : ℕ → ℕ
one b = cond (is_line_feed b) 1 0

pub same_spot : (a b c d : ℕ) → a ≡ c → b ≡ d → (let x : Spot = record { place = a; line = b } in x) ≡ record { place = c; line = d }
same_spot a b c d p q = rw (p, q) refl

one_more : (v : Bool) (l n : ℕ) → cond v (l + 1) l + n ≡ l + (cond v 1 0 + n)
one_more true l n = omega arith
one_more false l n = omega arith

pub passed-nil : (s : Spot) → spot_after [] s ≡ s
passed-nil s = same_spot _ _ _ _ (omega arith) (omega arith)

pub passed-cons : (b : ℕ) (front : List ℕ) (s : Spot) → spot_after (b ∷ front) s ≡ spot_after front (spot_after_byte b s)
passed-cons b front s = same_spot _ _ _ _ (omega arith) (ap (λ n. s.line + n) (sum_by-cons one b front) ∙ sym (one_more (is_line_feed b) s.line (count_by is_line_feed front)))

pub after_bytes-cons : (b : ℕ) (front : List ℕ) (s : Spot) (rest : List ℕ) → after_bytes (b ∷ front) (at s (b ∷ rest)) ≡ after_bytes front (at (spot_after_byte b s) rest)
after_bytes-cons b front s rest = ap (λ u. at u (drop (length front) rest)) (passed-cons b front s)

-- the definition is that walk
run_by : (v : Bool) (test : ℕ → Bool) (s : Spot) (b : ℕ) (rest : List ℕ) → after_bytes (take_while test rest) (at (spot_after_byte b s) rest) ≡ past_run test (spot_after_byte b s) rest → after_bytes (cond v (b ∷ take_while test rest) []) (at s (b ∷ rest)) ≡ cond v (past_run test (spot_after_byte b s) rest) (at s (b ∷ rest))
run_by true test s b rest e = after_bytes-cons b (take_while test rest) s rest ∙ e
run_by false test s b rest e = ap (λ u. at u (b ∷ rest)) (passed-nil s)

pub past_is_run : (test : ℕ → Bool) (s : Spot) (rest : List ℕ) → after_run test (at s rest) ≡ past_run test s rest
unfolding past_run
past_is_run test s [] = ap (λ u. at u []) (passed-nil s)
past_is_run test s (b ∷ rest) = ap (λ front. after_bytes front (at s (b ∷ rest))) (take_while-cons test b rest) ∙ run_by (test b) test s b rest (past_is_run test (spot_after_byte b s) rest)

pub run_more : (test : ℕ → Bool) (s : Spot) (b : ℕ) (rest : List ℕ) → test b ≡ true → past_run test s (b ∷ rest) ≡ past_run test (spot_after_byte b s) rest
unfolding past_run
run_more test s b rest h = rw h refl

pub run_stop : (test : ℕ → Bool) (s : Spot) (b : ℕ) (rest : List ℕ) → test b ≡ false → past_run test s (b ∷ rest) ≡ at s (b ∷ rest)
unfolding past_run
run_stop test s b rest h = rw h refl

run_end : (test : ℕ → Bool) (s : Spot) → past_run test s [] ≡ at s []
unfolding past_run
run_end test s = refl

-- a loop over the bytes
pub past_more : (test : ℕ → Bool) (text : List ℕ) (s : Spot) → s.place < length text → test (get_or text s.place 0) ≡ true → after_run test (here text (spot_after_byte (get_or text s.place 0) s)) ≡ after_run test (here text s)
past_more test text s lt h =
    let b = get_or text s.place 0 in
    past_is_run test (spot_after_byte b s) (drop (s.place + 1) text) ∙ sym (past_is_run test s (drop s.place text) ∙ ap (past_run test s) (drop_more text s.place 0 lt) ∙ run_more test s b (drop (s.place + 1) text) h)

pub past_stop : (test : ℕ → Bool) (text : List ℕ) (s : Spot) → s.place < length text → test (get_or text s.place 0) ≡ false → here text s ≡ after_run test (here text s)
past_stop test text s lt h =
    let e = drop_more text s.place 0 lt in
    sym (past_is_run test s (drop s.place text) ∙ ap (past_run test s) e ∙ run_stop test s (get_or text s.place 0) (drop (s.place + 1) text) h ∙ ap (at s) (sym e))

pub past_end : (test : ℕ → Bool) (text : List ℕ) (s : Spot) → length text ≤ s.place → here text s ≡ after_run test (here text s)
past_end test text s le =
    let e = drop_all s.place text le in
    sym (past_is_run test s (drop s.place text) ∙ ap (past_run test s) e ∙ run_end test s ∙ ap (at s) (sym e))

-- the run is the text up to its end
front_by : (v : Bool) (b : ℕ) (front rest : List ℕ) → front ≡ take (length front) rest → cond v (b ∷ front) [] ≡ take (length (cond v (b ∷ front) [])) (b ∷ rest)
front_by true b front rest e = ap (λ (l : List ℕ). b ∷ l) e
front_by false b front rest e = refl

pub front_taken : (test : ℕ → Bool) (rest : List ℕ) → take_while test rest ≡ take (length (take_while test rest)) rest
front_taken test [] = refl
front_taken test (b ∷ rest) = subst (λ (l : List ℕ). l ≡ take (length l) (b ∷ rest)) (sym (take_while-cons test b rest)) (front_by (test b) b (take_while test rest) rest (front_taken test rest))

pub run_is_between : (test : ℕ → Bool) (h : Here) → run test h ≡ take ((after_run test h).spot.place - h.spot.place) h.rest
run_is_between test h = front_taken test h.rest ∙ ap (λ n. take n h.rest) (omega arith)

-- the same of a text, up to a spot that is known
pub run_taken : (test : ℕ → Bool) (text : List ℕ) (from end : Spot) → here text end ≡ after_run test (here text from) → take (end.place - from.place) (drop from.place text) ≡ run test (here text from)
run_taken test text from end is = ap (λ (h : Here). take (h.spot.place - from.place) (drop from.place text)) is ∙ sym (run_is_between test (here text from))

-- A small letter is a byte of a name.
pub small_named : (b : ℕ) → is_small b ≡ true → is_name_byte b ≡ true
small_named b h = grind (arith, nat_tests)

pub small_begins : (b : ℕ) → is_small b ≡ true → (is_name_byte b && not (is_digit b)) ≡ true
small_begins b h = grind (arith, nat_tests)

-- No byte beyond the space is white space.
pub white_low : (b : ℕ) → nat_le b 32 ≡ false → is_white b ≡ false
white_low b h = grind (arith, nat_tests)

-- a run without a line feed stays on its line
flat_by : (v : Bool) (b : ℕ) (front : List ℕ) → (v ≡ true → is_line_feed b ≡ false) → count_by is_line_feed front ≡ 0 → count_by is_line_feed (cond v (b ∷ front) []) ≡ 0
flat_by true b front flat e = omega (arith, sum_by-cons one b front, ap (λ (v : Bool). cond {A = ℕ} v 1 0) (flat refl), e)
flat_by false b front flat e = refl

pub flat_count : (test : ℕ → Bool) → ((b : ℕ) → test b ≡ true → is_line_feed b ≡ false) → (bs : List ℕ) → count_by is_line_feed (take_while test bs) ≡ 0
flat_count test flat [] = refl
flat_count test flat (b ∷ bs) = ap (count_by is_line_feed) (take_while-cons test b bs) ∙ flat_by (test b) b (take_while test bs) (flat b) (flat_count test flat bs)

pub flat_run : (test : ℕ → Bool) → ((b : ℕ) → test b ≡ true → is_line_feed b ≡ false) → (text : List ℕ) (s : Spot) (n : ℕ) → n ≡ length (take_while test (drop s.place text)) → (let end : Spot = record { place = s.place + n; line = s.line } in here text end) ≡ after_run test (here text s)
flat_run test flat text s n is =
    let rest = drop s.place text in
    let front = take_while test rest in
    ap (here text) (same_spot (s.place + n) s.line (s.place + length front) (s.line + count_by is_line_feed front) (ap (λ k. s.place + k) is) (omega (arith, flat_count test flat rest)))
    ∙ ap (at (spot_after front s)) (sym (drop-drop (length front) s.place text))

pub name_flat : (b : ℕ) → is_name_byte b ≡ true → is_line_feed b ≡ false
name_flat b h = grind (arith, nat_tests)
