-- Each reader reads alike if its end is below the limit: signs, names and parts.
use Rattle.std.specs.Prelude.{◌==◌}
use Rattle.std.proofs.Common.{◌≡◌, ℕ, ◌<◌, Bool, true, false, cond, List, [], ◌∷◌, Option, Some, None, Result, Ok, Err, refl, sym, ap, subst, arith}
use Rattle.bt_text.specs.ByteTests.{is_white, is_digit, left_brace, right_brace}
use Rattle.bt_text.specs.NameBytes.{is_name_byte}
use Rattle.bt_bib.specs.declared.spot.Spot.{Spot}
use Rattle.bt_bib.specs.declared.enclosure.Turn.{Turn}
use Rattle.bt_bib.specs.declared.enclosure.Turn.TheVariants as turns
use Rattle.bt_bib.specs.declared.fault.NameRole.{NameRole}
use Rattle.bt_bib.specs.declared.fault.NameRole.TheVariants.{FieldPart}
use Rattle.bt_bib.specs.declared.fault.ItemFault.{ItemFault}
use Rattle.bt_bib.specs.declared.fault.ItemFault.TheVariants.{EndOfFile, MissingName, BadNameEnd, UnbalancedBraces, MissingPart}
use Rattle.bt_bib.specs.declared.item.Closing.{Closing}
use Rattle.bt_bib.specs.declared.item.Part.TheVariants.{Text, Macro}
use Rattle.bt_bib.specs.Spot.{Here, at, spot_after_byte, after_byte}
use Rattle.bt_bib.specs.Stop.{Stop, ◌>>=◌}
use Rattle.bt_bib.specs.Scan.{first, run, after_run, after_white, sign}
use Rattle.bt_bib.specs.Enclosure.{enclosed}
use Rattle.bt_bib.specs.inner.Enclosure.{turn}
use Rattle.bt_bib.specs.Names.{word, name_ended, name}
use Rattle.bt_bib.specs.inner.Cases.{word_from, ended_from, sign_from, raw_part, part_from}
use Rattle.bt_bib.specs.Values.{part, part_ends}
use Rattle.bt_bib.proofs.EnclosedLemmas.{between, enclosed_run, enclosed_is_run}
use Rattle.bt_bib.proofs.ReachLemmas.{Reaches, reaches_place, reaches_self, behind_reaches, white_reaches, Advances, Moves, advances_ok, moves_bind, enclosed_advances, enclosed_moves_run, word_advances_from, ended_moves, ended_moves_from, sign_moves_from, raw_part_advances_from}
use Rattle.bt_bib.proofs.AlikeLemmas.{Alike, alike_cons, alike_nil_cons, alike_cons_nil, alike_behind, alike_first, alike_past, alike_run, alike_between}

abbrev pub EndsAlike : {A : Type 0} → ℕ → Result (A × Here) Stop → Result (A × Here) Stop → Type 0
EndsAlike limit (Ok x) y = x.1.spot.place < limit → (k : Here) × (y ≡ Ok (x.0, k)) × Alike limit x.1 k
EndsAlike limit (Err x) y = x.1.spot.place < limit → (k : Here) × (y ≡ Err (x.0, k)) × Alike limit x.1 k

-- y reads as x does
pub record Same {A : Type 0} (limit : ℕ) (x y : Result (A × Here) Stop) : Type 0 where
  pub alike : EndsAlike limit x y

abbrev pub FindsAlike : ℕ → Result Here Stop → Result Here Stop → Type 0
FindsAlike limit (Ok h) y = h.spot.place < limit → (k : Here) × (y ≡ Ok k) × Alike limit h k
FindsAlike limit (Err x) y = x.1.spot.place < limit → (k : Here) × (y ≡ Err (x.0, k)) × Alike limit x.1 k

pub record SameFind (limit : ℕ) (x y : Result Here Stop) : Type 0 where
  pub alike : FindsAlike limit x y

pub same_ok : {A : Type 0} (limit : ℕ) (a b : A) (h k : Here) → b ≡ a → (h.spot.place < limit → Alike limit h k) → Same limit (Ok (a, h)) (Ok (b, k))
same_ok limit a b h k e al = record { alike = λ lt. (k, ap (λ x. Ok (x, k)) e, al lt) }

pub same_err : {A : Type 0} (limit : ℕ) (fault : ItemFault) (h k : Here) → (h.spot.place < limit → Alike limit h k) → Same {A = A} limit (Err (fault, h)) (Err (fault, k))
same_err limit fault h k al = record { alike = λ lt. (k, refl, al lt) }

pub find_ok : (limit : ℕ) (h k : Here) → (h.spot.place < limit → Alike limit h k) → SameFind limit (Ok h) (Ok k)
find_ok limit h k al = record { alike = λ lt. (k, refl, al lt) }

pub find_err : (limit : ℕ) (fault : ItemFault) (h k : Here) → (h.spot.place < limit → Alike limit h k) → SameFind limit (Err (fault, h)) (Err (fault, k))
find_err limit fault h k al = record { alike = λ lt. (k, refl, al lt) }

-- what holds where the start is below the limit
pub same_when : {A : Type 0} (limit : ℕ) (h : Here) (x y : Result (A × Here) Stop) → Advances h x → (h.spot.place < limit → Same limit x y) → Same limit x y
same_when limit h (Ok x) y a s = record { alike = λ lt. (s (omega (arith, reaches_place h x.1 a.ahead))).alike lt }
same_when limit h (Err x) y a s = record { alike = λ lt. (s (omega (arith, reaches_place h x.1 a.ahead))).alike lt }

pub find_when : (limit : ℕ) (h : Here) (x y : Result Here Stop) → Moves h x → (h.spot.place < limit → SameFind limit x y) → SameFind limit x y
find_when limit h (Ok x) y a s = record { alike = λ lt. (s (omega (arith, reaches_place h x a.ahead))).alike lt }
find_when limit h (Err x) y a s = record { alike = λ lt. (s (omega (arith, reaches_place h x.1 a.ahead))).alike lt }

pub same_if : {A : Type 0} (limit : ℕ) (b : Bool) (x y z w : Result (A × Here) Stop) → Same limit x z → Same limit y w → Same limit (cond b x y) (cond b z w)
same_if limit true x y z w p q = p
same_if limit false x y z w p q = q

pub find_if : (limit : ℕ) (b : Bool) (x y z w : Result Here Stop) → SameFind limit x z → SameFind limit y w → SameFind limit (cond b x y) (cond b z w)
find_if limit true x y z w p q = p
find_if limit false x y z w p q = q

-- one after the other
pub same_bind : {A B : Type 0} (limit : ℕ) (x y : Result (A × Here) Stop) (r q : A × Here → Result (B × Here) Stop) → Same limit x y → ((a : A × Here) → Advances a.1 (r a)) → ((a : A) (h k : Here) → Alike limit h k → x ≡ Ok (a, h) → Same limit (r (a, h)) (q (a, k))) → Same limit (x >>= r) (y >>= q)
same_bind limit (Err x) y r q s adv step = record { alike = λ lt. (let t = s.alike lt in (t.0, ap (λ z. z >>= q) t.1, t.2)) }
same_bind limit (Ok x) y r q s adv step =
    same_when limit x.1 (r x) (y >>= q) (adv x) (λ lt.
    let t = s.alike lt in
    subst (λ z. Same limit (r x) z) (sym (ap (λ z. z >>= q) t.1)) (step x.0 x.1 t.0 t.2 refl))

pub find_bind : {B : Type 0} (limit : ℕ) (x y : Result Here Stop) (r q : Here → Result (B × Here) Stop) → SameFind limit x y → ((a : Here) → Advances a (r a)) → ((h k : Here) → Alike limit h k → x ≡ Ok h → Same limit (r h) (q k)) → Same limit (x >>= r) (y >>= q)
find_bind limit (Err x) y r q s adv step = record { alike = λ lt. (let t = s.alike lt in (t.0, ap (λ z. z >>= q) t.1, t.2)) }
find_bind limit (Ok x) y r q s adv step =
    same_when limit x (r x) (y >>= q) (adv x) (λ lt.
    let t = s.alike lt in
    subst (λ z. Same limit (r x) z) (sym (ap (λ z. z >>= q) t.1)) (step x t.0 t.2 refl))

-- after braces or quotes
enclosed_same_run : (limit close d : ℕ) (s t : Spot) (r q : List ℕ) → s.place < limit → Alike limit (at s r) (at t q) → SameFind limit (enclosed_run close d s r) (enclosed_run close d t q)
unfolding enclosed_run
enclosed_same_run limit close d s t [] [] lt a = find_err limit EndOfFile (at s []) (at t []) (λ _. a)
enclosed_same_run limit close d s t [] (c ∷ cs) lt a = absurd (alike_nil_cons limit s t c cs lt a)
enclosed_same_run limit close d s t (b ∷ bs) [] lt a = absurd (alike_cons_nil limit s t b bs lt a)
enclosed_same_run limit close d s t (b ∷ bs) (c ∷ cs) lt a =
    let next = alike_cons limit s t b c bs cs lt a in
    let way : Spot → ℕ → List ℕ → Turn → Result Here Stop = λ u x xs w. elim w [
      | turns.Closes ↦ Ok (at u (x ∷ xs))
      | turns.Breaks ↦ Err (UnbalancedBraces, at u (x ∷ xs))
      | turns.Goes e ↦ enclosed_run close e (spot_after_byte x u) xs
    ] in
    let both : (w : Turn) → SameFind limit (way s b bs w) (way t c cs w) = λ w. elim w as (λ w. SameFind limit (way s b bs w) (way t c cs w)) [
      | turns.Closes ↦ find_ok limit (at s (b ∷ bs)) (at t (c ∷ cs)) (λ _. a)
      | turns.Breaks ↦ find_err limit UnbalancedBraces (at s (b ∷ bs)) (at t (c ∷ cs)) (λ _. a)
      | turns.Goes e ↦ find_when limit (at (spot_after_byte b s) bs) (enclosed_run close e (spot_after_byte b s) bs) (enclosed_run close e (spot_after_byte c t) cs) (enclosed_moves_run close e (spot_after_byte b s) bs) (λ below. enclosed_same_run limit close e (spot_after_byte b s) (spot_after_byte c t) bs cs below next.1)
    ] in
    subst (λ x. SameFind limit (way s b bs (turn close d b)) (way t c cs (turn close d x))) next.0 (both (turn close d b))

-- where a find ends
found_at : (h e : Here) (r : Result Here Stop) → r ≡ Ok e → Moves h r → Reaches h e
found_at h e r is a = (subst (λ x. Moves h x) is a).ahead

taken_same : (limit close : ℕ) (h k : Here) → Alike limit h k → SameFind limit (enclosed_run close 0 h.spot h.rest) (enclosed_run close 0 k.spot k.rest) → Same limit (enclosed_run close 0 h.spot h.rest >>= λ e. Ok (between h e, e)) (enclosed_run close 0 k.spot k.rest >>= λ e. Ok (between k e, e))
taken_same limit close h k a s =
    let r = enclosed_run close 0 h.spot h.rest in
    let q = enclosed_run close 0 k.spot k.rest in
    find_bind limit r q (λ e. Ok (between h e, e)) (λ e. Ok (between k e, e)) s (λ e. advances_ok e e (between h e) (reaches_self e)) (λ e f b is.
    same_when limit e (Ok (between h e, e)) (Ok (between k f, f)) (advances_ok e e (between h e) (reaches_self e)) (λ below.
    same_ok limit (between h e) (between k f) e f (alike_between limit h k e f (found_at h e r is (enclosed_moves_run close 0 h.spot h.rest)) below a b) (λ _. b)))

pub enclosed_same : (limit close : ℕ) (h k : Here) → Alike limit h k → Same limit (enclosed close h) (enclosed close k)
enclosed_same limit close h k a = same_when limit h (enclosed close h) (enclosed close k) (enclosed_advances close h) (λ lt.
    let one = taken_same limit close h k a (enclosed_same_run limit close 0 h.spot k.spot h.rest k.rest lt a) in
    subst (λ r. Same limit r (enclosed close k)) (sym (enclosed_is_run close h)) (subst (λ q. Same limit (enclosed_run close 0 h.spot h.rest >>= λ e. Ok (between h e, e)) q) (sym (enclosed_is_run close k)) one))

word_same_from : (limit : ℕ) (what : NameRole) (h k : Here) (o : Option ℕ) → Alike limit h k → Same limit (word_from what h o) (word_from what k o)
word_same_from limit what h k None a = same_err limit EndOfFile h k (λ _. a)
word_same_from limit what h k (Some b) a =
    let e = after_run is_name_byte h in
    let f = after_run is_name_byte k in
    let inner = same_when limit e (Ok (run is_name_byte h, e)) (Ok (run is_name_byte k, f)) (advances_ok e e (run is_name_byte h) (reaches_self e)) (λ lt.
    same_ok limit (run is_name_byte h) (run is_name_byte k) e f (alike_run limit is_name_byte h k a lt) (λ _. alike_past limit is_name_byte h k a lt)) in
    same_if limit _ _ _ _ _ inner (same_err limit (MissingName what) h k (λ _. a))

pub word_same : (limit : ℕ) (what : NameRole) (h k : Here) → Alike limit h k → Same limit (word what h) (word what k)
unfolding word
word_same limit what h k a = same_when limit h (word_from what h (first h.rest)) (word_from what k (first k.rest)) (word_advances_from what h (first h.rest)) (λ lt.
    subst (λ o. Same limit (word_from what h (first h.rest)) (word_from what k o)) (sym (alike_first limit h k lt a)) (word_same_from limit what h k (first h.rest) a))

ended_same_from : (limit : ℕ) (what : NameRole) (signs : List ℕ) (h k : Here) (o : Option ℕ) → Alike limit h k → SameFind limit (ended_from what signs h o) (ended_from what signs k o)
ended_same_from limit what signs h k None a = find_ok limit h k (λ _. a)
ended_same_from limit what signs h k (Some b) a = find_if limit _ _ _ _ _ (find_ok limit h k (λ _. a)) (find_err limit (BadNameEnd what b) h k (λ _. a))

pub ended_same : (limit : ℕ) (what : NameRole) (signs : List ℕ) (h k : Here) → Alike limit h k → SameFind limit (name_ended what signs h) (name_ended what signs k)
unfolding name_ended
ended_same limit what signs h k a = find_when limit h (ended_from what signs h (first h.rest)) (ended_from what signs k (first k.rest)) (ended_moves_from what signs h (first h.rest)) (λ lt.
    subst (λ o. SameFind limit (ended_from what signs h (first h.rest)) (ended_from what signs k o)) (sym (alike_first limit h k lt a)) (ended_same_from limit what signs h k (first h.rest) a))

pub name_same : (limit : ℕ) (what : NameRole) (signs : List ℕ) (h k : Here) → Alike limit h k → Same limit (name what signs h) (name what signs k)
unfolding name
name_same limit what signs h k a = same_bind limit (word what h) (word what k) (λ w. name_ended what signs w.1 >>= λ end. Ok (w.0, end)) (λ w. name_ended what signs w.1 >>= λ end. Ok (w.0, end)) (word_same limit what h k a) (λ w. moves_bind w.1 (name_ended what signs w.1) (λ end. Ok (w.0, end)) (ended_moves what signs w.1) (λ e. advances_ok e e w.0 (reaches_self e))) (λ w e g c is.
    find_bind limit (name_ended what signs e) (name_ended what signs g) (λ end. Ok (w, end)) (λ end. Ok (w, end)) (ended_same limit what signs e g c) (λ x. advances_ok x x w (reaches_self x)) (λ x y d found.
    same_ok limit w w x y refl (λ _. d)))

sign_same_from : (limit c : ℕ) (fault : ItemFault) (h k : Here) (o : Option ℕ) → h.spot.place < limit → Alike limit h k → SameFind limit (sign_from c fault h o) (sign_from c fault k o)
sign_same_from limit c fault h k None lt a = find_err limit EndOfFile h k (λ _. a)
sign_same_from limit c fault h k (Some b) lt a = find_if limit (b == c) _ _ _ _ (find_ok limit (after_byte h) (after_byte k) (λ _. alike_behind limit h k lt a)) (find_err limit fault h k (λ _. a))

pub sign_same : (limit c : ℕ) (fault : ItemFault) (h k : Here) → Alike limit h k → SameFind limit (sign c fault h) (sign c fault k)
unfolding sign
sign_same limit c fault h k a = find_when limit h (sign_from c fault h (first h.rest)) (sign_from c fault k (first k.rest)) (sign_moves_from c fault h (first h.rest)) (λ lt.
    subst (λ o. SameFind limit (sign_from c fault h (first h.rest)) (sign_from c fault k o)) (sym (alike_first limit h k lt a)) (sign_same_from limit c fault h k (first h.rest) lt a))

-- the text in braces or quotes, after the byte that opens it
shut_same : (limit close : ℕ) (h k : Here) → Alike limit h k → Same limit (enclosed close h >>= λ x. Ok (Text x.0, after_byte x.1)) (enclosed close k >>= λ x. Ok (Text x.0, after_byte x.1))
shut_same limit close h k a =
    same_bind limit (enclosed close h) (enclosed close k) (λ x. Ok (Text x.0, after_byte x.1)) (λ x. Ok (Text x.0, after_byte x.1)) (enclosed_same limit close h k a) (λ x. advances_ok x.1 (after_byte x.1) (Text x.0) (behind_reaches x.1)) (λ t e f b is.
    same_when limit e (Ok (Text t, after_byte e)) (Ok (Text t, after_byte f)) (advances_ok e (after_byte e) (Text t) (behind_reaches e)) (λ below.
    same_ok limit (Text t) (Text t) (after_byte e) (after_byte f) refl (λ _. alike_behind limit e f below b)))

raw_part_same_from : (limit : ℕ) (close : Closing) (h k : Here) (o : Option ℕ) → h.spot.place < limit → Alike limit h k → Same limit (part_from close h o) (part_from close k o)
raw_part_same_from limit close h k None lt a = same_err limit EndOfFile h k (λ _. a)
raw_part_same_from limit close h k (Some b) lt a =
    let shut : (c : ℕ) → Same limit (enclosed c (after_byte h) >>= λ x. Ok (Text x.0, after_byte x.1)) (enclosed c (after_byte k) >>= λ x. Ok (Text x.0, after_byte x.1)) = λ c. shut_same limit c (after_byte h) (after_byte k) (alike_behind limit h k lt a) in
    let digits = same_when limit (after_run is_digit h) (Ok (Text (run is_digit h), after_run is_digit h)) (Ok (Text (run is_digit k), after_run is_digit k)) (advances_ok (after_run is_digit h) (after_run is_digit h) (Text (run is_digit h)) (reaches_self (after_run is_digit h))) (λ below.
    same_ok limit (Text (run is_digit h)) (Text (run is_digit k)) (after_run is_digit h) (after_run is_digit k) (ap (λ t. Text t) (alike_run limit is_digit h k a below)) (λ _. alike_past limit is_digit h k a below)) in
    let macro = same_bind limit (name FieldPart (part_ends close) h) (name FieldPart (part_ends close) k) (λ n. Ok (Macro n.0 h.spot.line, n.1)) (λ n. Ok (Macro n.0 k.spot.line, n.1)) (name_same limit FieldPart (part_ends close) h k a) (λ n. advances_ok n.1 n.1 (Macro n.0 h.spot.line) (reaches_self n.1)) (λ n e g c is.
    same_ok limit (Macro n h.spot.line) (Macro n k.spot.line) e g (ap (λ (s : Spot). Macro n s.line) a.spot) (λ _. c)) in
    same_if limit (b == left_brace) _ _ _ _ (shut right_brace) (same_if limit (b == 34) _ _ _ _ (shut 34) (same_if limit (is_digit b) _ _ _ _ digits (same_if limit (is_name_byte b) _ _ _ _ macro (same_err limit MissingPart h k (λ _. a)))))

raw_part_same : (limit : ℕ) (close : Closing) (h k : Here) → Alike limit h k → Same limit (raw_part close h) (raw_part close k)
raw_part_same limit close h k a = same_when limit h (part_from close h (first h.rest)) (part_from close k (first k.rest)) (raw_part_advances_from close h (first h.rest)) (λ lt.
    subst (λ o. Same limit (part_from close h (first h.rest)) (part_from close k o)) (sym (alike_first limit h k lt a)) (raw_part_same_from limit close h k (first h.rest) lt a))

pub part_same : (limit : ℕ) (close : Closing) (h k : Here) → Alike limit h k → Same limit (part close h) (part close k)
unfolding part
part_same limit close h k a =
    same_bind limit (raw_part close h) (raw_part close k) (λ x. Ok (x.0, after_white x.1)) (λ x. Ok (x.0, after_white x.1)) (raw_part_same limit close h k a) (λ x. advances_ok x.1 (after_white x.1) x.0 (white_reaches x.1)) (λ x e g c is.
    same_ok limit x x (after_white e) (after_white g) refl (λ below. alike_past limit is_white e g c below))
