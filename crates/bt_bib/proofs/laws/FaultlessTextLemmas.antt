-- What is read without a fault is spelled by the bytes it was read from: runs of bytes, signs, names and enclosed
-- texts.
use Rattle.std.specs.Prelude.{◌==◌, ◌&&◌, ◌||◌, not}
use Rattle.std.specs.List.{list_all, list_any, take_while}
use Rattle.std.proofs.Common.{◌≡◌, ℕ, zero, suc, ◌+◌, ◌-◌, Bool, true, false, cond, List, [], ◌∷◌, ◌++◌, length, take, drop, Some, Result, Ok, Err, refl, sym, ap, subst, ◌∙◌, append_assoc, arith}
use Rattle.std.proofs.lemmas.List.{take_at, take-append-drop}
use Rattle.std.proofs.lemmas.List.Sums.{take_while-cons}
use Rattle.std.proofs.lemmas.Bool.{eqb-true, and_from}
use Rattle.bt_text.specs.ByteTests.{is_white, is_digit, left_brace, right_brace}
use Rattle.bt_text.specs.NameBytes.{is_name_byte, is_name}
use Rattle.bt_bib.specs.declared.spot.Spot.{Spot}
use Rattle.bt_bib.specs.declared.fault.ItemFault.{ItemFault}
use Rattle.bt_bib.specs.declared.fault.NameRole.{NameRole}
use Rattle.bt_bib.specs.declared.fault.ItemFault.TheVariants.{BadNameEnd, MissingName, UnbalancedBraces}
use Rattle.bt_bib.specs.declared.enclosure.Turn.{Turn}
use Rattle.bt_bib.specs.declared.enclosure.Turn.TheVariants as turns
use Rattle.bt_bib.specs.Spot.{Here, at, spot_after_byte, spot_after, after_byte}
use Rattle.bt_bib.specs.Scan.{first, run, after_run, after_white, sign}
use Rattle.bt_bib.specs.Stop.{Stop, ◌>>=◌}
use Rattle.bt_bib.specs.Names.{word, name_ended, name}
use Rattle.bt_bib.specs.Enclosure.{enclosed}
use Rattle.bt_bib.specs.inner.Enclosure.{turn}
use Rattle.bt_bib.specs.laws.Spelling.{Spelling, ◌▸◌, Both, ◌⋯◌, Bytes, Written, White, Sign, OnLine, IsEnclosed, Nothing, Byte, Group, MayEndName}
use Rattle.bt_bib.specs.laws.Spelled.{NameOf}
use Rattle.bt_bib.proofs.RunLemmas.{passed-nil, passed-cons, front_taken}
use Rattle.bt_bib.proofs.ReachLemmas.{passed-append}
use Rattle.bt_bib.proofs.EnclosedLemmas.{between, enclosed_run, enclosed_is_run}
use Rattle.bt_bib.proofs.laws.FitNameLemmas.{and_first}
use Rattle.bt_bib.proofs.laws.SpellingLemmas.{Stands, and_second, sign_passed}
use Rattle.bt_bib.proofs.laws.SpelledTextLemmas.{and_none, not_none}

-- The steps of a reading without a fault

pub bind_ok : {A B : Type 0} (r : Result A Stop) (f : A → Result B Stop) (y : B) → (r >>= f) ≡ Ok y → (x : A) × (r ≡ Ok x) × (f x ≡ Ok y)
bind_ok (Ok x) f y h = (x, refl, h)
bind_ok (Err stop) f y h = absurd (cc h)

pub if_ok : {A : Type 0} (v : Bool) (x y : A) (stop : Stop) → cond v (Ok x) (Err stop) ≡ Ok y → (v ≡ true) × (x ≡ y)
if_ok true x y stop h = (refl, cc h)
if_ok false x y stop h = absurd (cc h)

pub ok_same : {A : Type 0} (x y : A) → ◌≡◌ {A = Result A Stop} (Ok x) (Ok y) → x ≡ y
ok_same x y h = cc

-- Sequences

pub stands_both : (A B : Spelling) (h m k : Here) → Stands A h m → Stands B m k → Stands (A ▸ B) h k
stands_both A B h m k a b = record {
  text = a.text ++ b.text;
  spelled = Both a.spelled (subst (λ s. B s b.text) a.spot b.spelled);
  rest = a.rest ∙ ap (λ r. a.text ++ r) b.rest ∙ sym (append_assoc a.text b.text k.rest);
  spot = b.spot ∙ ap (spot_after b.text) a.spot ∙ sym (passed-append a.text b.text h.spot);
}

pub stands_spaced : (A B : Spelling) (h m n k : Here) → Stands A h m → Stands White m n → Stands B n k → Stands (A ⋯ B) h k
stands_spaced A B h m n k a w b = stands_both A (White ▸ B) h m k a (stands_both White B m n k w b)

pub stands_on : (A : Spelling) (h k : Here) → Stands A h k → Stands (OnLine h.spot.line A) h k
stands_on A h k a = record { text = a.text; spelled = (refl, a.spelled); rest = a.rest; spot = a.spot }

-- Runs

run_all_by : (v : Bool) (test : ℕ → Bool) (b : ℕ) (bs : List ℕ) → test b ≡ v → list_all test bs ≡ true → list_all test (cond v (b ∷ bs) []) ≡ true
run_all_by true test b bs is all = and_from (test b) (list_all test bs) is all
run_all_by false test b bs is all = refl

pub run_all : (test : ℕ → Bool) (r : List ℕ) → list_all test (take_while test r) ≡ true
run_all test [] = refl
run_all test (b ∷ bs) = subst (λ l. list_all test l ≡ true) (sym (take_while-cons test b bs)) (run_all_by (test b) test b (take_while test bs) refl (run_all test bs))

pub stands_run : (test : ℕ → Bool) (A : Spelling) (h : Here) → A h.spot (run test h) → Stands A h (after_run test h)
stands_run test A h a =
    let n = length (take_while test h.rest) in
    record { text = run test h; spelled = a; rest = sym (take-append-drop n h.rest) ∙ ap (λ t. t ++ drop n h.rest) (sym (front_taken test h.rest)); spot = refl }

pub stands_white : (h : Here) → Stands White h (after_white h)
stands_white h = stands_run is_white White h (run_all is_white h.rest)

-- Signs

stands_sign_at : (b : ℕ) (s : Spot) (r : List ℕ) → first r ≡ Some b → Stands (Sign b) (at s r) (after_byte (at s r))
stands_sign_at b s [] is = absurd (cc is)
stands_sign_at b s (c ∷ cs) is =
    let same : c ≡ b = cc is in
    record { text = c ∷ []; spelled = subst (λ b. Sign b s (c ∷ [])) same (Written tt); rest = refl; spot = sign_passed c s }

pub stands_sign : (b : ℕ) (h : Here) → first h.rest ≡ Some b → Stands (Sign b) h (after_byte h)
stands_sign b h is = stands_sign_at b h.spot h.rest is

read_sign_at : (b : ℕ) (fault : ItemFault) (s : Spot) (r : List ℕ) (k : Here) → sign b fault (at s r) ≡ Ok k → Stands (Sign b) (at s r) k
unfolding sign
read_sign_at b fault s [] k is = absurd (cc is)
read_sign_at b fault s (c ∷ cs) k is =
    let h = at s (c ∷ cs) in
    let t = if_ok (c == b) (after_byte h) k (fault, h) is in
    subst (Stands (Sign b) h) t.1 (stands_sign b h (ap (λ c. Some c) (eqb-true c b t.0)))

pub read_sign : (b : ℕ) (fault : ItemFault) (h k : Here) → sign b fault h ≡ Ok k → Stands (Sign b) h k
read_sign b fault h k is = read_sign_at b fault h.spot h.rest k is

-- Names

name_run : (b : ℕ) (bs : List ℕ) → (is_name_byte b && not (is_digit b)) ≡ true → is_name (take_while is_name_byte (b ∷ bs)) ≡ true
name_run b bs is =
    let byte = and_first (is_name_byte b) (not (is_digit b)) is in
    let rest = take_while is_name_byte bs in
    let whole : take_while is_name_byte (b ∷ bs) ≡ b ∷ rest = take_while-cons is_name_byte b bs ∙ ap (λ v. cond v (b ∷ rest) []) byte in
    subst (λ l. is_name l ≡ true) (sym whole) (and_from (not (is_digit b)) (list_all is_name_byte (b ∷ rest)) (and_second (is_name_byte b) (not (is_digit b)) is) (and_from (is_name_byte b) (list_all is_name_byte rest) byte (run_all is_name_byte bs)))

read_word_at : (what : NameRole) (s : Spot) (r n : List ℕ) (k : Here) → word what (at s r) ≡ Ok (n, k) → Stands (NameOf n) (at s r) k
unfolding word
read_word_at what s [] n k is = absurd (cc is)
read_word_at what s (b ∷ bs) n k is =
    let h = at s (b ∷ bs) in
    let found : List ℕ × Here = (run is_name_byte h, after_run is_name_byte h) in
    let expected : List ℕ × Here = (n, k) in
    let t = if_ok (is_name_byte b && not (is_digit b)) found expected (MissingName what, h) is in
    let Named : List ℕ × Here → Type 0 = λ x. Stands (NameOf x.0) h x.1 in
    subst Named t.1 (stands_run is_name_byte (NameOf (run is_name_byte h)) h (Written (name_run b bs t.0)))

pub read_word : (what : NameRole) (h : Here) (n : List ℕ) (k : Here) → word what h ≡ Ok (n, k) → Stands (NameOf n) h k
read_word what h n k is = read_word_at what h.spot h.rest n k is

read_ended_at : (what : NameRole) (signs : List ℕ) (s : Spot) (r : List ℕ) (k : Here) → name_ended what signs (at s r) ≡ Ok k → (at s r ≡ k) × MayEndName signs r
unfolding name_ended
read_ended_at what signs s [] k is = (ok_same (at s []) k is, tt)
read_ended_at what signs s (b ∷ bs) k is =
    let h = at s (b ∷ bs) in
    let t = if_ok (is_white b || list_any (λ sign. sign == b) signs) h k (BadNameEnd what b, h) is in
    (t.1, t.0)

pub read_ended : (what : NameRole) (signs : List ℕ) (h k : Here) → name_ended what signs h ≡ Ok k → (h ≡ k) × MayEndName signs h.rest
read_ended what signs h k is = read_ended_at what signs h.spot h.rest k is

pub read_name : (what : NameRole) (signs : List ℕ) (h : Here) (n : List ℕ) (k : Here) → name what signs h ≡ Ok (n, k) → Stands (NameOf n) h k
unfolding name
read_name what signs h n k is =
    let expected : List ℕ × Here = (n, k) in
    let w = bind_ok (word what h) (λ w. name_ended what signs w.1 >>= λ end. Ok (w.0, end)) expected is in
    let e = bind_ok (name_ended what signs w.0.1) (λ end. Ok (w.0.0, end)) expected w.2 in
    let found : List ℕ × Here = (w.0.0, e.0) in
    let Named : List ℕ × Here → Type 0 = λ x. Stands (NameOf x.0) h x.1 in
    subst Named (ok_same found expected e.2) (subst (Stands (NameOf w.0.0) h) (read_ended what signs w.0.1 e.0 e.1).0 (read_word what h w.0.0 w.0.1 w.1))

-- Enclosed texts

-- The rest of a text inside some open braces: for each of them, the rest of what it encloses and the brace that closes
-- it.
abbrev Unwinds : ℕ → ℕ → List ℕ → Type 0
Unwinds close zero text = IsEnclosed close text
Unwinds close (suc depth) text = (inner : List ℕ) × (rest : List ℕ) × (text ≡ inner ++ right_brace ∷ rest) × IsEnclosed right_brace inner × Unwinds close depth rest

goes_same : (a b : ℕ) → turns.Goes a ≡ turns.Goes b → a ≡ b
goes_same a b h = cc

-- a byte while no brace is open, case by case
flat_by : (close b n : ℕ) (text : List ℕ) (c l r : Bool) → (b == close) ≡ c → (b == left_brace) ≡ l → (b == right_brace) ≡ r → turns.Goes n ≡ cond (c && true) turns.Closes (cond l (turns.Goes 1) (cond r turns.Breaks (turns.Goes 0))) → Unwinds close n text → IsEnclosed close (b ∷ text)
flat_by close b n text true l r ce le re is u = absurd (cc is)
flat_by close b n text false true r ce le re is u =
    let one : Unwinds close 1 text = subst (λ n. Unwinds close n text) (goes_same n 1 is) u in
    let byte : b ≡ left_brace = eqb-true b left_brace le in
    subst (λ b. IsEnclosed close (b ∷ text)) (sym byte) (subst (λ t. IsEnclosed close (left_brace ∷ t)) (sym one.2) (Group one.3 one.4))
flat_by close b n text false false true ce le re is u = absurd (cc is)
flat_by close b n text false false false ce le re is u = Byte (ap (λ v. v || (b == right_brace)) le ∙ re) ce (subst (λ n. Unwinds close n text) (goes_same n 0 is) u)

deep_by : (close d b n : ℕ) (text : List ℕ) (l r : Bool) → (b == left_brace) ≡ l → (b == right_brace) ≡ r → turns.Goes n ≡ cond l (turns.Goes (suc (suc d))) (cond r (turns.Goes d) (turns.Goes (suc d))) → Unwinds close n text → Unwinds close (suc d) (b ∷ text)
deep_by close d b n text true r le re is u =
    let one : Unwinds close (suc (suc d)) text = subst (λ n. Unwinds close n text) (goes_same n (suc (suc d)) is) u in
    let two = one.4 in
    let byte : b ≡ left_brace = eqb-true b left_brace le in
    let inner = left_brace ∷ one.0 ++ right_brace ∷ two.0 in
    (inner, two.1, ap (λ b. b ∷ text) byte ∙ ap (λ t. left_brace ∷ t) (one.2 ∙ ap (λ r. one.0 ++ right_brace ∷ r) two.2 ∙ sym (append_assoc one.0 (right_brace ∷ two.0) (right_brace ∷ two.1))), Group one.3 two.3, two.4)
deep_by close d b n text false true le re is u = ([], text, ap (λ b. b ∷ text) (eqb-true b right_brace re), Nothing, subst (λ n. Unwinds close n text) (goes_same n d is) u)
deep_by close d b n text false false le re is u =
    let one : Unwinds close (suc d) text = subst (λ n. Unwinds close n text) (goes_same n (suc d) is) u in
    (b ∷ one.0, one.1, ap (λ t. b ∷ t) one.2, Byte (ap (λ v. v || (b == right_brace)) le ∙ re) re one.3, one.4)

-- what a byte does while a brace is open
deep_turn : (close d b : ℕ) → turn close (suc d) b ≡ cond (b == left_brace) (turns.Goes (suc (suc d))) (cond (b == right_brace) (turns.Goes d) (turns.Goes (suc d)))
deep_turn close d b =
    let more : suc d + 1 ≡ suc (suc d) = omega arith in
    let less : suc d - 1 ≡ d = omega arith in
    let rest : ℕ → ℕ → Turn = λ up down. cond (b == left_brace) (turns.Goes up) (cond (b == right_brace) (turns.Goes down) (turns.Goes (suc d))) in
    ap (λ v. cond (b == close && v) turns.Closes (cond (b == left_brace) (turns.Goes (suc d + 1)) (cond (b == right_brace) (cond v turns.Breaks (turns.Goes (suc d - 1))) (turns.Goes (suc d))))) (not_none d)
    ∙ ap (λ v. cond v turns.Closes (rest (suc d + 1) (suc d - 1))) (and_none (b == close)) ∙ ap (λ n. rest n (suc d - 1)) more ∙ ap (rest (suc (suc d))) less

goes_on : (close d b n : ℕ) (text : List ℕ) → turns.Goes n ≡ turn close d b → Unwinds close n text → Unwinds close d (b ∷ text)
goes_on close zero b n text is u = flat_by close b n text (b == close) (b == left_brace) (b == right_brace) refl refl refl is u
goes_on close (suc d) b n text is u = deep_by close d b n text (b == left_brace) (b == right_brace) refl refl (is ∙ deep_turn close d b) u

closes_flat : (close b : ℕ) (c l r : Bool) → (b == close) ≡ c → turns.Closes ≡ cond (c && true) turns.Closes (cond l (turns.Goes 1) (cond r turns.Breaks (turns.Goes 0))) → b ≡ close
closes_flat close b true l r ce is = eqb-true b close ce
closes_flat close b false true r ce is = absurd (cc is)
closes_flat close b false false true ce is = absurd (cc is)
closes_flat close b false false false ce is = absurd (cc is)

closes_deep : (d : ℕ) (l r : Bool) → turns.Closes ≡ cond l (turns.Goes (suc (suc d))) (cond r (turns.Goes d) (turns.Goes (suc d))) → ⊥
closes_deep d true r is = cc is
closes_deep d false true is = cc is
closes_deep d false false is = cc is

closes_at : (close d b : ℕ) → turns.Closes ≡ turn close d b → (d ≡ 0) × (b ≡ close)
closes_at close zero b is = (refl, closes_flat close b (b == close) (b == left_brace) (b == right_brace) refl is)
closes_at close (suc d) b is = absurd (closes_deep d (b == left_brace) (b == right_brace) (is ∙ deep_turn close d b))

record Found (close d : ℕ) (s : Spot) (r : List ℕ) (e : Here) : Type 0 where
  text : List ℕ
  unwinds : Unwinds close d text
  rest : r ≡ text ++ e.rest
  spot : e.spot ≡ spot_after text s
  closes : first e.rest ≡ Some close

abbrev what_follows : ℕ → Spot → ℕ → List ℕ → Turn → Result Here Stop
what_follows close s b bs turns.Closes = Ok (at s (b ∷ bs))
what_follows close s b bs turns.Breaks = Err (UnbalancedBraces, at s (b ∷ bs))
what_follows close s b bs (turns.Goes n) = enclosed_run close n (spot_after_byte b s) bs

found_by : (close d : ℕ) (s : Spot) (b : ℕ) (bs : List ℕ) (e : Here) (t : Turn) → t ≡ turn close d b → what_follows close s b bs t ≡ Ok e → ((n : ℕ) → enclosed_run close n (spot_after_byte b s) bs ≡ Ok e → Found close n (spot_after_byte b s) bs e) → Found close d s (b ∷ bs) e
found_by close d s b bs e turns.Closes turned is later =
    let c = closes_at close d b turned in
    subst (Found close d s (b ∷ bs)) (ok_same (at s (b ∷ bs)) e is) (record { text = []; unwinds = subst (λ d. Unwinds close d []) (sym c.0) Nothing; rest = refl; spot = sym (passed-nil s); closes = ap (λ b. Some b) c.1 })
found_by close d s b bs e turns.Breaks turned is later = absurd (cc is)
found_by close d s b bs e (turns.Goes n) turned is later =
    let f = later n is in
    record { text = b ∷ f.text; unwinds = goes_on close d b n f.text turned f.unwinds; rest = ap (λ r. b ∷ r) f.rest; spot = f.spot ∙ sym (passed-cons b f.text s); closes = f.closes }

found : (close d : ℕ) (s : Spot) (r : List ℕ) (e : Here) → enclosed_run close d s r ≡ Ok e → Found close d s r e
unfolding enclosed_run
found close d s [] e is = absurd (cc is)
found close d s (b ∷ bs) e is = found_by close d s b bs e (turn close d b) refl is (λ n. found close n (spot_after_byte b s) bs e)

pub between_is : (h e : Here) (text : List ℕ) → h.rest ≡ text ++ e.rest → e.spot ≡ spot_after text h.spot → between h e ≡ text
between_is h e text rest spot =
    let size : e.spot.place - h.spot.place ≡ length text = omega (arith, ap (λ (s : Spot). s.place) spot) in
    ap (λ n. take n h.rest) size ∙ ap (take (length text)) rest ∙ take_at text e.rest (length text) refl

pub read_enclosed : (close : ℕ) (h : Here) (text : List ℕ) (e : Here) → enclosed close h ≡ Ok (text, e) → Stands (Bytes text (IsEnclosed close text)) h e × (first e.rest ≡ Some close)
read_enclosed close h text e is =
    let expected : List ℕ × Here = (text, e) in
    let r = bind_ok (enclosed_run close 0 h.spot h.rest) (λ e. Ok (between h e, e)) expected (sym (enclosed_is_run close h) ∙ is) in
    let f = found close 0 h.spot h.rest r.0 r.1 in
    let same : (between h r.0, r.0) ≡ expected = ok_same (between h r.0, r.0) expected r.2 in
    let this : f.text ≡ text = sym (between_is h r.0 f.text f.rest f.spot) ∙ ap (λ (x : List ℕ × Here). x.0) same in
    let end : r.0 ≡ e = ap (λ (x : List ℕ × Here). x.1) same in
    let there : Stands (Bytes f.text (IsEnclosed close f.text)) h r.0 = record { text = f.text; spelled = Written f.unwinds; rest = f.rest; spot = f.spot } in
    (subst (Stands (Bytes text (IsEnclosed close text)) h) end (subst (λ t. Stands (Bytes t (IsEnclosed close t)) h r.0) this there), ap (λ (k : Here). first k.rest) (sym end) ∙ f.closes)
