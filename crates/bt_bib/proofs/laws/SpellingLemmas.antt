-- Spelled texts at their places, and how runs of bytes, signs and names are read there.
use Rattle.std.specs.Prelude.{◌==◌, ◌&&◌, ◌||◌, not}
use Rattle.std.specs.List.{list_all, list_any, take_while}
use Rattle.std.proofs.Common.{◌≡◌, ℕ, Bool, true, false, cond, List, [], ◌∷◌, ◌++◌, Some, Result, Ok, Err, refl, sym, ap, subst, ◌∙◌, append_assoc}
use Rattle.std.proofs.lemmas.Bool.{eq-eqb, eqb-true, ne_eqb, false≢true, or_right, or_left}
use Rattle.std.proofs.lemmas.List.Sums.{take_while-cons}
use Rattle.bt_text.specs.ByteTests.{is_white, is_digit}
use Rattle.bt_text.specs.NameBytes.{is_name_byte, is_name}
use Rattle.bt_bib.specs.declared.spot.Spot.{Spot}
use Rattle.bt_bib.specs.declared.fault.ItemFault.{ItemFault}
use Rattle.bt_bib.specs.declared.fault.NameRole.{NameRole}
use Rattle.bt_bib.specs.declared.fault.ItemFault.TheVariants.{BadNameEnd, MissingName}
use Rattle.bt_bib.specs.Spot.{Here, at, spot_after_byte, spot_after, after_byte}
use Rattle.bt_bib.specs.Scan.{first, run, after_run, after_white, sign}
use Rattle.bt_bib.specs.Stop.{Stop, ◌>>=◌}
use Rattle.bt_bib.specs.Names.{word, name_ended, name}
use Rattle.bt_bib.specs.laws.Spelling.{Spelling, ◌▸◌, Both, ◌or◌, This, That, Bytes, Written, White, Sign, OnLine, BeginsBy, MayEndName}
use Rattle.bt_bib.proofs.RunLemmas.{passed-nil, passed-cons, past_run, past_is_run, run_more, run_stop}
use Rattle.bt_bib.proofs.ReachLemmas.{passed-append}
use Rattle.bt_bib.proofs.laws.CutLemmas.{Begins, Fails}
use Rattle.bt_bib.proofs.laws.FitNameLemmas.{and_first}

-- The text from h up to k is spelled this way.
pub record Stands (A : Spelling) (h k : Here) : Type 0 where
  pub text : List ℕ
  pub spelled : A h.spot text
  pub rest : h.rest ≡ text ++ k.rest
  pub spot : k.spot ≡ spot_after text h.spot

pub stands_at : (A : Spelling) (s : Spot) (text rest : List ℕ) → A s text → Stands A (at s (text ++ rest)) (at (spot_after text s) rest)
stands_at A s text rest a = record { text = text; spelled = a; rest = refl; spot = refl }

-- what holds of each such text, whatever follows it
pub standing : (A : Spelling) (P : Here → Here → Type 0) → ((s : Spot) (text rest : List ℕ) → A s text → P (at s (text ++ rest)) (at (spot_after text s) rest)) → (h k : Here) → Stands A h k → P h k
standing A P f h k x =
    let on_text : List ℕ → Type 0 = λ r. P (at h.spot r) k in
    let on_spot : Spot → Type 0 = λ s. P (at h.spot (x.text ++ k.rest)) (at s k.rest) in
    subst on_text (sym x.rest) (subst on_spot (sym x.spot) (f h.spot x.text k.rest x.spelled))

-- the place between two that follow one another
pub record Split (A B : Spelling) (h k : Here) : Type 0 where
  pub mid : Here
  pub front : Stands A h mid
  pub back : Stands B mid k

split_at : (A B : Spelling) (s : Spot) (text rest : List ℕ) → (A ▸ B) s text → Split A B (at s (text ++ rest)) (at (spot_after text s) rest)
split_at A B s text rest (Both {front = t} {back = u} a b) = record {
  mid = at (spot_after t s) (u ++ rest);
  front = record { text = t; spelled = a; rest = append_assoc t u rest; spot = refl };
  back = record { text = u; spelled = b; rest = refl; spot = passed-append t u s };
}

pub split : (A B : Spelling) (h k : Here) → Stands (A ▸ B) h k → Split A B h k
split A B h k x = standing (A ▸ B) (Split A B) (split_at A B) h k x

-- Which bytes come first

pub and_second : (a b : Bool) → (a && b) ≡ true → b ≡ true
and_second true b h = h
and_second false b h = absurd (false≢true h)

-- Each text that is spelled this way begins with a byte that satisfies the condition.
abbrev pub Starts : (ℕ → Type 0) → Spelling → Type 0
Starts P A = (s : Spot) (text : List ℕ) → A s text → Begins P text

pub begins_on : {P : ℕ → Type 0} (text rest : List ℕ) → Begins P text → Begins P (text ++ rest)
begins_on text rest b = record { byte = b.byte; rest = b.rest ++ rest; is = ap (λ l. l ++ rest) b.is; fits = b.fits }

pub starts_both : (P : ℕ → Type 0) (A B : Spelling) → Starts P A → Starts P (A ▸ B)
starts_both P A B k s text (Both {front = t} {back = u} a b) = begins_on t u (k s t a)

white_by : (P : ℕ → Type 0) (A : Spelling) → ((b : ℕ) → is_white b ≡ true → P b) → Starts P A → (s : Spot) (w text : List ℕ) → White s w → A (spot_after w s) text → Begins P (w ++ text)
white_by P A of_white k s [] text w a = k (spot_after [] s) text a
white_by P A of_white k s (b ∷ bs) text w a = record { byte = b; rest = bs ++ text; is = refl; fits = of_white b (and_first (is_white b) (list_all is_white bs) w) }

pub starts_white : (P : ℕ → Type 0) (A : Spelling) → ((b : ℕ) → is_white b ≡ true → P b) → Starts P A → Starts P (White ▸ A)
starts_white P A of_white k s text (Both {front = t} {back = u} w a) = white_by P A of_white k s t u w a

pub begins_here : (P : ℕ → Type 0) (A : Spelling) → Starts P A → (h k : Here) → Stands A h k → Begins P h.rest
begins_here P A k h e x = subst (Begins P) (sym x.rest) (begins_on x.text e.rest (k h.spot x.text x.spelled))

pub starts_bytes : (P : ℕ → Type 0) (b : ℕ) (bs : List ℕ) (IsRight : Type 0) → (IsRight → P b) → Starts P (Bytes (b ∷ bs) IsRight)
starts_bytes P b bs IsRight k s text (Written is) = record { byte = b; rest = bs; is = refl; fits = k is }

pub starts_or : (P : ℕ → Type 0) (A B : Spelling) → Starts P A → Starts P B → Starts P (A or B)
starts_or P A B a b s text (This x) = a s text x
starts_or P A B a b s text (That x) = b s text x

front_by : (P : ℕ → Type 0) → ((b : ℕ) → is_white b ≡ true → P b) → (s : Spot) (text rest : List ℕ) → White s text → Begins P rest → Begins P (text ++ rest)
front_by P of_white s [] rest w b = b
front_by P of_white s (c ∷ cs) rest w b = record { byte = c; rest = cs ++ rest; is = refl; fits = of_white c (and_first (is_white c) (list_all is_white cs) w) }

-- before white space, given what follows it
pub white_front : (P : ℕ → Type 0) → ((b : ℕ) → is_white b ≡ true → P b) → (h k : Here) → Stands White h k → Begins P k.rest → Begins P h.rest
white_front P of_white h k x b = standing White (λ h k. Begins P k.rest → Begins P h.rest) (front_by P of_white) h k x b

-- a spelling on a line: the line, and the spelling alone
pub on_line : (line : ℕ) (A : Spelling) (h k : Here) → Stands (OnLine line A) h k → (line ≡ h.spot.line) × Stands A h k
on_line line A h k x = (x.spelled.0, record { text = x.text; spelled = x.spelled.1; rest = x.rest; spot = x.spot })

either_at : {X : Type 0} (A B : Spelling) (s : Spot) (rest : List ℕ) (k : Here) (text : List ℕ) → (A or B) s text → rest ≡ text ++ k.rest → k.spot ≡ spot_after text s → (Stands A (at s rest) k → X) → (Stands B (at s rest) k → X) → X
either_at A B s rest k text (This a) r e f g = f (record { text = text; spelled = a; rest = r; spot = e })
either_at A B s rest k text (That b) r e f g = g (record { text = text; spelled = b; rest = r; spot = e })

-- one or the other is here
pub either : {X : Type 0} (A B : Spelling) (h k : Here) → Stands (A or B) h k → (Stands A h k → X) → (Stands B h k → X) → X
either A B h k x f g = either_at A B h.spot h.rest k x.text x.spelled x.rest x.spot f g

-- a byte of some signs, and one that may follow a name
abbrev pub IsOne : List ℕ → ℕ → Type 0
IsOne signs b = list_any (λ sign. sign == b) signs ≡ true

abbrev pub MayEnd : List ℕ → ℕ → Type 0
MayEnd signs b = (is_white b || list_any (λ sign. sign == b) signs) ≡ true

pub or_cases : {X : Type 0} (a b : Bool) → (a || b) ≡ true → (a ≡ true → X) → (b ≡ true → X) → X
or_cases true b h f g = f refl
or_cases false b h f g = g h

pub may_white : (signs : List ℕ) (b : ℕ) → is_white b ≡ true → MayEnd signs b
may_white signs b h = or_left (is_white b) (list_any (λ sign. sign == b) signs) h

pub may_one : (signs : List ℕ) (b : ℕ) → IsOne signs b → MayEnd signs b
may_one signs b h = or_right (is_white b) (list_any (λ sign. sign == b) signs) h

-- a test that none of some signs passes
abbrev pub FailsAll : (ℕ → Bool) → List ℕ → Type 0
FailsAll test signs = list_all (λ c. not (test c)) signs ≡ true

not_false : (v : Bool) → not v ≡ true → v ≡ false
not_false true h = absurd (false≢true h)
not_false false h = refl

same_fails : (test : ℕ → Bool) (c b : ℕ) → not (test c) ≡ true → (c == b) ≡ true → test b ≡ false
same_fails test c b h e = ap test (sym (eqb-true c b e)) ∙ not_false (test c) h

pub one_fails : (test : ℕ → Bool) (signs : List ℕ) → FailsAll test signs → (b : ℕ) → IsOne signs b → test b ≡ false
one_fails test [] all b h = absurd (false≢true h)
one_fails test (c ∷ signs) all b h = or_cases (c == b) (list_any (λ sign. sign == b) signs) h (same_fails test c b (and_first (not (test c)) (list_all (λ c. not (test c)) signs) all)) (one_fails test signs (and_second (not (test c)) (list_all (λ c. not (test c)) signs) all) b)

same_byte_fails : (test : ℕ → Bool) (c b : ℕ) → test c ≡ false → (b == c) ≡ true → test b ≡ false
same_byte_fails test c b h e = ap test (eqb-true b c e) ∙ h

pub white_fails : (test : ℕ → Bool) → test 9 ≡ false → test 10 ≡ false → test 13 ≡ false → test 32 ≡ false → (b : ℕ) → is_white b ≡ true → test b ≡ false
white_fails test tab line_feed return space b h =
    or_cases (b == 9 || b == 10 || b == 13) (b == 32) h (λ h. or_cases (b == 9 || b == 10) (b == 13) h (λ h. or_cases (b == 9) (b == 10) h (same_byte_fails test 9 b tab) (same_byte_fails test 10 b line_feed)) (same_byte_fails test 13 b return)) (same_byte_fails test 32 b space)

-- no byte passes both of two tests
pub passes_one : (a b : Bool) → (a ≡ true → b ≡ false) → b ≡ true → a ≡ false
passes_one true b k h = absurd (false≢true (sym (k refl) ∙ h))
passes_one false b k h = refl

-- no byte that passes a test is a sign that fails it
pub other : (test : ℕ → Bool) (c b : ℕ) → test c ≡ false → test b ≡ true → (b == c) ≡ false
other test c b fails passes = ne_eqb b c (λ e. false≢true (sym fails ∙ ap test (sym e) ∙ passes))

-- Runs

-- what ends a run
abbrev pub Stops : (ℕ → Bool) → List ℕ → Type 0
Stops test [] = Unit {0}
Stops test (b ∷ rest) = test b ≡ false

pub stops_from : (test : ℕ → Bool) (rest : List ℕ) → Begins (Fails test) rest → Stops test rest
stops_from test rest b = subst (Stops test) (sym b.is) b.fits

pub ends_from : (signs rest : List ℕ) → Begins (MayEnd signs) rest → MayEndName signs rest
ends_from signs rest b = subst (MayEndName signs) (sym b.is) b.fits

pub one_begins : (signs rest : List ℕ) → BeginsBy signs rest → Begins (IsOne signs) rest
one_begins signs [] h = absurd h
one_begins signs (b ∷ rest) h = record { byte = b; rest = rest; is = refl; fits = h }

run_to : (test : ℕ → Bool) (s : Spot) (text rest : List ℕ) → list_all test text ≡ true → Stops test rest → past_run test s (text ++ rest) ≡ at (spot_after text s) rest
unfolding past_run
run_to test s [] [] all stop = ap (λ u. at u []) (sym (passed-nil s))
run_to test s [] (b ∷ rest) all stop = run_stop test s b rest stop ∙ ap (λ u. at u (b ∷ rest)) (sym (passed-nil s))
run_to test s (b ∷ text) rest all stop =
    run_more test s b (text ++ rest) (and_first (test b) (list_all test text) all) ∙ run_to test (spot_after_byte b s) text rest (and_second (test b) (list_all test text) all) stop ∙ ap (λ u. at u rest) (sym (passed-cons b text s))

pub past_to : (test : ℕ → Bool) (s : Spot) (text rest : List ℕ) → list_all test text ≡ true → Stops test rest → after_run test (at s (text ++ rest)) ≡ at (spot_after text s) rest
past_to test s text rest all stop = past_is_run test s (text ++ rest) ∙ run_to test s text rest all stop

pub run_is : (test : ℕ → Bool) (text rest : List ℕ) → list_all test text ≡ true → Stops test rest → take_while test (text ++ rest) ≡ text
run_is test [] [] all stop = refl
run_is test [] (b ∷ rest) all stop = take_while-cons test b rest ∙ ap (λ v. cond v (b ∷ take_while test rest) []) stop
run_is test (b ∷ text) rest all stop =
    take_while-cons test b (text ++ rest) ∙ ap (λ v. cond v (b ∷ take_while test (text ++ rest)) []) (and_first (test b) (list_all test text) all) ∙ ap (λ (l : List ℕ). b ∷ l) (run_is test text rest (and_second (test b) (list_all test text) all) stop)

pub white_to : (h k : Here) → Stands White h k → Begins (Fails is_white) k.rest → after_white h ≡ k
white_to h k x stop = standing White (λ h k. Begins (Fails is_white) k.rest → after_white h ≡ k) (λ s text rest all stop. past_to is_white s text rest all (stops_from is_white rest stop)) h k x stop

-- Signs

pub sign_passed : (b : ℕ) (s : Spot) → spot_after_byte b s ≡ spot_after (b ∷ []) s
sign_passed b s = sym (passed-cons b [] s ∙ passed-nil (spot_after_byte b s))

-- the sign is here, and something follows it
pub record OneStands (b : ℕ) (h k : Here) : Type 0 where
  pub is : h.rest ≡ b ∷ k.rest
  pub first : first h.rest ≡ Some b
  pub after_byte : after_byte h ≡ k

sign_at : (b : ℕ) (s : Spot) (text rest : List ℕ) → Sign b s text → OneStands b (at s (text ++ rest)) (at (spot_after text s) rest)
sign_at b s text rest (Written u) = record { is = refl; first = refl; after_byte = ap (λ s. at s rest) (sign_passed b s) }

pub sign_stands : (b : ℕ) (h k : Here) → Stands (Sign b) h k → OneStands b h k
sign_stands b h k x = standing (Sign b) (OneStands b) (sign_at b) h k x

sign_by : (b : ℕ) (fault : ItemFault) (s : Spot) (rest : List ℕ) → sign b fault (at s (b ∷ rest)) ≡ Ok (at (spot_after_byte b s) rest)
unfolding sign
sign_by b fault s rest = ap (λ v. cond v (Ok (at (spot_after_byte b s) rest)) (Err (fault, at s (b ∷ rest)))) (eq-eqb b b refl)

pub sign_to : (b : ℕ) (fault : ItemFault) (h k : Here) → Stands (Sign b) h k → sign b fault h ≡ Ok k
sign_to b fault h k x =
    let one = sign_stands b h k x in
    let here_is : h ≡ at h.spot (b ∷ k.rest) = ap (at h.spot) one.is in
    ap (sign b fault) here_is ∙ sign_by b fault h.spot k.rest ∙ ap (λ k. Ok k) (ap after_byte (sym here_is) ∙ one.after_byte)

-- Names

first_of_name : (b : ℕ) (text : List ℕ) → is_name (b ∷ text) ≡ true → (is_name_byte b && not (is_digit b)) ≡ true
first_of_name b text is =
    let all = and_second (not (is_digit b)) (list_all is_name_byte (b ∷ text)) is in
    ap (λ v. v && not (is_digit b)) (and_first (is_name_byte b) (list_all is_name_byte text) all) ∙ and_first (not (is_digit b)) (list_all is_name_byte (b ∷ text)) is

pub word_to : (what : NameRole) (s : Spot) (text rest : List ℕ) → is_name text ≡ true → Stops is_name_byte rest → word what (at s (text ++ rest)) ≡ Ok (text, at (spot_after text s) rest)
unfolding word
word_to what s [] rest is stop = absurd (false≢true is)
word_to what s (b ∷ text) rest is stop =
    let h = at s (b ∷ text ++ rest) in
    let all = and_second (not (is_digit b)) (list_all is_name_byte (b ∷ text)) is in
    ap (λ v. cond v (Ok (run is_name_byte h, after_run is_name_byte h)) (Err (MissingName what, h))) (first_of_name b text is) ∙ ap (λ t. Ok (t, after_run is_name_byte h)) (run_is is_name_byte (b ∷ text) rest all stop) ∙ ap (λ k. Ok (b ∷ text, k)) (past_to is_name_byte s (b ∷ text) rest all stop)

pub ended_to : (what : NameRole) (signs : List ℕ) (s : Spot) (rest : List ℕ) → MayEndName signs rest → name_ended what signs (at s rest) ≡ Ok (at s rest)
unfolding name_ended
ended_to what signs s [] h = refl
ended_to what signs s (b ∷ rest) h = ap (λ v. cond v (Ok (at s (b ∷ rest))) (Err (BadNameEnd what b, at s (b ∷ rest)))) h

-- No sign that may follow a name is a byte of a name.
abbrev pub AreBare : List ℕ → Type 0
AreBare signs = FailsAll is_name_byte signs

pub bare : (signs rest : List ℕ) → AreBare signs → MayEndName signs rest → Stops is_name_byte rest
bare signs [] all h = tt
bare signs (b ∷ rest) all h = or_cases (is_white b) (list_any (λ sign. sign == b) signs) h (white_fails is_name_byte refl refl refl refl b) (one_fails is_name_byte signs all b)

abbrev pub NameAt : List ℕ → Spelling
NameAt text = Bytes text (is_name text ≡ true)

pub name_at : (what : NameRole) (signs text : List ℕ) → AreBare signs → (s : Spot) (t rest : List ℕ) → NameAt text s t → MayEndName signs rest → name what signs (at s (t ++ rest)) ≡ Ok (text, at (spot_after t s) rest)
unfolding name
name_at what signs text all s t rest (Written is) ends =
    ap (λ (r : Result (List ℕ × Here) Stop). r >>= λ w. name_ended what signs w.1 >>= λ end. Ok (w.0, end)) (word_to what s text rest is (bare signs rest all ends)) ∙ ap (λ (r : Result Here Stop). r >>= λ end. Ok (text, end)) (ended_to what signs (spot_after text s) rest ends)

pub name_to : (what : NameRole) (signs text : List ℕ) (h k : Here) → AreBare signs → Stands (NameAt text) h k → MayEndName signs k.rest → name what signs h ≡ Ok (text, k)
name_to what signs text h k all x ends = standing (NameAt text) (λ h k. MayEndName signs k.rest → name what signs h ≡ Ok (text, k)) (name_at what signs text all) h k x ends
