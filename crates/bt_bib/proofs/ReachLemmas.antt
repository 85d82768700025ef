-- Each reader moves forward over bytes of the text, and ends where they end.
use Rattle.std.specs.Prelude.{◌==◌}
use Rattle.std.specs.List.{take_while}
use Rattle.std.proofs.Common.{◌≡◌, ℕ, zero, suc, ◌+◌, ◌≤◌, Bool, true, false, cond, List, [], ◌∷◌, ◌++◌, length, drop, Option, Some, None, Result, Ok, Err, refl, sym, ap, subst, ◌∙◌, append_assoc, length-append, arith}
use Rattle.std.proofs.lemmas.List.Sums.{take_while-cons}
use Rattle.bt_text.specs.ByteTests.{is_white, is_digit, left_brace, right_brace}
use Rattle.bt_text.specs.NameBytes.{is_name_byte}
use Rattle.bt_bib.specs.declared.spot.Spot.{Spot}
use Rattle.bt_bib.specs.declared.enclosure.Turn.TheVariants as turns
use Rattle.bt_bib.specs.declared.fault.NameRole.{NameRole}
use Rattle.bt_bib.specs.declared.fault.NameRole.TheVariants.{FieldName, FieldPart}
use Rattle.bt_bib.specs.declared.fault.ItemFault.{ItemFault}
use Rattle.bt_bib.specs.declared.fault.ItemFault.TheVariants.{UnbalancedBraces, EndOfFile, ExpectedEquals, ExpectedCommaOrClose, MissingPart}
use Rattle.bt_bib.specs.declared.item.Closing.{Closing}
use Rattle.bt_bib.specs.declared.item.Part.TheVariants.{Text, Macro}
use Rattle.bt_bib.specs.Spot.{Here, at, spot_after_byte, spot_after, after_byte, after_first_byte}
use Rattle.bt_bib.specs.Stop.{Stop, ◌>>=◌}
use Rattle.bt_bib.specs.Scan.{run, after_run, after_white, first, sign, closing_sign}
use Rattle.bt_bib.specs.Enclosure.{enclosed}
use Rattle.bt_bib.specs.inner.Enclosure.{turn}
use Rattle.bt_bib.specs.Names.{word, name_ended, name}
use Rattle.bt_bib.specs.Many.{many, all, collected}
use Rattle.bt_bib.specs.Values.{part, part_ends, next_part, value}
use Rattle.bt_bib.specs.Fields.{field, next_field, name_ends}
use Rattle.bt_bib.specs.inner.Cases.{field_or_close, next_field_from, many_by, word_from, ended_from, sign_from, raw_part, part_from, joined_from}
use Rattle.bt_bib.proofs.RunLemmas.{passed-nil, passed-cons}
use Rattle.bt_bib.proofs.EnclosedLemmas.{enclosed_run, enclosed_is_run, between}

pub passed-append : (f g : List ℕ) (s : Spot) → spot_after (f ++ g) s ≡ spot_after g (spot_after f s)
passed-append [] g s = ap (spot_after g) (sym (passed-nil s))
passed-append (b ∷ f) g s = passed-cons b (f ++ g) s ∙ passed-append f g (spot_after_byte b s) ∙ ap (spot_after g) (sym (passed-cons b f s))

-- from h some bytes lead to e
pub record Reaches (h e : Here) : Type 0 where
  pub front : List ℕ
  pub parts : h.rest ≡ front ++ e.rest
  pub spot : e.spot ≡ spot_after front h.spot

pub reaches_self : (h : Here) → Reaches h h
reaches_self h = record { front = []; parts = refl; spot = sym (passed-nil h.spot) }

pub reaches_then : (h e k : Here) → Reaches h e → Reaches e k → Reaches h k
reaches_then h e k a b = record {
  front = a.front ++ b.front;
  parts = a.parts ∙ ap (λ r. a.front ++ r) b.parts ∙ sym (append_assoc a.front b.front k.rest);
  spot = b.spot ∙ ap (spot_after b.front) a.spot ∙ sym (passed-append a.front b.front h.spot);
}

pub reaches_one : (b : ℕ) (bs : List ℕ) (s : Spot) (e : Here) → Reaches (at (spot_after_byte b s) bs) e → Reaches (at s (b ∷ bs)) e
reaches_one b bs s e r = record { front = b ∷ r.front; parts = ap (λ x. b ∷ x) r.parts; spot = r.spot ∙ sym (passed-cons b r.front s) }

pub reaches_place : (h e : Here) → Reaches h e → h.spot.place ≤ e.spot.place
reaches_place h e r = omega (arith, ap (λ (s : Spot). s.place) r.spot)

pub reaches_rest : (h e : Here) → Reaches h e → length e.rest ≤ length h.rest
reaches_rest h e r = omega (arith, ap length r.parts, length-append r.front e.rest)

pub reaches_sum : (h e : Here) → Reaches h e → e.spot.place + length e.rest ≡ h.spot.place + length h.rest
reaches_sum h e r = omega (arith, ap length r.parts, length-append r.front e.rest, ap (λ (s : Spot). s.place) r.spot)

abbrev pub EndsAhead : {A : Type 0} → Here → Result (A × Here) Stop → Type 0
EndsAhead h (Ok x) = Reaches h x.1
EndsAhead h (Err x) = Reaches h x.1

abbrev pub FindsAhead : Here → Result Here Stop → Type 0
FindsAhead h (Ok e) = Reaches h e
FindsAhead h (Err x) = Reaches h x.1

-- a record, so that search finds what it is about
pub record Advances {A : Type 0} (h : Here) (r : Result (A × Here) Stop) : Type 0 where
  pub ahead : EndsAhead h r

pub record Moves (h : Here) (r : Result Here Stop) : Type 0 where
  pub ahead : FindsAhead h r

pub advances_ok : {A : Type 0} (h e : Here) (a : A) → Reaches h e → Advances h (Ok (a, e))
advances_ok h e a r = record { ahead = r }

pub advances_err : {A : Type 0} (h e : Here) (f : ItemFault) → Reaches h e → Advances {A = A} h (Err (f, e))
advances_err h e f r = record { ahead = r }

pub moves_ok : (h e : Here) → Reaches h e → Moves h (Ok e)
moves_ok h e r = record { ahead = r }

pub moves_err : (h e : Here) (f : ItemFault) → Reaches h e → Moves h (Err (f, e))
moves_err h e f r = record { ahead = r }

pub advances_from : {A : Type 0} (h e : Here) (r : Result (A × Here) Stop) → Reaches h e → Advances e r → Advances h r
advances_from h e (Ok x) a b = record { ahead = reaches_then h e x.1 a b.ahead }
advances_from h e (Err x) a b = record { ahead = reaches_then h e x.1 a b.ahead }

pub moves_from : (h e : Here) (r : Result Here Stop) → Reaches h e → Moves e r → Moves h r
moves_from h e (Ok x) a b = record { ahead = reaches_then h e x a b.ahead }
moves_from h e (Err x) a b = record { ahead = reaches_then h e x.1 a b.ahead }

pub advances_bind : {A B : Type 0} (h : Here) (r : Result (A × Here) Stop) (f : A × Here → Result (B × Here) Stop) → Advances h r → ((x : A × Here) → Advances x.1 (f x)) → Advances h (r >>= f)
advances_bind h (Ok x) f a k = advances_from h x.1 (f x) a.ahead (k x)
advances_bind h (Err x) f a k = record { ahead = a.ahead }

pub moves_bind : {B : Type 0} (h : Here) (r : Result Here Stop) (f : Here → Result (B × Here) Stop) → Moves h r → ((e : Here) → Advances e (f e)) → Advances h (r >>= f)
moves_bind h (Ok x) f a k = advances_from h x (f x) a.ahead (k x)
moves_bind h (Err x) f a k = record { ahead = a.ahead }

pub advances_if : {A : Type 0} (h : Here) (b : Bool) (x y : Result (A × Here) Stop) → Advances h x → Advances h y → Advances h (cond b x y)
advances_if h true x y a b = a
advances_if h false x y a b = b

pub moves_if : (h : Here) (b : Bool) (x y : Result Here Stop) → Moves h x → Moves h y → Moves h (cond b x y)
moves_if h true x y a b = a
moves_if h false x y a b = b

behind_reaches_run : (s : Spot) (r : List ℕ) → Reaches (at s r) (after_first_byte s r)
behind_reaches_run s [] = reaches_self (at s [])
behind_reaches_run s (b ∷ bs) = reaches_one b bs s (at (spot_after_byte b s) bs) (reaches_self (at (spot_after_byte b s) bs))

pub behind_reaches : (h : Here) → Reaches h (after_byte h)
behind_reaches h = behind_reaches_run h.spot h.rest

run_parts : (test : ℕ → Bool) (r : List ℕ) → r ≡ take_while test r ++ drop (length (take_while test r)) r
run_parts test [] = refl
run_parts test (b ∷ bs) =
    let P : List ℕ → Type 0 = λ front. b ∷ bs ≡ front ++ drop (length front) (b ∷ bs) in
    subst P (sym (take_while-cons test b bs)) (elim (test b) as (λ v. P (cond v (b ∷ take_while test bs) [])) [
      | true ↦ ap (λ (r : List ℕ). b ∷ r) (run_parts test bs)
      | false ↦ refl
    ])

pub past_reaches : (test : ℕ → Bool) (h : Here) → Reaches h (after_run test h)
past_reaches test h = record { front = run test h; parts = run_parts test h.rest; spot = refl }

moves_one : (b : ℕ) (bs : List ℕ) (s : Spot) (r : Result Here Stop) → Moves (at (spot_after_byte b s) bs) r → Moves (at s (b ∷ bs)) r
moves_one b bs s r m = moves_from (at s (b ∷ bs)) (at (spot_after_byte b s) bs) r (reaches_one b bs s (at (spot_after_byte b s) bs) (reaches_self (at (spot_after_byte b s) bs))) m

pub enclosed_moves_run : (close d : ℕ) (s : Spot) (r : List ℕ) → Moves (at s r) (enclosed_run close d s r)
unfolding enclosed_run
enclosed_moves_run close d s [] = moves_err _ _ _ (reaches_self (at s []))
enclosed_moves_run close d s (b ∷ bs) =
    elim (turn close d b) as (λ t. Moves (at s (b ∷ bs)) (elim t [
      | turns.Closes ↦ Ok (at s (b ∷ bs))
      | turns.Breaks ↦ Err (UnbalancedBraces, at s (b ∷ bs))
      | turns.Goes e ↦ enclosed_run close e (spot_after_byte b s) bs
    ])) [
      | turns.Closes ↦ moves_ok _ _ (reaches_self (at s (b ∷ bs)))
      | turns.Breaks ↦ moves_err _ _ _ (reaches_self (at s (b ∷ bs)))
      | turns.Goes e ↦ moves_one b bs s (enclosed_run close e (spot_after_byte b s) bs) (enclosed_moves_run close e (spot_after_byte b s) bs)
    ]

enclosed_advances_taken : (h k : Here) (r : Result Here Stop) → Moves h r → Advances h (r >>= λ e. Ok (between k e, e))
enclosed_advances_taken h k (Ok e) m = record { ahead = m.ahead }
enclosed_advances_taken h k (Err stop) m = record { ahead = m.ahead }

pub enclosed_advances : (close : ℕ) (h : Here) → Advances h (enclosed close h)
enclosed_advances close h = subst (λ r. Advances h r) (sym (enclosed_is_run close h)) (enclosed_advances_taken h h (enclosed_run close 0 h.spot h.rest) (enclosed_moves_run close 0 h.spot h.rest))

pub white_reaches : (h : Here) → Reaches h (after_white h)
white_reaches h = past_reaches is_white h

pub word_advances_from : (what : NameRole) (h : Here) (o : Option ℕ) → Advances h (word_from what h o)
word_advances_from what h None = search (advances_err, reaches_self)
word_advances_from what h (Some b) = search (advances_if, advances_ok, advances_err, reaches_self, past_reaches)

pub word_advances : (what : NameRole) (h : Here) → Advances h (word what h)
unfolding word
word_advances what h = word_advances_from what h (first h.rest)

pub ended_moves_from : (what : NameRole) (signs : List ℕ) (h : Here) (o : Option ℕ) → Moves h (ended_from what signs h o)
ended_moves_from what signs h None = search (moves_ok, reaches_self)
ended_moves_from what signs h (Some b) = search (moves_if, moves_ok, moves_err, reaches_self)

pub ended_moves : (what : NameRole) (signs : List ℕ) (h : Here) → Moves h (name_ended what signs h)
unfolding name_ended
ended_moves what signs h = ended_moves_from what signs h (first h.rest)

pub name_advances : (what : NameRole) (signs : List ℕ) (h : Here) → Advances h (name what signs h)
unfolding name
name_advances what signs h = advances_bind h (word what h) (λ w. name_ended what signs w.1 >>= λ end. Ok (w.0, end)) (word_advances what h) (λ w. moves_bind w.1 (name_ended what signs w.1) (λ end. Ok (w.0, end)) (ended_moves what signs w.1) (λ e. advances_ok e e w.0 (reaches_self e)))

pub sign_moves_from : (c : ℕ) (fault : ItemFault) (h : Here) (o : Option ℕ) → Moves h (sign_from c fault h o)
sign_moves_from c fault h None = search (moves_err, reaches_self)
sign_moves_from c fault h (Some b) = search (moves_if, moves_ok, moves_err, behind_reaches, reaches_self)

pub sign_moves : (c : ℕ) (fault : ItemFault) (h : Here) → Moves h (sign c fault h)
unfolding sign
sign_moves c fault h = sign_moves_from c fault h (first h.rest)

pub advances_behind : {A : Type 0} (h : Here) (r : Result (A × Here) Stop) → Advances (after_byte h) r → Advances h r
advances_behind h r a = advances_from h (after_byte h) r (behind_reaches h) a

pub advances_white : {A : Type 0} (h : Here) (r : Result (A × Here) Stop) → Advances (after_white h) r → Advances h r
advances_white h r a = advances_from h (after_white h) r (white_reaches h) a

-- after an opening sign, what it encloses and the closing one
pub shut_advances : (close : ℕ) (h : Here) → Advances (after_byte h) (enclosed close (after_byte h) >>= λ x. Ok (Text x.0, after_byte x.1))
shut_advances close h = advances_bind (after_byte h) (enclosed close (after_byte h)) (λ x. Ok (Text x.0, after_byte x.1)) (enclosed_advances close (after_byte h)) (λ x. advances_ok x.1 (after_byte x.1) (Text x.0) (behind_reaches x.1))

pub raw_part_advances_from : (close : Closing) (h : Here) (o : Option ℕ) → Advances h (part_from close h o)
raw_part_advances_from close h None = search (advances_err, reaches_self)
raw_part_advances_from close h (Some b) =
    let braces = advances_behind h _ (shut_advances right_brace h) in
    let quotes = advances_behind h _ (shut_advances 34 h) in
    let macro = advances_bind h (name FieldPart (part_ends close) h) (λ n. Ok (Macro n.0 h.spot.line, n.1)) (name_advances FieldPart (part_ends close) h) (λ n. advances_ok n.1 n.1 _ (reaches_self n.1)) in
    let digits = advances_ok h (after_run is_digit h) (Text (run is_digit h)) (past_reaches is_digit h) in
    advances_if h (b == left_brace) _ _ braces (advances_if h (b == 34) _ _ quotes (advances_if h (is_digit b) _ _ digits (advances_if h (is_name_byte b) _ _ macro (advances_err h h MissingPart (reaches_self h)))))

pub part_advances : (close : Closing) (h : Here) → Advances h (part close h)
unfolding part
part_advances close h = advances_bind h (raw_part close h) _ (raw_part_advances_from close h (first h.rest)) (λ x. search (advances_ok, white_reaches))

pub joined_advances_from : (close : Closing) (h : Here) (o : Option ℕ) → Advances h (joined_from close h o)
joined_advances_from close h None = search (advances_ok, reaches_self)
joined_advances_from close h (Some b) =
    let w = after_white (after_byte h) in
    let next = advances_behind h _ (advances_white (after_byte h) _ (advances_bind w (part close w) (λ x. Ok (Some x.0, x.1)) (part_advances close w) (λ x. advances_ok x.1 x.1 _ (reaches_self x.1)))) in
    advances_if h (b == 35) _ _ next (advances_ok h h None (reaches_self h))

pub joined_advances : (close : Closing) (h : Here) → Advances h (next_part close h)
unfolding next_part
joined_advances close h = joined_advances_from close h (first h.rest)

many_moves_by : {A : Type 0} (later : Here → List A × Result Here Stop) (h : Here) (r : Result (Option A × Here) Stop) → ((e : Here) → Moves e (later e).1) → Advances h r → Moves h (many_by later r).1
many_moves_by later h (Err stop) k a = record { ahead = a.ahead }
many_moves_by later h (Ok (None, e)) k a = record { ahead = a.ahead }
many_moves_by later h (Ok (Some x, e)) k a = moves_from h e (later e).1 a.ahead (k e)

pub many_moves : {A : Type 0} (next : Here → Result (Option A × Here) Stop) → ((h : Here) → Advances h (next h)) → (n : ℕ) (h : Here) → Moves h (many next n h).1
unfolding many
many_moves next k zero h = moves_err h h EndOfFile (reaches_self h)
many_moves next k (suc n) h = many_moves_by (many next n) h (next h) (many_moves next k n) (k h)

pub value_advances : (close : Closing) (h : Here) → Advances h (value close h)
unfolding value
value_advances close h = advances_bind h (part close h) (λ x. collected (x.0 ∷ []) (all (next_part close) x.1)) (part_advances close h) (λ x. moves_bind x.1 (all (next_part close) x.1).1 (λ e. Ok ((x.0 ∷ []) ++ (all (next_part close) x.1).0, e)) (many_moves (next_part close) (joined_advances close) (suc (length x.1.rest)) x.1) (λ e. advances_ok e e _ (reaches_self e)))

pub field_advances : (close : Closing) (h : Here) → Advances h (field close h)
unfolding field
field_advances close h =
    advances_bind h (name FieldName name_ends h) _ (name_advances FieldName name_ends h) (λ n.
    advances_white n.1 _ (moves_bind (after_white n.1) (sign 61 ExpectedEquals (after_white n.1)) _ (sign_moves 61 ExpectedEquals (after_white n.1)) (λ q.
    advances_white q _ (advances_bind (after_white q) (value close (after_white q)) _ (value_advances close (after_white q)) (λ v. advances_ok v.1 v.1 _ (reaches_self v.1))))))

pub field_or_close_advances : (close : Closing) (h : Here) (o : Option ℕ) → Advances h (field_or_close close h o)
field_or_close_advances close h None = search (advances_err, reaches_self)
field_or_close_advances close h (Some b) =
    let next = advances_bind h (field close h) (λ x. Ok (Some x.0, x.1)) (field_advances close h) (λ x. advances_ok x.1 x.1 _ (reaches_self x.1)) in
    advances_if h (b == closing_sign close) _ _ (advances_ok h (after_byte h) None (behind_reaches h)) next

pub next_field_advances_from : (close : Closing) (h : Here) (o : Option ℕ) → Advances h (next_field_from close h o)
next_field_advances_from close h None = search (advances_err, reaches_self)
next_field_advances_from close h (Some b) =
    let inner = advances_behind h _ (advances_white (after_byte h) _ (field_or_close_advances close (after_white (after_byte h)) (first (after_white (after_byte h)).rest))) in
    advances_if h (b == closing_sign close) _ _ (advances_ok h (after_byte h) None (behind_reaches h)) (advances_if h (b == 44) _ _ inner (advances_err h h ExpectedCommaOrClose (reaches_self h)))

pub next_field_advances : (close : Closing) (h : Here) → Advances h (next_field close h)
unfolding next_field
next_field_advances close h = next_field_advances_from close h (first h.rest)
