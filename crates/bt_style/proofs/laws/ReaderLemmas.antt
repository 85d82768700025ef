-- Readers of tokens: what one takes it takes whatever stands after, and where one stops at a fault, nothing goes on
-- with the token there, and some bytes go on in its place.
use Rattle.std.specs.List.{list_all}
use Rattle.std.specs.Prelude.{true, ◌&&◌}
use Rattle.std.proofs.lemmas.List.Folds.{list_all-append}
use Rattle.std.proofs.Common.{◌≡◌, ℕ, ◌≤◌, List, [], ◌∷◌, ◌++◌, Result, Ok, Err, refl, sym, ◌∙◌, ap, subst, append_assoc, arith}
use Rattle.bt_style.specs.declared.fault.StyleFault.{StyleFault}
use Rattle.bt_style.specs.Fault.{◌>>=◌}
use Rattle.bt_style.specs.Token.{Token, Open, Close, Word, Literal, Unclosed, Glued, Tokens, AtEnd, Front, tokens_after, count}
use Rattle.bt_style.specs.laws.Laws.{is_byte, in_front, first_line, BeginsAs}

pub in_front_append : (front more : List (Token × ℕ)) (rest : Tokens) → in_front (front ++ more) rest ≡ in_front front (in_front more rest)
in_front_append [] more rest = refl
in_front_append (t ∷ front) more rest = ap (Front t.0 t.1) (in_front_append front more rest)

pub count_behind : (front : List (Token × ℕ)) (rest : Tokens) → count rest ≤ count (in_front front rest)
count_behind [] rest = omega arith
count_behind (t ∷ front) rest = omega (arith, count_behind front rest)

-- The token is no text with a wrong byte after it: it stays the same where its line ends after it.
abbrev pub IsPlain : Token → Type 0
IsPlain Open = Unit {0}
IsPlain Close = Unit {0}
IsPlain (Word word) = Unit {0}
IsPlain (Literal bytes) = Unit {0}
IsPlain Unclosed = Unit {0}
IsPlain Glued = ⊥

abbrev pub ArePlain : List (Token × ℕ) → Type 0
ArePlain [] = Unit {0}
ArePlain (t ∷ front) = IsPlain t.0 × ArePlain front

pub plain_append : (front more : List (Token × ℕ)) → ArePlain front → ArePlain more → ArePlain (front ++ more)
plain_append [] more a b = b
plain_append (t ∷ front) more a b = (a.0, plain_append front more a.1 b)

pub bytes_append : (xs ys : List ℕ) → list_all is_byte xs ≡ true → list_all is_byte ys ≡ true → list_all is_byte (xs ++ ys) ≡ true
bytes_append xs ys a b = list_all-append is_byte xs ys ∙ ap (λ v. v && list_all is_byte ys) a ∙ b

-- These bytes are read, and what stands after them is left.
pub record Completes {A Y : Type 0} (pair : A → Tokens → Y) (r : Tokens → Result Y StyleFault) (line : ℕ) : Type 0 where
  pub bytes : List ℕ
  pub are_bytes : list_all is_byte bytes ≡ true
  pub value : A
  pub reads : (behind : List ℕ) → r (tokens_after 0 line (bytes ++ behind)) ≡ Ok (pair value (tokens_after 0 line behind))

-- Some tokens are taken, whatever stands after them. They are plain if Q holds, as those before a fault.
pub record Takes {A Y : Type 0} (Q : Type 0) (pair : A → Tokens → Y) (r : Tokens → Result Y StyleFault) (tokens : Tokens) : Type 0 where
  pub used : List (Token × ℕ)
  pub value : A
  pub rest : Tokens
  pub whole : tokens ≡ in_front used rest
  pub reads : (other : Tokens) → r (in_front used other) ≡ Ok (pair value other)
  pub plain : Q → ArePlain used

-- there is a fault at a token, whatever stands after it; bytes in its place complete what is before it
pub record Stops {A Y : Type 0} (Q : Type 0) (pair : A → Tokens → Y) (r : Tokens → Result Y StyleFault) (tokens : Tokens) : Type 0 where
  pub front : List (Token × ℕ)
  pub here : Tokens
  pub fault : StyleFault
  pub whole : tokens ≡ in_front front here
  pub line : fault.line ≡ first_line here
  pub final : (other : Tokens) → BeginsAs here other → r (in_front front other) ≡ Err fault
  pub first : (line : ℕ) → Completes pair (λ t. r (in_front front t)) line
  pub plain : Q → ArePlain front

pub data Reads {A Y : Type 0} (Q : Type 0) (pair : A → Tokens → Y) (r : Tokens → Result Y StyleFault) (tokens : Tokens) : Type 0 where
  Took : Takes Q pair r tokens → Reads Q pair r tokens
  Stopped : Stops Q pair r tokens → Reads Q pair r tokens

pub record Reader {A Y : Type 0} (Q : Type 0) (pair : A → Tokens → Y) (r : Tokens → Result Y StyleFault) : Type 0 where
  pub reads : (tokens : Tokens) → Reads Q pair r tokens
  pub done : (line : ℕ) → Completes pair r line

-- nothing is taken
pub just : {A Y Q : Type 0} (pair : A → Tokens → Y) (a : A) → Reader Q pair (λ t. Ok (pair a t))
just pair a = record {
  reads = λ tokens. Took (record { used = []; value = a; rest = tokens; whole = refl; reads = λ other. refl; plain = λ q. tt });
  done = λ line. record { bytes = []; are_bytes = refl; value = a; reads = λ behind. refl };
}

-- one reader after another
then_done : {A B Y Z : Type 0} (pair : A → Tokens → Y) (other : B → Tokens → Z) (r : Tokens → Result Y StyleFault) (k : Y → Result Z StyleFault) (line : ℕ) →
    Completes pair r line → ((a : A) → Completes other (λ t. k (pair a t)) line) → Completes other (λ t. r t >>= k) line
then_done pair other r k line d next =
    let e = next d.value in
    record {
      bytes = d.bytes ++ e.bytes;
      are_bytes = bytes_append d.bytes e.bytes d.are_bytes e.are_bytes;
      value = e.value;
      reads = λ behind.
          ap (λ bs. r (tokens_after 0 line bs) >>= k) (append_assoc d.bytes e.bytes behind)
          ∙ ap (λ x. x >>= k) (d.reads (e.bytes ++ behind)) ∙ e.reads behind;
    }

behind_taken : {A B Y Z Q : Type 0} (pair : A → Tokens → Y) (other : B → Tokens → Z) (r : Tokens → Result Y StyleFault) (k : Y → Result Z StyleFault) (tokens : Tokens) →
    (t : Takes Q pair r tokens) → Reads Q other (λ u. k (pair t.value u)) t.rest → Reads Q other (λ u. r u >>= k) tokens
behind_taken pair other r k tokens t (Took u) = Took (record {
  used = t.used ++ u.used;
  value = u.value;
  rest = u.rest;
  whole = t.whole ∙ ap (in_front t.used) u.whole ∙ sym (in_front_append t.used u.used u.rest);
  reads = λ o. ap (λ x. r x >>= k) (in_front_append t.used u.used o) ∙ ap (λ x. x >>= k) (t.reads (in_front u.used o)) ∙ u.reads o;
  plain = λ q. plain_append t.used u.used (t.plain q) (u.plain q);
})
behind_taken pair other r k tokens t (Stopped s) =
    let on : (o : Tokens) → (r (in_front (t.used ++ s.front) o) >>= k) ≡ k (pair t.value (in_front s.front o)) =
    λ o. ap (λ x. r x >>= k) (in_front_append t.used s.front o) ∙ ap (λ x. x >>= k) (t.reads (in_front s.front o)) in
    Stopped (record {
      front = t.used ++ s.front;
      here = s.here;
      fault = s.fault;
      whole = t.whole ∙ ap (in_front t.used) s.whole ∙ sym (in_front_append t.used s.front s.here);
      line = s.line;
      final = λ o a. on o ∙ s.final o a;
      first = λ line. (let d = s.first line in record { bytes = d.bytes; are_bytes = d.are_bytes; value = d.value; reads = λ behind. on (tokens_after 0 line (d.bytes ++ behind)) ∙ d.reads behind });
      plain = λ q. plain_append t.used s.front (t.plain q) (s.plain q);
    })

then_reads : {A B Y Z Q : Type 0} (pair : A → Tokens → Y) (other : B → Tokens → Z) (r : Tokens → Result Y StyleFault) (k : Y → Result Z StyleFault) (tokens : Tokens) →
    Reads Q pair r tokens → ((a : A) → Reader Q other (λ t. k (pair a t))) → Reads Q other (λ t. r t >>= k) tokens
then_reads pair other r k tokens (Took t) next = behind_taken pair other r k tokens t ((next t.value).reads t.rest)
then_reads pair other r k tokens (Stopped s) next = Stopped (record {
  front = s.front;
  here = s.here;
  fault = s.fault;
  whole = s.whole;
  line = s.line;
  final = λ o a. ap (λ x. x >>= k) (s.final o a);
  first = λ line. then_done pair other (λ t. r (in_front s.front t)) k line (s.first line) (λ a. (next a).done line);
  plain = s.plain;
})

pub then : {A B Y Z Q : Type 0} (pair : A → Tokens → Y) (other : B → Tokens → Z) (r : Tokens → Result Y StyleFault) (k : Y → Result Z StyleFault) →
    Reader Q pair r → ((a : A) → Reader Q other (λ t. k (pair a t))) → Reader Q other (λ t. r t >>= k)
then pair other r k first next = record {
  reads = λ tokens. then_reads pair other r k tokens (first.reads tokens) next;
  done = λ line. then_done pair other r k line (first.done line) (λ a. (next a).done line);
}

-- one token, and then another reader
pub goes_on : {A Y Q : Type 0} (pair : A → Tokens → Y) (r s : Tokens → Result Y StyleFault) (token : Token) (line : ℕ) (rest : Tokens) →
    (Q → IsPlain token) → ((t : Tokens) → r (Front token line t) ≡ s t) → Reads Q pair s rest → Reads Q pair r (Front token line rest)
goes_on pair r s token line rest is e (Took t) = Took (record {
  used = (token, line) ∷ t.used;
  value = t.value;
  rest = t.rest;
  whole = ap (Front token line) t.whole;
  reads = λ o. e (in_front t.used o) ∙ t.reads o;
  plain = λ q. (is q, t.plain q);
})
goes_on pair r s token line rest is e (Stopped x) = Stopped (record {
  front = (token, line) ∷ x.front;
  here = x.here;
  fault = x.fault;
  whole = ap (Front token line) x.whole;
  line = x.line;
  final = λ o a. e (in_front x.front o) ∙ x.final o a;
  first = λ l. (let d = x.first l in record { bytes = d.bytes; are_bytes = d.are_bytes; value = d.value; reads = λ behind. e (in_front x.front (tokens_after 0 l (d.bytes ++ behind))) ∙ d.reads behind });
  plain = λ q. (is q, x.plain q);
})

-- one token alone
pub takes_one : {A Y Q : Type 0} (pair : A → Tokens → Y) (r : Tokens → Result Y StyleFault) (token : Token) (line : ℕ) (rest : Tokens) (a : A) →
    (Q → IsPlain token) → ((t : Tokens) → r (Front token line t) ≡ Ok (pair a t)) → Reads Q pair r (Front token line rest)
takes_one pair r token line rest a is e = Took (record { used = (token, line) ∷ []; value = a; rest = rest; whole = refl; reads = e; plain = λ q. (is q, tt) })

-- a token that is refused, and an end
pub refuses : {A Y Q : Type 0} (pair : A → Tokens → Y) (r : Tokens → Result Y StyleFault) (token : Token) (line : ℕ) (rest : Tokens) (f : StyleFault) → f.line ≡ line →
    ((t : Tokens) → r (Front token line t) ≡ Err f) → ((line : ℕ) → Completes pair r line) → Reads Q pair r (Front token line rest)
refuses pair r token line rest f at e done = Stopped (record {
  front = [];
  here = Front token line rest;
  fault = f;
  whole = refl;
  line = at;
  final = λ o a. subst (λ t. r t ≡ Err f) (sym a.1) (e a.0);
  first = done;
  plain = λ q. tt;
})

pub refuses_end : {A Y Q : Type 0} (pair : A → Tokens → Y) (r : Tokens → Result Y StyleFault) (line : ℕ) (f : StyleFault) → f.line ≡ line →
    r (AtEnd line) ≡ Err f → ((line : ℕ) → Completes pair r line) → Reads Q pair r (AtEnd line)
refuses_end pair r line f at e done = Stopped (record {
  front = [];
  here = AtEnd line;
  fault = f;
  whole = refl;
  line = at;
  final = λ o a. subst (λ t. r t ≡ Err f) (sym a) e;
  first = done;
  plain = λ q. tt;
})
