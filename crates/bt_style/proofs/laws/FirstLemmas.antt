-- The first fault of a style stands at its token. The reserve of `commands_at` is never used up.
use Rattle.std.specs.List.{list_all}
use Rattle.std.proofs.Common.{true, ◌≡◌, ◌∙◌, ap, sym, refl, subst, ℕ, zero, suc, ◌<◌, ◌≤◌, List, [], ◌∷◌, ◌++◌, Result, Ok, Err, arith}
use Rattle.bt_style.specs.declared.fault.StyleFault.{StyleFault}
use Rattle.bt_style.specs.declared.verbs.Verb.{Verb}
use Rattle.bt_style.specs.declared.verbs.Stage.{Stage}
use Rattle.bt_style.specs.declared.verbs.Stage.TheVariants.{BeforeEntry}
use Rattle.bt_style.specs.Program.{Program}
use Rattle.bt_style.specs.Fault.{◌>>=◌}
use Rattle.bt_style.specs.Token.{Token, Open, Close, Word, Literal, Unclosed, Glued, Tokens, AtEnd, Front, tokens_after, tokens_of, count}
use Rattle.bt_style.specs.Draft.{preset}
use Rattle.bt_style.specs.Verbs.{verb_named, out_of_order, stage_after}
use Rattle.bt_style.specs.inner.Cases.{verb_of, in_order}
use Rattle.bt_style.specs.Commands.{arguments_at, command_at}
use Rattle.bt_style.specs.Reader.{commands_at, reading, style_of}
use Rattle.bt_style.specs.laws.Laws.{is_byte, in_front, first_line, BeginsAs, StandsAtItsToken, FaultIsFirst, AnyBoundServes}
use Rattle.bt_style.proofs.KeptLemmas.{command_keeps}
use Rattle.bt_style.proofs.laws.QuoteLemmas.{Quoteless, quoteless_kept}
use Rattle.bt_style.proofs.laws.ReaderLemmas.{ArePlain, plain_append, bytes_append, in_front_append, count_behind, Takes, Stops, Reads, Took, Stopped, Reader, just, then}
use Rattle.bt_style.proofs.laws.OnLineLemmas.{on_line, verb_on, order_on}
use Rattle.bt_style.proofs.laws.RuleLemmas.{with_rest, arguments_reader}

-- A command after its word

abbrev with_stage : Stage × Program → Tokens → Stage × Program × Tokens
with_stage made t = (made.0, made.1, t)

-- it is refused at the word, or a reader of what stands after
data Command (stage : Stage) (p : Program) (word : List ℕ) (line : ℕ) : Type 0 where
  Refused : (f : StyleFault) → f.line ≡ line → ((t : Tokens) → command_at stage p word line t ≡ Err f) → Command stage p word line
  Allowed : Reader (Quoteless p) with_stage (command_at stage p word line) → Command stage p word line

same_reader : {A Y Q : Type 0} (pair : A → Tokens → Y) (r s : Tokens → Result Y StyleFault) → ((t : Tokens) → r t ≡ s t) → Reader Q pair s → Reader Q pair r
same_reader {Y = Y} {Q = Q} pair r s e reader = (let all : s ≡ r = λ j t. sym (e t) j in subst (λ (f : Tokens → Result Y StyleFault). Reader Q pair f) all reader)

ordered : (stage : Stage) (p : Program) (word : List ℕ) (line : ℕ) (verb : Verb) → verb_of (verb_named word) line ≡ Ok verb → (x : Result (Unit {0}) StyleFault) →
    in_order (out_of_order verb stage) line ≡ x → Command stage p word line
unfolding command_at
ordered stage p word line verb e (Ok u) o =
    let last : Program × Tokens → Result (Stage × Program × Tokens) StyleFault = λ next. Ok (stage_after verb stage, next.0, next.1) in
    Allowed (same_reader with_stage (command_at stage p word line) (λ t. arguments_at verb line p t >>= last)
    (λ t. ap (λ x. x >>= λ verb. in_order (out_of_order verb stage) line >>= λ allowed. arguments_at verb line p t >>= λ next. Ok (stage_after verb stage, next.0, next.1)) e
    ∙ ap (λ x. x >>= λ allowed. arguments_at verb line p t >>= last) o)
    (then with_rest with_stage (arguments_at verb line p) last (arguments_reader verb line p) (λ q. just with_stage (stage_after verb stage, q))))
ordered stage p word line verb e (Err f) o =
    Refused f (on_line line (in_order (out_of_order verb stage) line) f (order_on (out_of_order verb stage) line) o)
    (λ t. ap (λ x. x >>= λ verb. in_order (out_of_order verb stage) line >>= λ allowed. arguments_at verb line p t >>= λ next. Ok (stage_after verb stage, next.0, next.1)) e
    ∙ ap (λ x. x >>= λ allowed. arguments_at verb line p t >>= λ next. Ok (stage_after verb stage, next.0, next.1)) o)

named : (stage : Stage) (p : Program) (word : List ℕ) (line : ℕ) (x : Result Verb StyleFault) → verb_of (verb_named word) line ≡ x → Command stage p word line
unfolding command_at
named stage p word line (Ok verb) e = ordered stage p word line verb e (in_order (out_of_order verb stage) line) refl
named stage p word line (Err f) e =
    Refused f (on_line line (verb_of (verb_named word) line) f (verb_on (verb_named word) line) e)
    (λ t. ap (λ x. x >>= λ verb. in_order (out_of_order verb stage) line >>= λ allowed. arguments_at verb line p t >>= λ next. Ok (stage_after verb stage, next.0, next.1)) e)

command : (stage : Stage) (p : Program) (word : List ℕ) (line : ℕ) → Command stage p word line
command stage p word line = named stage p word line (verb_of (verb_named word) line) refl

-- The reserve of recursion

begins_itself : (here : Tokens) → BeginsAs here here
begins_itself (AtEnd line) = refl
begins_itself (Front token line rest) = (rest, refl)

-- a command fails, or fewer tokens are left
data Ends (stage : Stage) (p : Program) (word : List ℕ) (line : ℕ) (rest : Tokens) : Type 0 where
  Fails : (f : StyleFault) → command_at stage p word line rest ≡ Err f → Ends stage p word line rest
  Goes : (later : Stage) (q : Program) (left : Tokens) → command_at stage p word line rest ≡ Ok (later, q, left) → count left ≤ count rest → Ends stage p word line rest

ends_read : (stage : Stage) (p : Program) (word : List ℕ) (line : ℕ) (rest : Tokens) → Reads (Quoteless p) with_stage (command_at stage p word line) rest → Ends stage p word line rest
ends_read stage p word line rest (Took t) =
    Goes t.value.0 t.value.1 t.rest (ap (command_at stage p word line) t.whole ∙ t.reads t.rest) (subst (λ (u : Tokens). count t.rest ≤ count u) (sym t.whole) (count_behind t.used t.rest))
ends_read stage p word line rest (Stopped s) = Fails s.fault (ap (command_at stage p word line) s.whole ∙ s.final s.here (begins_itself s.here))

ends_by : (stage : Stage) (p : Program) (word : List ℕ) (line : ℕ) (rest : Tokens) → Command stage p word line → Ends stage p word line rest
ends_by stage p word line rest (Refused f at e) = Fails f (e rest)
ends_by stage p word line rest (Allowed r) = ends_read stage p word line rest (r.reads rest)

abbrev later_by : ℕ → Stage × Program × Tokens → Result Program StyleFault
later_by most next = commands_at most next.0 next.1 next.2

same_behind : (m n : ℕ) (stage : Stage) (p : Program) (word : List ℕ) (line : ℕ) (rest : Tokens) → Ends stage p word line rest →
    ((later : Stage) (q : Program) (left : Tokens) → count left ≤ count rest → commands_at m later q left ≡ commands_at n later q left) →
    (command_at stage p word line rest >>= later_by m) ≡ (command_at stage p word line rest >>= later_by n)
same_behind m n stage p word line rest (Fails f e) same = ap (λ x. x >>= later_by m) e ∙ sym (ap (λ x. x >>= later_by n) e)
same_behind m n stage p word line rest (Goes later q left e le) same = ap (λ x. x >>= later_by m) e ∙ same later q left le ∙ sym (ap (λ x. x >>= later_by n) e)

below : (k n m : ℕ) → k ≤ n → suc n < suc m → k < m
below k n m le lt = omega arith

pub enough : (m n : ℕ) (stage : Stage) (p : Program) (tokens : Tokens) → count tokens < m → count tokens < n → commands_at m stage p tokens ≡ commands_at n stage p tokens
unfolding commands_at
enough zero n stage p tokens a b = absurd (omega arith)
enough (suc m) zero stage p tokens a b = absurd (omega arith)
enough (suc m) (suc n) stage p (AtEnd line) a b = refl
enough (suc m) (suc n) stage p (Front Open line rest) a b = refl
enough (suc m) (suc n) stage p (Front Close line rest) a b = refl
enough (suc m) (suc n) stage p (Front (Word word) line rest) a b =
    same_behind m n stage p word line rest (ends_by stage p word line rest (command stage p word line))
    (λ later q left le. enough m n later q left (below (count left) (count rest) m le a) (below (count left) (count rest) n le b))
enough (suc m) (suc n) stage p (Front (Literal bytes) line rest) a b = refl
enough (suc m) (suc n) stage p (Front Unclosed line rest) a b = refl
enough (suc m) (suc n) stage p (Front Glued line rest) a b = refl

pub any_bound_serves : AnyBoundServes
any_bound_serves most stage p tokens lt = enough most (suc (count tokens)) stage p tokens lt (omega arith)

-- the commands up to the end
abbrev through : Stage → Program → Tokens → Result Program StyleFault
through stage p tokens = commands_at (suc (count tokens)) stage p tokens

abbrev later_through : Stage × Program × Tokens → Result Program StyleFault
later_through next = through next.0 next.1 next.2

one_more : (k n : ℕ) → k ≤ n → k < suc n
one_more k n le = omega arith

through_by : (stage : Stage) (p : Program) (word : List ℕ) (line : ℕ) (rest : Tokens) → Ends stage p word line rest →
    (command_at stage p word line rest >>= later_by (suc (count rest))) ≡ (command_at stage p word line rest >>= later_through)
through_by stage p word line rest (Fails f e) = ap (λ x. x >>= later_by (suc (count rest))) e ∙ sym (ap (λ x. x >>= later_through) e)
through_by stage p word line rest (Goes later q left e le) =
    ap (λ x. x >>= later_by (suc (count rest))) e
    ∙ enough (suc (count rest)) (suc (count left)) later q left (one_more (count left) (count rest) le) (one_more (count left) (count left) (omega arith))
    ∙ sym (ap (λ x. x >>= later_through) e)

through_word : (stage : Stage) (p : Program) (word : List ℕ) (line : ℕ) (rest : Tokens) →
    through stage p (Front (Word word) line rest) ≡ (command_at stage p word line rest >>= later_through)
unfolding commands_at
through_word stage p word line rest = through_by stage p word line rest (ends_by stage p word line rest (command stage p word line))

-- Commands up to the end, or to the first fault

pub record Faulty (stage : Stage) (p : Program) (tokens : Tokens) : Type 0 where
  pub front : List (Token × ℕ)
  pub here : Tokens
  pub fault : StyleFault
  pub whole : tokens ≡ in_front front here
  pub line : fault.line ≡ first_line here
  pub final : (other : Tokens) → BeginsAs here other → through stage p (in_front front other) ≡ Err fault
  pub first : (line : ℕ) → (bytes : List ℕ) × (list_all is_byte bytes ≡ true) × (q : Program) × (through stage p (in_front front (tokens_after 0 line bytes)) ≡ Ok q)
  pub plain : Quoteless p → ArePlain front

data Outcome (stage : Stage) (p : Program) (tokens : Tokens) : Type 0 where
  Whole : (q : Program) → through stage p tokens ≡ Ok q → Outcome stage p tokens
  Faulted : Faulty stage p tokens → Outcome stage p tokens

at_end : (stage : Stage) (p : Program) (line : ℕ) → through stage p (tokens_after 0 line []) ≡ Ok p
unfolding commands_at tokens_after
at_end stage p line = refl

refused_here : (stage : Stage) (p : Program) (token : Token) (line : ℕ) (rest : Tokens) (f : StyleFault) → f.line ≡ line →
    ((t : Tokens) → through stage p (Front token line t) ≡ Err f) → Outcome stage p (Front token line rest)
refused_here stage p token line rest f at e = Faulted (record {
  front = [];
  here = Front token line rest;
  fault = f;
  whole = refl;
  line = at;
  final = λ o a. subst (λ (t : Tokens). through stage p t ≡ Err f) (sym a.1) (e a.0);
  first = λ l. ([], refl, p, at_end stage p l);
  plain = λ q. tt;
})

-- a command was read, and what stands after it goes on like this
behind_command : (stage : Stage) (p : Program) (word : List ℕ) (line : ℕ) (rest : Tokens) (t : Takes (Quoteless p) with_stage (command_at stage p word line) rest) →
    Outcome t.value.0 t.value.1 t.rest → Outcome stage p (Front (Word word) line rest)
behind_command stage p word line rest t (Whole q e) =
    Whole q (ap (λ u. through stage p (Front (Word word) line u)) t.whole ∙ through_word stage p word line (in_front t.used t.rest) ∙ ap (λ x. x >>= later_through) (t.reads t.rest) ∙ e)
behind_command stage p word line rest t (Faulted x) =
    let on : (o : Tokens) → through stage p (Front (Word word) line (in_front (t.used ++ x.front) o)) ≡ through t.value.0 t.value.1 (in_front x.front o) = λ o.
    ap (λ u. through stage p (Front (Word word) line u)) (in_front_append t.used x.front o)
    ∙ through_word stage p word line (in_front t.used (in_front x.front o)) ∙ ap (λ x. x >>= later_through) (t.reads (in_front x.front o)) in
    Faulted (record {
      front = (Word word, line) ∷ (t.used ++ x.front);
      here = x.here;
      fault = x.fault;
      whole = ap (Front (Word word) line) (t.whole ∙ ap (in_front t.used) x.whole ∙ sym (in_front_append t.used x.front x.here));
      line = x.line;
      final = λ o a. on o ∙ x.final o a;
      first = λ l. (let y = x.first l in (y.0, y.1, y.2, on (tokens_after 0 l y.0) ∙ y.3));
      plain = λ q. (
        tt,
        plain_append t.used x.front (t.plain q)
            (x.plain (command_keeps Quoteless quoteless_kept stage p word line (in_front t.used t.rest) (with_stage t.value t.rest) q (t.reads t.rest))),
      );
    })

stopped_inside : (stage : Stage) (p : Program) (word : List ℕ) (line : ℕ) (rest : Tokens) → Stops (Quoteless p) with_stage (command_at stage p word line) rest → Outcome stage p (Front (Word word) line rest)
stopped_inside stage p word line rest s = Faulted (record {
  front = (Word word, line) ∷ s.front;
  here = s.here;
  fault = s.fault;
  whole = ap (Front (Word word) line) s.whole;
  line = s.line;
  final = λ o a. through_word stage p word line (in_front s.front o) ∙ ap (λ x. x >>= later_through) (s.final o a);
  first = λ l. (let d = s.first l in (
    d.bytes ++ [],
    bytes_append d.bytes [] d.are_bytes refl,
    d.value.1,
    through_word stage p word line (in_front s.front (tokens_after 0 l (d.bytes ++ []))) ∙ ap (λ x. x >>= later_through) (d.reads []) ∙ at_end d.value.0 d.value.1 l,
  ));
  plain = λ q. (tt, s.plain q);
})

read_command : (stage : Stage) (p : Program) (word : List ℕ) (line : ℕ) (rest : Tokens) → Reads (Quoteless p) with_stage (command_at stage p word line) rest →
    ((later : Stage) (q : Program) (left : Tokens) → count left ≤ count rest → Outcome later q left) → Outcome stage p (Front (Word word) line rest)
read_command stage p word line rest (Took t) later =
    behind_command stage p word line rest t (later t.value.0 t.value.1 t.rest (subst (λ (u : Tokens). count t.rest ≤ count u) (sym t.whole) (count_behind t.used t.rest)))
read_command stage p word line rest (Stopped s) later = stopped_inside stage p word line rest s

at_word : (stage : Stage) (p : Program) (word : List ℕ) (line : ℕ) (rest : Tokens) → Command stage p word line →
    ((later : Stage) (q : Program) (left : Tokens) → count left ≤ count rest → Outcome later q left) → Outcome stage p (Front (Word word) line rest)
at_word stage p word line rest (Refused f at e) later =
    refused_here stage p (Word word) line rest f at (λ t. through_word stage p word line t ∙ ap (λ x. x >>= later_through) (e t))
at_word stage p word line rest (Allowed r) later = read_command stage p word line rest (r.reads rest) later

outcome : (n : ℕ) (stage : Stage) (p : Program) (tokens : Tokens) → count tokens < n → Outcome stage p tokens
unfolding commands_at
outcome zero stage p tokens lt = absurd (omega arith)
outcome (suc n) stage p (AtEnd line) lt = Whole p refl
outcome (suc n) stage p (Front Open line rest) lt = refused_here stage p Open line rest _ refl (λ t. refl)
outcome (suc n) stage p (Front Close line rest) lt = refused_here stage p Close line rest _ refl (λ t. refl)
outcome (suc n) stage p (Front (Word word) line rest) lt =
    at_word stage p word line rest (command stage p word line) (λ later q left le. outcome n later q left (below (count left) (count rest) n le lt))
outcome (suc n) stage p (Front (Literal bytes) line rest) lt = refused_here stage p (Literal bytes) line rest _ refl (λ t. refl)
outcome (suc n) stage p (Front Unclosed line rest) lt = refused_here stage p Unclosed line rest _ refl (λ t. refl)
outcome (suc n) stage p (Front Glued line rest) lt = refused_here stage p Glued line rest _ refl (λ t. refl)

err_same : {A : Type 0} (e f : StyleFault) → ◌≡◌ {A = Result A StyleFault} (Err e) (Err f) → e ≡ f
err_same e f h = cc

begun : (tokens : Tokens) (f : StyleFault) → reading tokens ≡ Err f → Outcome BeforeEntry preset tokens → (x : Faulty BeforeEntry preset tokens) × (x.fault ≡ f)
unfolding reading
begun tokens f e (Whole q w) = (let no_way : ◌≡◌ {A = Result Program StyleFault} (Ok q) (Err f) = sym w ∙ e in absurd (cc no_way))
begun tokens f e (Faulted x) = (x, err_same {A = Program} x.fault f (sym (ap reading x.whole ∙ x.final x.here (begins_itself x.here)) ∙ e))

pub faulty_text : (text : List ℕ) (f : StyleFault) → style_of text ≡ Err f → (x : Faulty BeforeEntry preset (tokens_of text)) × (x.fault ≡ f)
unfolding style_of
faulty_text text f e = begun (tokens_of text) f e (outcome (suc (count (tokens_of text))) BeforeEntry preset (tokens_of text) (one_more (count (tokens_of text)) (count (tokens_of text)) (omega arith)))

pub fault_is_first : FaultIsFirst
unfolding reading
fault_is_first text f e =
    let found = faulty_text text f e in
    let x = found.0 in
    let y = x.first x.fault.line in
    subst (StandsAtItsToken (tokens_of text)) found.1 (record {
      front = x.front;
      here = x.here;
      whole = x.whole;
      line = x.line;
      final = x.final;
      bytes = y.0;
      are_bytes = y.1;
      style = y.2;
      first = y.3;
    })
