-- From the turns of the loop to the commands of the whole input.
use Rattle.std.proofs.Common.{◌≡◌, inl, inr, ℕ, zero, suc, ◌≤◌, List, [], ◌∷◌, ◌++◌, length, refl, ap, sym, ◌∙◌, subst, arith, append_assoc, append-nil, length-append, Bool, true, false, Ok, Err}
use Rattle.std.specs.List.{AllByRecursion, flat_map}
use Rattle.bibtex.specs.declared.state.State.{State}
use Rattle.bt_serve.specs.Commands.{Command, request_of, command_text, ends, answer, after, answers_to, MayRunOut}
use Rattle.bt_serve.specs.Serves.{IsCommand, Answered, Ends}
use Rattle.bt_serve.specs.declared.fault.ServeFault.TheVariants.{WriteFailed, Truncated}
use Rattle.bt_serve.specs.Whole.{Cut, commands_within, commands_of, up_to_quit, AnswersAll, AnswersBefore, AnswersPart}
use Rattle.bt_serve.proofs.TurnLemmas.{answers_more, state_more, wants_behind}
use Rattle.bt_serve.proofs.WholeLemmas.{cut_first, cut_whole, cut_short, last_left}

pub up_to_front : (cs xs : List Command) → AllByRecursion (λ c. false ≡ ends (request_of c.line)) cs → up_to_quit (cs ++ xs) ≡ cs ++ up_to_quit xs
up_to_front [] xs a = refl
up_to_front (c ∷ cs) xs a = rw (← a.0) (ap (λ t. c ∷ t) (up_to_front cs xs a.1))

-- the commands in front, and then those of the rest
pub front_cut : (cs : List Command) (rest : List ℕ) (n : ℕ) → AllByRecursion IsCommand cs → length (flat_map command_text cs ++ rest) ≤ n →
    (k : ℕ) × (length rest ≤ k) × ((commands_within n (flat_map command_text cs ++ rest)).commands ≡ cs ++ (commands_within k rest).commands)
front_cut [] rest n a h = (n, h, refl)
front_cut (c ∷ cs) rest zero a h = absurd (omega (arith, length-append (command_text c ++ flat_map command_text cs) rest, length-append (command_text c) (flat_map command_text cs), length-append c.line (10 ∷ c.bytes)))
front_cut (c ∷ cs) rest (suc n) a h =
    let e = append_assoc (command_text c) (flat_map command_text cs) rest in
    let size : length (command_text c ++ (flat_map command_text cs ++ rest)) ≤ suc n = omega (arith, h, ap length e) in
    let less : length (flat_map command_text cs ++ rest) ≤ n = omega (arith, size, length-append (command_text c) (flat_map command_text cs ++ rest), length-append c.line (10 ∷ c.bytes)) in
    let later = front_cut cs rest n a.1 less in
    (later.0, later.1, ap (λ t. (commands_within (suc n) t).commands) e ∙ ap (λ (x : Cut). x.commands) (cut_first c (flat_map command_text cs ++ rest) n a.0 size) ∙ ap (λ t. c ∷ t) later.2)

-- the first command, where a line feed ends its line and where the input does
head_fed : (c : Command) (rest : List ℕ) (k : ℕ) → IsCommand c → length (command_text c ++ rest) ≤ k → (xs : List Command) × ((commands_within k (command_text c ++ rest)).commands ≡ c ∷ xs)
head_fed c rest zero i h = absurd (omega (arith, length-append (command_text c) rest, length-append c.line (10 ∷ c.bytes)))
head_fed c rest (suc k) i h = ((commands_within k rest).commands, ap (λ (x : Cut). x.commands) (cut_first c rest k i h))

up_to_one : (c : Command) (xs : List Command) → true ≡ ends (request_of c.line) → up_to_quit (c ∷ xs) ≡ c ∷ []
up_to_one c xs e = rw (← e) refl

up_to_alone : (c : Command) (b : Bool) → ends (request_of c.line) ≡ b → up_to_quit (c ∷ []) ≡ c ∷ []
up_to_alone c true e = rw e refl
up_to_alone c false e = rw e refl

-- One more turn, where the commands up to quit are known.
all_answered : (input mid said told said' : List ℕ) (state between state' : State) (cs : List Command) (ms : List Bool) (c : Command) (m : Bool) →
    Answered input mid said told state between cs ms → up_to_quit (commands_of input).commands ≡ cs ++ c ∷ [] →
    said' ≡ told ++ answer m between c → state' ≡ after m between c → MayRunOut m between (request_of c.line) c.bytes → AnswersAll input said said' state state'
all_answered input mid said told said' state between state' cs ms c m a e w f z =
    rw e (
      ms ++ m ∷ [],
      omega (arith, length-append ms (m ∷ []), length-append cs (c ∷ []), a.one_each),
      w ∙ ap (λ u. u ++ answer m between c) a.written ∙ append_assoc said (answers_to ms cs state) (answer m between c) ∙
          ap (λ u. said ++ (answers_to ms cs state ++ answer m u c)) a.edited ∙ ap (λ u. said ++ u) (sym (answers_more ms cs state m c a.one_each)),
      f ∙ ap (λ u. after m u c) a.edited ∙ sym (state_more ms cs state m c a.one_each),
      wants_behind ms cs state between m c a.one_each a.edited a.wanting z,
    )

pub ends_answers_all : (input rest said said' : List ℕ) (state state' : State) → Ends input rest said said' state state' (Ok true) → AnswersAll input said said' state state'
ends_answers_all input rest said said' state state' (cs, ms, mid, told, between, a, inl d) =
    let e : commands_of input ≡ record { commands = cs; rest = [] } = ap commands_of (a.read ∙ ap (λ t. flat_map command_text cs ++ t) d.0 ∙ append-nil (flat_map command_text cs)) ∙ cut_whole cs a.each in
    let u : up_to_quit (commands_of input).commands ≡ cs = ap (λ (x : Cut). up_to_quit x.commands) e ∙ ap up_to_quit (sym (append-nil cs)) ∙ up_to_front cs [] a.goes_on ∙ append-nil cs in
    rw u (ms, a.one_each, d.2 ∙ a.written, d.3 ∙ a.edited, a.wanting)
ends_answers_all input rest said said' state state' (cs, ms, mid, told, between, a, inr (c, m, i, inl (r, q), w, f, z)) =
    let k = front_cut cs mid (length (flat_map command_text cs ++ mid)) a.each (omega arith) in
    let x = head_fed c rest k.0 i (omega (arith, k.1, ap length r)) in
    let h = ap (λ t. (commands_within k.0 t).commands) r ∙ x.1 in
    let u : up_to_quit (commands_of input).commands ≡ cs ++ c ∷ [] =
    ap (λ t. up_to_quit (commands_of t).commands) a.read ∙ ap up_to_quit (k.2 ∙ ap (λ t. cs ++ t) h) ∙ up_to_front cs (c ∷ x.0) a.goes_on ∙ ap (λ t. cs ++ t) (up_to_one c x.0 q) in
    all_answered input mid said told said' state between state' cs ms c m a u w f z
ends_answers_all input rest said said' state state' (cs, ms, mid, told, between, a, inr (c, m, i, inr l, w, f, y)) =
    let k = front_cut cs mid (length (flat_map command_text cs ++ mid)) a.each (omega arith) in
    let h = ap (λ t. (commands_within k.0 t).commands) l.2 ∙ ap (λ (x : Cut). x.commands) (last_left c i l.0 l.1 k.0 (omega (arith, k.1, ap length l.2))) in
    let u : up_to_quit (commands_of input).commands ≡ cs ++ c ∷ [] =
    ap (λ t. up_to_quit (commands_of t).commands) a.read ∙ ap up_to_quit (k.2 ∙ ap (λ t. cs ++ t) h) ∙ up_to_front cs (c ∷ []) a.goes_on ∙ ap (λ t. cs ++ t) (up_to_alone c (ends (request_of c.line)) refl) in
    all_answered input mid said told said' state between state' cs ms c m a u w f y

pub ends_answers_before : (input rest said said' : List ℕ) (state state' : State) → Ends input rest said said' state state' (Err Truncated) → AnswersBefore input said said' state state' × (rest ≡ [])
ends_answers_before input rest said said' state state' (cs, ms, mid, told, between, a, (cut, r, w, f)) =
    let e : commands_of input ≡ record { commands = cs; rest = mid } = ap commands_of a.read ∙ cut_short cs mid a.each cut in
    (rw e (ms, a.one_each, w ∙ a.written, f ∙ a.edited, a.wanting, a.goes_on, cut), r)

part_answered : (input mid said told said' : List ℕ) (state between state' : State) (cs : List Command) (ms : List Bool) (c : Command) (m : Bool) (others : List Command) →
    Answered input mid said told state between cs ms → (commands_of input).commands ≡ cs ++ c ∷ others →
    (part more : List ℕ) → answer m between c ≡ part ++ more → said' ≡ told ++ part → state' ≡ after m between c → MayRunOut m between (request_of c.line) c.bytes → AnswersPart input said said' state state'
part_answered input mid said told said' state between state' cs ms c m others a e part more q w f z = (
  cs,
  c,
  others,
  ms,
  m,
  e,
  a.goes_on,
  a.one_each,
  (part, more, ap (λ u. answer m u c) (sym a.edited) ∙ q, w ∙ ap (λ u. u ++ part) a.written),
  f ∙ ap (λ u. after m u c) a.edited,
  a.wanting,
  (let P : State → Type 0 = λ s. MayRunOut m s (request_of c.line) c.bytes in subst P a.edited z),
)

pub ends_answers_part : (input rest said said' : List ℕ) (state state' : State) → Ends input rest said said' state state' (Err WriteFailed) → AnswersPart input said said' state state'
ends_answers_part input rest said said' state state' (cs, ms, mid, told, between, a, (c, m, i, inl r, (part, more, q, w), f, y)) =
    let k = front_cut cs mid (length (flat_map command_text cs ++ mid)) a.each (omega arith) in
    let x = head_fed c rest k.0 i (omega (arith, k.1, ap length r)) in
    let h = ap (λ t. (commands_within k.0 t).commands) r ∙ x.1 in
    let u : (commands_of input).commands ≡ cs ++ c ∷ x.0 = ap (λ t. (commands_of t).commands) a.read ∙ k.2 ∙ ap (λ t. cs ++ t) h in
    part_answered input mid said told said' state between state' cs ms c m x.0 a u part more q w f y
ends_answers_part input rest said said' state state' (cs, ms, mid, told, between, a, (c, m, i, inr l, (part, more, q, w), f, y)) =
    let k = front_cut cs mid (length (flat_map command_text cs ++ mid)) a.each (omega arith) in
    let h = ap (λ t. (commands_within k.0 t).commands) l.2 ∙ ap (λ (x : Cut). x.commands) (last_left c i l.0 l.1 k.0 (omega (arith, k.1, ap length l.2))) in
    let u : (commands_of input).commands ≡ cs ++ c ∷ [] = ap (λ t. (commands_of t).commands) a.read ∙ k.2 ∙ ap (λ t. cs ++ t) h in
    part_answered input mid said told said' state between state' cs ms c m [] a u part more q w f y
