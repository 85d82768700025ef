-- From what was read and written to a turn of the loop.
use Rattle.std.proofs.Common.{◌≡◌, ◌≢◌, inl, inr, ℕ, ◌<◌, ◌≤◌, List, [], ◌∷◌, ◌++◌, length, refl, ap, sym, ◌∙◌, subst, arith, append_assoc, append-nil, length-append, Option, Some, Bool, true, false, Result, Ok, Err}
use Rattle.std.proofs.lemmas.Bool.Decides.{nat_tests}
use Rattle.std.specs.List.{AllByRecursion, flat_map}
use Rattle.std.proofs.lemmas.Grind.{flat_map-append}
use Rattle.std.specs.Io.KnownBytes.{Consumes, IsAtEnd}
use Rattle.bt_streams.proofs.ReadLemmas.{consumes_more}
use Rattle.bt_streams.proofs.KnownLemmas.{consumed, appended, at_end}
use Rattle.bt_streams.specs.Reads.{HasNoFeed}
use Rattle.bibtex.specs.declared.state.State.{State}
use Rattle.bt_serve.specs.Commands.{Request, Command, request_of, request_of_words, words_in_line, too_long, ends, answer, after, answers_to, state_after, command_text, MayRunOut, MayRunOutInTurn}
use Rattle.bt_serve.specs.Serves.{Answered, IsCommand, Turn, loop_ended}
use Rattle.bt_serve.specs.inner.Serves.{Replies}
use Rattle.bt_serve.specs.declared.fault.ServeFault.{ServeFault}
use Rattle.bt_serve.specs.declared.fault.ServeFault.TheVariants.{ReadFailed, WriteFailed, Truncated}

first_empty : (xs ys : List ℕ) → [] ≡ xs ++ ys → xs ≡ []
first_empty [] ys e = refl
first_empty (x ∷ xs) ys e = absurd (cc)

second_empty : (xs ys : List ℕ) → [] ≡ xs ++ ys → ys ≡ []
second_empty [] ys e = sym e
second_empty (x ∷ xs) ys e = absurd (cc)

-- A command whose line ends with a line feed.
pub turn_line : (line mid input said : List ℕ) (request : Request) (old new held held' : Option (List ℕ)) (state state' : State) (r : Result Bool ServeFault) →
    HasNoFeed line → request ≡ request_of line → input ≡ line ++ 10 ∷ mid → old ≡ Some mid → held ≡ Some said →
    Replies request old new held held' state state' r →
    (rest : List ℕ) × (said' : List ℕ) × (new ≡ Some rest) × (held' ≡ Some said') × Turn input rest said said' state state' r
turn_line line mid input said request old new held held' state state' (Ok false) f q e o h p =
    let d = rw q at p in
    let k = consumed old new d.0.1 mid d.0.3 o in
    let w = appended held held' _ said d.0.5 h in
    (k.0, w.0, k.1, w.1, (record { line = line; bytes = d.0.1 }, d.0.0, (f, d.0.2), e ∙ ap (λ t. line ++ 10 ∷ t) k.2 ∙ sym (append_assoc line (10 ∷ d.0.1) k.0), d.1, w.2, d.0.4, d.0.6))
turn_line line mid input said request old new held held' state state' (Ok true) f q e o h p =
    let d = rw q at p in
    let k = consumed old new d.0.1 mid d.0.3 o in
    let w = appended held held' _ said d.0.5 h in
    (k.0, w.0, k.1, w.1, inr (record { line = line; bytes = d.0.1 }, d.0.0, (f, d.0.2), inl (e ∙ ap (λ t. line ++ 10 ∷ t) k.2 ∙ sym (append_assoc line (10 ∷ d.0.1) k.0), d.1), w.2, d.0.4, d.0.6))
turn_line line mid input said request old new held held' state state' (Err WriteFailed) f q e o h p =
    let d = rw q at p in
    let k = consumed old new d.1 mid d.3 o in
    let w = appended held held' d.5.0 said d.5.3 h in
    (k.0, w.0, k.1, w.1, (record { line = line; bytes = d.1 }, d.0, (f, d.2), inl (e ∙ ap (λ t. line ++ 10 ∷ t) k.2 ∙ sym (append_assoc line (10 ∷ d.1) k.0)), (d.5.0, d.5.1, d.5.2, w.2), d.4, d.6))
turn_line line mid input said request old new held held' state state' (Err ReadFailed) f q e o h p =
    let d = rw q at p in
    let k = consumed old new d.0.0 mid d.0.2 o in
    (k.0, said, k.1, d.1 ∙ h, (line ++ 10 ∷ d.0.0, e ∙ ap (λ t. line ++ 10 ∷ t) k.2 ∙ sym (append_assoc line (10 ∷ d.0.0) k.0), inr (line, d.0.0, f, refl, d.0.1), refl, d.2))
turn_line line mid input said request old new held held' state state' (Err Truncated) f q e o h p =
    let d = rw q at p in
    let k = consumed old new d.0.0 mid d.0.2 o in
    let z = at_end new k.0 d.1 k.1 in
    let whole : mid ≡ d.0.0 = k.2 ∙ ap (λ t. d.0.0 ++ t) z ∙ append-nil d.0.0 in
    (k.0, said, k.1, d.2 ∙ h, ((line, d.0.0, f, inl (e ∙ ap (λ t. line ++ 10 ∷ t) whole), d.0.1), z, refl, d.3))

-- A command whose line ends with the input.
pub turn_last : (line input said : List ℕ) (request : Request) (old new held held' : Option (List ℕ)) (state state' : State) (r : Result Bool ServeFault) →
    HasNoFeed line → line ≢ [] → request ≡ request_of line → input ≡ line → old ≡ Some [] → held ≡ Some said →
    Replies request old new held held' state state' r →
    (rest : List ℕ) × (said' : List ℕ) × (new ≡ Some rest) × (held' ≡ Some said') × Turn input rest said said' state state' (loop_ended r)
turn_last line input said request old new held held' state state' (Ok b) f n q e o h p =
    let d = rw q at p in
    let k = consumed old new d.0.1 [] d.0.3 o in
    let w = appended held held' _ said d.0.5 h in
    (k.0, w.0, k.1, w.1, inr (record { line = line; bytes = d.0.1 }, d.0.0, (f, d.0.2), inr (n, first_empty d.0.1 k.0 k.2, e, second_empty d.0.1 k.0 k.2), w.2, d.0.4, d.0.6))
turn_last line input said request old new held held' state state' (Err WriteFailed) f n q e o h p =
    let d = rw q at p in
    let k = consumed old new d.1 [] d.3 o in
    let w = appended held held' d.5.0 said d.5.3 h in
    (k.0, w.0, k.1, w.1, (record { line = line; bytes = d.1 }, d.0, (f, d.2), inr (n, first_empty d.1 k.0 k.2, e, second_empty d.1 k.0 k.2), (d.5.0, d.5.1, d.5.2, w.2), d.4, d.6))
turn_last line input said request old new held held' state state' (Err ReadFailed) f n q e o h p =
    let d = rw q at p in
    let k = consumed old new d.0.0 [] d.0.2 o in
    (k.0, said, k.1, d.1 ∙ h, (line, e ∙ sym (append-nil line) ∙ ap (λ t. line ++ t) (sym (second_empty d.0.0 k.0 k.2)), inl f, refl, d.2))
turn_last line input said request old new held held' state state' (Err Truncated) f n q e o h p =
    let d = rw q at p in
    let k = consumed old new d.0.0 [] d.0.2 o in
    (k.0, said, k.1, d.2 ∙ h, ((line, d.0.0, f, inr (e, first_empty d.0.0 k.0 k.2), d.0.1), second_empty d.0.0 k.0 k.2, refl, d.3))

-- What a line of at most 256 bytes asks for, and a longer one.
pub request_short : (line : List ℕ) → length line ≤ 256 → request_of_words (words_in_line line) ≡ request_of line
request_short line h = grind (arith, nat_tests)

pub request_long : (line : List ℕ) → 256 < length line → too_long ≡ request_of line
request_long line h = grind (arith, nat_tests)

pub feed_turn : (line input said : List ℕ) (request : Request) (first old new held held' : Option (List ℕ)) (state state' : State) (r : Result Bool ServeFault) →
    HasNoFeed line → request ≡ request_of line → Consumes first old (line ++ 10 ∷ []) → first ≡ Some input → held ≡ Some said →
    Replies request old new held held' state state' r →
    (rest : List ℕ) × (said' : List ℕ) × (new ≡ Some rest) × (held' ≡ Some said') × Turn input rest said said' state state' r
feed_turn line input said request first old new held held' state state' r f q p e h d =
    let k = consumed first old (line ++ 10 ∷ []) input p e in
    turn_line line k.0 input said request old new held held' state state' r f q (k.2 ∙ append_assoc line (10 ∷ []) k.0) k.1 h d

pub end_turn : (line input said : List ℕ) (request : Request) (first old new held held' : Option (List ℕ)) (state state' : State) (r : Result Bool ServeFault) →
    HasNoFeed line → line ≢ [] → request ≡ request_of line → Consumes first old line → IsAtEnd old → first ≡ Some input → held ≡ Some said →
    Replies request old new held held' state state' r →
    (rest : List ℕ) × (said' : List ℕ) × (new ≡ Some rest) × (held' ≡ Some said') × Turn input rest said said' state state' (loop_ended r)
end_turn line input said request first old new held held' state state' r f n q p z e h d =
    let k = consumed first old line input p e in
    let y = at_end old k.0 z k.1 in
    turn_last line input said request old new held held' state state' r f n q (k.2 ∙ ap (λ t. line ++ t) y ∙ append-nil line) (k.1 ∙ ap Some y) h d

-- A long line that ends with a line feed.
pub consumes_line : (a b c : Option (List ℕ)) (xs ys : List ℕ) → Consumes a b xs → Consumes b c (ys ++ 10 ∷ []) → Consumes a c ((xs ++ ys) ++ 10 ∷ [])
consumes_line a b c xs ys p q =
    let P : List ℕ → Type 0 = λ t. Consumes a c t in
    subst P (sym (append_assoc xs ys (10 ∷ []))) (consumes_more a b c xs (ys ++ 10 ∷ []) p q)

pub not_empty : (xs : List ℕ) → 0 < length xs → xs ≢ []
not_empty [] h e = omega arith
not_empty (x ∷ xs) h e = cc

pub part_turn : (read input said : List ℕ) (first new held : Option (List ℕ)) (state : State) → HasNoFeed read → Consumes first new read → first ≡ Some input → held ≡ Some said →
    (rest : List ℕ) × (said' : List ℕ) × (new ≡ Some rest) × (held ≡ Some said') × Turn input rest said said' state state (Err ReadFailed)
part_turn read input said first new held state f p e h =
    let k = consumed first new read input p e in
    (k.0, said, k.1, h, (read, k.2, inl f, refl, refl))

-- One more command at the end.
pub answers_more : (ms : List Bool) (cs : List Command) (state : State) (m : Bool) (c : Command) → length ms ≡ length cs →
    answers_to (ms ++ m ∷ []) (cs ++ c ∷ []) state ≡ answers_to ms cs state ++ answer m (state_after ms cs state) c
answers_more [] [] state m c e = append-nil (answer m state c)
answers_more [] (d ∷ cs) state m c e = absurd (omega arith)
answers_more (n ∷ ms) [] state m c e = absurd (omega arith)
answers_more (n ∷ ms) (d ∷ cs) state m c e =
    ap (λ t. answer n state d ++ t) (answers_more ms cs (after n state d) m c (omega arith)) ∙
    sym (append_assoc (answer n state d) (answers_to ms cs (after n state d)) (answer m (state_after ms cs (after n state d)) c))

pub state_more : (ms : List Bool) (cs : List Command) (state : State) (m : Bool) (c : Command) → length ms ≡ length cs →
    state_after (ms ++ m ∷ []) (cs ++ c ∷ []) state ≡ after m (state_after ms cs state) c
state_more [] [] state m c e = refl
state_more [] (d ∷ cs) state m c e = absurd (omega arith)
state_more (n ∷ ms) [] state m c e = absurd (omega arith)
state_more (n ∷ ms) (d ∷ cs) state m c e = state_more ms cs (after n state d) m c (omega arith)

wants_more : (ms : List Bool) (cs : List Command) (state : State) (m : Bool) (c : Command) → length ms ≡ length cs →
    MayRunOutInTurn ms cs state → MayRunOut m (state_after ms cs state) (request_of c.line) c.bytes → MayRunOutInTurn (ms ++ m ∷ []) (cs ++ c ∷ []) state
wants_more [] [] state m c e w h = (h, tt)
wants_more [] (d ∷ cs) state m c e w h = absurd (omega arith)
wants_more (n ∷ ms) [] state m c e w h = absurd (omega arith)
wants_more (n ∷ ms) (d ∷ cs) state m c e w h = (w.0, wants_more ms cs (after n state d) m c (omega arith) w.1 h)

-- the same where the state between is known
pub wants_behind : (ms : List Bool) (cs : List Command) (state between : State) (m : Bool) (c : Command) → length ms ≡ length cs →
    between ≡ state_after ms cs state → MayRunOutInTurn ms cs state → MayRunOut m between (request_of c.line) c.bytes → MayRunOutInTurn (ms ++ m ∷ []) (cs ++ c ∷ []) state
wants_behind ms cs state between m c e b w h =
    wants_more ms cs state m c e w (let P : State → Type 0 = λ s. MayRunOut m s (request_of c.line) c.bytes in subst P b h)

all_more : (P : Command → Type 0) (cs : List Command) (c : Command) → AllByRecursion P cs → P c → AllByRecursion P (cs ++ c ∷ [])
all_more P [] c a p = (p, tt)
all_more P (d ∷ cs) c a p = (a.0, all_more P cs c a.1 p)

pub answered_more : (input mid rest said told said' : List ℕ) (state between state' : State) (cs : List Command) (ms : List Bool) →
    Answered input mid said told state between cs ms → (t : Turn mid rest told said' between state' (Ok false)) →
    Answered input rest said said' state state' (cs ++ t.0 ∷ []) (ms ++ t.1 ∷ [])
answered_more input mid rest said told said' state between state' cs ms a t = record {
  each = all_more IsCommand cs t.0 a.each t.2;
  goes_on = all_more (λ c. false ≡ ends (request_of c.line)) cs t.0 a.goes_on t.4;
  one_each = omega (arith, length-append ms (t.1 ∷ []), length-append cs (t.0 ∷ []), a.one_each);
  read = a.read ∙ ap (λ u. flat_map command_text cs ++ u) t.3 ∙ sym (append_assoc (flat_map command_text cs) (command_text t.0) rest) ∙
      ap (λ u. u ++ rest) (ap (λ u. flat_map command_text cs ++ u) (sym (append-nil (command_text t.0))) ∙ sym (flat_map-append command_text cs (t.0 ∷ [])));
  written = t.5 ∙ ap (λ u. u ++ answer t.1 between t.0) a.written ∙ append_assoc said (answers_to ms cs state) (answer t.1 between t.0) ∙
      ap (λ u. said ++ (answers_to ms cs state ++ answer t.1 u t.0)) a.edited ∙ ap (λ u. said ++ u) (sym (answers_more ms cs state t.1 t.0 a.one_each));
  edited = t.6 ∙ ap (λ u. after t.1 u t.0) a.edited ∙ sym (state_more ms cs state t.1 t.0 a.one_each);
  wanting = wants_behind ms cs state between t.1 t.0 a.one_each a.edited a.wanting t.7;
}
