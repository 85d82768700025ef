-- An input is cut into the commands that it is the join of.
use Rattle.std.proofs.Common.{◌≡◌, ◌≢◌, inl, inr, ℕ, zero, suc, ◌<◌, ◌≤◌, List, [], ◌∷◌, ◌++◌, length, refl, ap, sym, ◌∙◌, arith, append_assoc, append-nil, length-append, None, Some, true, false, ◌==◌, nat_le}
use Rattle.std.specs.List.{AllByRecursion, flat_map}
use Rattle.std.proofs.Math.Seq.{take-append_seam, drop-append_seam}
use Rattle.std.proofs.lemmas.Bool.Decides.{nat_tests}
use Rattle.bt_streams.specs.Reads.{HasNoFeed}
use Rattle.bt_serve.specs.Commands.{Command, request_of, bytes_brought, command_text}
use Rattle.bt_serve.specs.Serves.{IsCommand, IsCut}
use Rattle.bt_serve.specs.Whole.{Cut, Line, before_feed, behind_feed, first_line, text_after_line, with_first, command_at, commands_within, commands_of}

before_fed : (line t : List ℕ) → HasNoFeed line → before_feed (line ++ 10 ∷ t) ≡ line
before_fed [] t f = refl
before_fed (b ∷ line) t f =
    let e : (b == 10) ≡ false = grind (arith, nat_tests, f.0) in
    rw (e, before_fed line t f.1) refl

behind_fed : (line t : List ℕ) → HasNoFeed line → behind_feed (line ++ 10 ∷ t) ≡ Some t
behind_fed [] t f = refl
behind_fed (b ∷ line) t f =
    let e : (b == 10) ≡ false = grind (arith, nat_tests, f.0) in
    rw e (behind_fed line t f.1)

pub first_line_feed : (line t : List ℕ) → HasNoFeed line → first_line (line ++ 10 ∷ t) ≡ record { line = line; after_feed = Some t }
first_line_feed line t f = rw (before_fed line t f, behind_fed line t f) refl

before_end : (line : List ℕ) → HasNoFeed line → before_feed line ≡ line
before_end [] f = refl
before_end (b ∷ line) f =
    let e : (b == 10) ≡ false = grind (arith, nat_tests, f.0) in
    rw (e, before_end line f.1) refl

behind_end : (line : List ℕ) → HasNoFeed line → behind_feed line ≡ None
behind_end [] f = refl
behind_end (b ∷ line) f =
    let e : (b == 10) ≡ false = grind (arith, nat_tests, f.0) in
    rw e (behind_end line f.1)

pub first_line_end : (line : List ℕ) → HasNoFeed line → first_line line ≡ record { line = line; after_feed = None }
first_line_end line f = rw (before_end line f, behind_end line f) refl

within_step : (n : ℕ) (s : List ℕ) → 0 < length s → commands_within (suc n) s ≡ command_at (first_line s) s (commands_within n)
within_step n [] h = absurd (omega arith)
within_step n (b ∷ t) h = refl

pub command_whole : (l : Line) (text bytes t : List ℕ) (others : List ℕ → Cut) → text_after_line l ≡ bytes ++ t → length bytes ≡ bytes_brought (request_of l.line) →
    command_at l text others ≡ with_first (record { line = l.line; bytes = bytes }) (others t)
command_whole l text bytes t others e h =
    let le : nat_le (length bytes) (length (bytes ++ t)) ≡ true = rw length-append (grind (arith, nat_tests)) in
    rw (e, ← h, le, take-append_seam, drop-append_seam) refl

command_short : (l : Line) (text bytes : List ℕ) (others : List ℕ → Cut) → text_after_line l ≡ bytes → length bytes < bytes_brought (request_of l.line) →
    command_at l text others ≡ record { commands = []; rest = text }
command_short l text bytes others e h =
    let lt : nat_le (bytes_brought (request_of l.line)) (length bytes) ≡ false = grind (arith, nat_tests) in
    rw (e, lt) refl

pub cut_first : (c : Command) (t : List ℕ) (n : ℕ) → IsCommand c → length (command_text c ++ t) ≤ suc n → commands_within (suc n) (command_text c ++ t) ≡ with_first c (commands_within n t)
cut_first c t n k h =
    let e = append_assoc c.line (10 ∷ c.bytes) t in
    let l = ap first_line e ∙ first_line_feed c.line (c.bytes ++ t) k.0 in
    within_step n (command_text c ++ t) (omega (arith, length-append (command_text c) t, length-append c.line (10 ∷ c.bytes))) ∙
    ap (λ (x : Line). command_at x (command_text c ++ t) (commands_within n)) l ∙
    command_whole (record { line = c.line; after_feed = Some (c.bytes ++ t) }) (command_text c ++ t) c.bytes t (commands_within n) refl k.1

-- whole commands, and then what is cut off of the rest
pub cut_onto : (cs : List Command) (rest : List ℕ) (cut : Cut) (n : ℕ) → AllByRecursion IsCommand cs → length (flat_map command_text cs ++ rest) ≤ n →
    ((k : ℕ) → length rest ≤ k → commands_within k rest ≡ cut) →
    commands_within n (flat_map command_text cs ++ rest) ≡ record { commands = cs ++ cut.commands; rest = cut.rest }
cut_onto [] rest cut n a h base = base n h
cut_onto (c ∷ cs) rest cut zero a h base = absurd (omega (arith, length-append (command_text c ++ flat_map command_text cs) rest, length-append (command_text c) (flat_map command_text cs), length-append c.line (10 ∷ c.bytes)))
cut_onto (c ∷ cs) rest cut (suc n) a h base =
    let e = append_assoc (command_text c) (flat_map command_text cs) rest in
    let size : length (command_text c ++ (flat_map command_text cs ++ rest)) ≤ suc n = omega (arith, h, ap length e) in
    let less : length (flat_map command_text cs ++ rest) ≤ n = omega (arith, size, length-append (command_text c) (flat_map command_text cs ++ rest), length-append c.line (10 ∷ c.bytes)) in
    ap (commands_within (suc n)) e ∙ cut_first c (flat_map command_text cs ++ rest) n a.0 size ∙ ap (with_first c) (cut_onto cs rest cut n a.1 less base)

-- the same, where nothing is cut off of the rest
cut_all : (cs : List Command) (rest : List ℕ) (n : ℕ) → AllByRecursion IsCommand cs → length (flat_map command_text cs ++ rest) ≤ n →
    ((k : ℕ) → length rest ≤ k → commands_within k rest ≡ record { commands = []; rest = rest }) →
    commands_within n (flat_map command_text cs ++ rest) ≡ record { commands = cs; rest = rest }
cut_all cs rest n a h base =
    cut_onto cs rest (record { commands = []; rest = rest }) n a h base ∙ ap (λ xs. let x : Cut = record { commands = xs; rest = rest } in x) (append-nil cs)

pub none_left : (k : ℕ) → length {A = ℕ} [] ≤ k → commands_within k [] ≡ record { commands = []; rest = [] }
none_left zero h = refl
none_left (suc k) h = refl

short_left : (rest : List ℕ) → IsCut rest → (k : ℕ) → length rest ≤ k → commands_within k rest ≡ record { commands = []; rest = rest }
short_left [] r k h = none_left k h
short_left (b ∷ t) r zero h = absurd (omega arith)
short_left (b ∷ t) (line, bytes, f, inl e, lt) (suc k) h =
    ap (λ (x : Line). command_at x (b ∷ t) (commands_within k)) (ap first_line e ∙ first_line_feed line bytes f) ∙
    command_short (record { line = line; after_feed = Some bytes }) (b ∷ t) bytes (commands_within k) refl lt
short_left (b ∷ t) (line, bytes, f, inr e, lt) (suc k) h =
    ap (λ (x : Line). command_at x (b ∷ t) (commands_within k)) (ap first_line e.0 ∙ first_line_end line f) ∙
    command_short (record { line = line; after_feed = None }) (b ∷ t) bytes (commands_within k) (sym e.1) lt

pub cut_whole : (cs : List Command) → AllByRecursion IsCommand cs → commands_of (flat_map command_text cs) ≡ record { commands = cs; rest = [] }
cut_whole cs a =
    let e = append-nil (flat_map command_text cs) in
    ap commands_of (sym e) ∙ cut_all cs [] (length (flat_map command_text cs ++ [])) a (omega arith) none_left

pub cut_short : (cs : List Command) (rest : List ℕ) → AllByRecursion IsCommand cs → IsCut rest → commands_of (flat_map command_text cs ++ rest) ≡ record { commands = cs; rest = rest }
cut_short cs rest a r = cut_all cs rest (length (flat_map command_text cs ++ rest)) a (omega arith) (short_left rest r)

-- a last command, whose line ends with the input
pub last_left : (c : Command) → IsCommand c → c.line ≢ [] → c.bytes ≡ [] → (k : ℕ) → length c.line ≤ k → commands_within k c.line ≡ record { commands = c ∷ []; rest = [] }
last_left c i some none k h =
    whole c.line k i.0 some (sym i.1 ∙ ap length none) h
    ∙ ap (λ (t : List ℕ). let x : Cut = record { commands = record { line = c.line; bytes = t } ∷ []; rest = [] } in x) (sym none)
  where
    whole : (line : List ℕ) (k : ℕ) → HasNoFeed line → line ≢ [] → bytes_brought (request_of line) ≡ 0 → length line ≤ k →
        commands_within k line ≡ record { commands = record { line = line; bytes = [] } ∷ []; rest = [] }
    whole [] k f n z h = absurd (n refl)
    whole (b ∷ t) zero f n z h = absurd (omega arith)
    whole (b ∷ t) (suc k) f n z h =
        ap (λ (x : Line). command_at x (b ∷ t) (commands_within k)) (first_line_end (b ∷ t) f)
        ∙ command_whole (record { line = b ∷ t; after_feed = None }) (b ∷ t) [] [] (commands_within k) refl (sym z)
        ∙ ap (with_first (record { line = b ∷ t; bytes = [] })) (none_left k (omega arith))
