-- Messages that are told one after the other.
use Rattle.std.proofs.Common.{◌≡◌, ℕ, ℤ, Bool, true, false, not, ◌&&◌, ◌||◌, List, [], ◌∷◌, ◌++◌, map, Option, refl}
use Rattle.bt_style.specs.declared.builtin.Builtin.TheVariants as builtin
use Rattle.bt_style.specs.Builtins.{table}
use Rattle.bt_log.specs.declared.message.Message.{Message}
use Rattle.bt_actions.specs.declared.complaint.Complaint.{Complaint}
use Rattle.bt_actions.specs.declared.complaint.Complaint.TheVariants.{OutOfRange, BadCase, NotOneCharacter, NoSuchName, TooManyCommas, PatternFault, Shown}
use Rattle.bt_actions.specs.Words.{message_of}
use Rattle.bt_actions.specs.Item.{Item}
use Rattle.bt_actions.specs.World.{World, told_message}
use Rattle.bt_actions.specs.LogLines.{shown_value}
use Rattle.bt_style.specs.Program.{Program}
use Rattle.bt_sound.specs.Excluded.{excluded, overflows, is_one_of, is_clean, is_past}

-- one message more

alone_clean : (a b : Bool) → a ≡ false → (not a && (b || true)) ≡ true
alone_clean true b h = cc
alone_clean false true h = refl
alone_clean false false h = refl

rest_clean : (a b c d : Bool) → (not a && (b || c)) ≡ true → (c ≡ true → d ≡ true) → (not a && (b || d)) ≡ true
rest_clean true b c d h f = cc
rest_clean false true c d h f = refl
rest_clean false false c d h f = f h

pub clean_more : (ms : List Message) (m : Message) → is_clean ms ≡ true → is_one_of excluded m ≡ false → is_clean (ms ++ m ∷ []) ≡ true
clean_more [] m c h = alone_clean (is_one_of excluded m) (is_one_of overflows m) h
clean_more (n ∷ ms) m c h =
    rest_clean (is_one_of excluded n) (is_one_of overflows n) (is_clean ms) (is_clean (ms ++ m ∷ [])) c (λ i. clean_more ms m i h)

-- more messages
pub clean_append : (ms ns : List Message) → is_clean ms ≡ true → is_clean ns ≡ true → is_clean (ms ++ ns) ≡ true
clean_append [] ns c d = d
clean_append (m ∷ ms) ns c d =
    rest_clean (is_one_of excluded m) (is_one_of overflows m) (is_clean ms) (is_clean (ms ++ ns)) c (λ i. clean_append ms ns i d)

-- after an overflow, whatever comes

beyond_clean : (a b c d e : Bool) → (not a && (b || c)) ≡ true → (b || d) ≡ true → (c ≡ true → d ≡ true → e ≡ true) → (not a && (b || e)) ≡ true
beyond_clean true b c d e h p f = cc
beyond_clean false true c d e h p f = refl
beyond_clean false false c d e h p f = f h p

pub past_append : (ms ns : List Message) → is_clean ms ≡ true → is_past ms ≡ true → is_clean (ms ++ ns) ≡ true
past_append [] ns c p = cc
past_append (m ∷ ms) ns c p =
    beyond_clean (is_one_of excluded m) (is_one_of overflows m) (is_clean ms) (is_past ms) (is_clean (ms ++ ns)) c p (λ i q. past_append ms ns i q)

or_later : (b c d : Bool) → (b || c) ≡ true → (c ≡ true → d ≡ true) → (b || d) ≡ true
or_later true c d h f = refl
or_later false c d h f = f h

pub past_longer : (ms ns : List Message) → is_past ms ≡ true → is_past (ms ++ ns) ≡ true
past_longer [] ns p = cc
past_longer (m ∷ ms) ns p =
    or_later (is_one_of overflows m) (is_past ms) (is_past (ms ++ ns)) p (λ q. past_longer ms ns q)

or_last : (b c : Bool) → c ≡ true → (b || c) ≡ true
or_last true c h = refl
or_last false c h = h

or_first : (b c : Bool) → b ≡ true → (b || c) ≡ true
or_first true c h = refl
or_first false c h = cc

pub past_said : (ms : List Message) (m : Message) → is_one_of overflows m ≡ true → is_past (ms ++ m ∷ []) ≡ true
past_said [] m h = or_first (is_one_of overflows m) false h
past_said (n ∷ ms) m h = or_last (is_one_of overflows n) (is_past (ms ++ m ∷ [])) (past_said ms m h)

-- complaints that aren't excluded

abbrev pub IsHarmless : Complaint → Type 0
IsHarmless c = (key : Option (List ℕ)) → is_one_of excluded (message_of key c) ≡ false

pub bad_case : (t : List ℕ) → IsHarmless (BadCase t)
unfolding table
bad_case t key = refl

pub not_one : (t : List ℕ) → IsHarmless (NotOneCharacter t)
unfolding table
not_one t key = refl

pub no_such : (n : ℤ) (t : List ℕ) → IsHarmless (NoSuchName n t)
unfolding table
no_such n t key = refl

pub too_many : (n : ℤ) (t : List ℕ) → IsHarmless (TooManyCommas n t)
unfolding table
too_many n t key = refl

pub pattern_fault : (t : List ℕ) (n : ℕ) → IsHarmless (PatternFault t n)
unfolding table
pattern_fault t n key = refl

-- errors of overflow

abbrev pub IsOverflow : Complaint → Type 0
IsOverflow c =
    (key : Option (List ℕ)) → (is_one_of excluded (message_of key c) ≡ false) × (is_one_of overflows (message_of key c) ≡ true)

pub plus_over : IsOverflow (OutOfRange builtin.Plus)
unfolding table
plus_over key = (refl, refl)

pub minus_over : IsOverflow (OutOfRange builtin.Minus)
unfolding table
minus_over key = (refl, refl)

pub names_over : IsOverflow (OutOfRange builtin.NumNames)
unfolding table
names_over key = (refl, refl)

pub length_over : IsOverflow (OutOfRange builtin.TextLength)
unfolding table
length_over key = (refl, refl)

pub width_over : IsOverflow (OutOfRange builtin.Width)
unfolding table
width_over key = (refl, refl)

-- a logged stack
pub logged_clean : (p : Program) (w : World) (vs : List Item) → is_clean (map (λ v. told_message w (Shown (shown_value p v))) vs) ≡ true
logged_clean p w [] = refl
logged_clean p w (v ∷ vs) = logged_clean p w vs
