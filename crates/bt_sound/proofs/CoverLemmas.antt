-- A state that is within another says no less.
use Rattle.std.proofs.Common.{◌≡◌, ℕ, ℤ, ◌≤ℤ◌, int_lt, Bool, true, false, not, ◌&&◌, ◌||◌, List, [], ◌∷◌, Option, Some, None, inl, inr, refl, sym, ap, ◌∙◌, arith, true≢false}
use Rattle.std.specs.Prelude.{if◌then◌else◌}
use Rattle.std.specs.List.{list_all, list_any}
use Rattle.std.proofs.lemmas.Bool.{and_parts, not-true}
use Rattle.std.proofs.lemmas.Int.{ints}
use Rattle.bt_text.specs.ByteTests.{is_white}
use Rattle.bt_style.proofs.ReachLemmas.{target_eq_sound}
use Rattle.bt_actions.specs.declared.entry.Variables.{Variables}
use Rattle.bt_actions.specs.declared.entry.Entry.{Entry}
use Rattle.bt_actions.specs.Item.{Code, Name, Block, Item, Num, Txt, Fun, Missing}
use Rattle.bt_actions.specs.World.{World, entry_in}
use Rattle.bt_sound.specs.Known.{Range, May, Known, Number, Text, Run, KnownVariables, KnownEntry, State}
use Rattle.bt_sound.specs.Fits.{Each, IsAtLeast, IsAtMost, IsIn, allows, TextFits, FieldFits, Fits, VariablesFit, EntryFits, Here, Among}
use Rattle.bt_sound.specs.Holds.{Covers}
use Rattle.bt_sound.specs.Below.{pairs_all, low_within, high_within, range_within, may_within, same_code, known_within, variables_within, entry_within, is_within, is_covered}

-- values

least_over : (a b n : ℤ) → int_lt a b ≡ false → a ≤ℤ n → b ≤ℤ n
least_over a b n e h = omega (arith, ints)

most_under : (a b n : ℤ) → int_lt b a ≡ false → n ≤ℤ a → n ≤ℤ b
most_under a b n e h = omega (arith, ints)

low_in : (a b : Option ℤ) (n : ℤ) → low_within a b ≡ true → IsAtLeast a n → IsAtLeast b n
low_in a None n e h = tt
low_in None (Some b) n e h = absurd (true≢false (sym e))
low_in (Some a) (Some b) n e h = least_over a b n (not-true (int_lt a b) e) h

high_in : (a b : Option ℤ) (n : ℤ) → high_within a b ≡ true → IsAtMost a n → IsAtMost b n
high_in a None n e h = tt
high_in None (Some b) n e h = absurd (true≢false (sym e))
high_in (Some a) (Some b) n e h = most_under a b n (not-true (int_lt b a) e) h

range_in : (r q : Range) (n : ℤ) → range_within r q ≡ true → IsIn r n → IsIn q n
range_in r q n e h =
    let i = and_parts (low_within r.low q.low) (high_within r.high q.high) e in
    (low_in r.low q.low n i.0 h.0, high_in r.high q.high n i.1 h.1)

implied : (a b : Bool) → (not a || b) ≡ true → a ≡ true → b ≡ true
implied true b e h = e
implied false b e h = absurd (true≢false (sym h))

abbrev MayParts : May → May → Type 0
MayParts m n =
    (m.missing ≡ true → n.missing ≡ true) × (m.blank ≡ true → n.blank ≡ true) × (m.inked ≡ true → n.inked ≡ true)

may_parts : (m n : May) → may_within m n ≡ true → MayParts m n
may_parts m n e =
    let i = and_parts ((not m.missing || n.missing) && (not m.blank || n.blank)) (not m.inked || n.inked) e in
    let j = and_parts (not m.missing || n.missing) (not m.blank || n.blank) i.0 in
    (implied m.missing n.missing j.0, implied m.blank n.blank j.1, implied m.inked n.inked i.1)

allows_in : (m n : May) (b : Bool) → may_within m n ≡ true → allows m b ≡ true → allows n b ≡ true
allows_in m n true e h = (may_parts m n e).1 h
allows_in m n false e h = (may_parts m n e).2 h

text_in : (m n : May) (t : List ℕ) → may_within m n ≡ true → TextFits m t → TextFits n t
text_in m n t e h = allows_in m n (list_all is_white t) e h

field_in : (m n : May) (o : Option (List ℕ)) → may_within m n ≡ true → FieldFits m o → FieldFits n o
field_in m n None e h = (may_parts m n e).0 h
field_in m n (Some t) e h = text_in m n t e h

same_is : (c d : Code) → same_code c d ≡ true → c ≡ d
same_is (Name t) (Name u) e = ap Name (target_eq_sound t u e)
same_is (Name t) (Block b) e = absurd (true≢false (sym e))
same_is (Block a) d e = absurd (true≢false (sym e))

known_in : (k l : Known) (v : Item) → known_within k l ≡ true → Fits k v → Fits l v
known_in (Number r) (Number q) (Num n) e h = range_in r q n e h
known_in (Number r) (Number q) (Txt t) e h = absurd h
known_in (Number r) (Number q) (Fun c) e h = absurd h
known_in (Number r) (Number q) (Missing f) e h = absurd h
known_in (Number r) (Text n) v e h = absurd (true≢false (sym e))
known_in (Number r) (Run d) v e h = absurd (true≢false (sym e))
known_in (Text m) (Number q) v e h = absurd (true≢false (sym e))
known_in (Text m) (Text n) (Num z) e h = absurd h
known_in (Text m) (Text n) (Txt t) e h = text_in m n t e h
known_in (Text m) (Text n) (Fun c) e h = absurd h
known_in (Text m) (Text n) (Missing f) e h = (may_parts m n e).0 h
known_in (Text m) (Run d) v e h = absurd (true≢false (sym e))
known_in (Run c) (Number q) v e h = absurd (true≢false (sym e))
known_in (Run c) (Text n) v e h = absurd (true≢false (sym e))
known_in (Run c) (Run d) (Num z) e h = absurd h
known_in (Run c) (Run d) (Txt t) e h = absurd h
known_in (Run c) (Run d) (Fun b) e h = sym (same_is c d e) ∙ h
known_in (Run c) (Run d) (Missing f) e h = absurd h

-- lists

each_in : {A B : Type 0} (R : A → B → Type 0) (f : A → A → Bool) → ((x y : A) (v : B) → f x y ≡ true → R x v → R y v) → (xs ys : List A) (vs : List B) → pairs_all f xs ys ≡ true → Each R xs vs → Each R ys vs
each_in R f g [] [] vs e h = h
each_in R f g [] (y ∷ ys) vs e h = absurd (true≢false (sym e))
each_in R f g (x ∷ xs) [] vs e h = absurd (true≢false (sym e))
each_in R f g (x ∷ xs) (y ∷ ys) [] e h = absurd h
each_in R f g (x ∷ xs) (y ∷ ys) (v ∷ vs) e h =
    let i = and_parts (f x y) (pairs_all f xs ys) e in
    (g x y v i.0 h.0, each_in R f g xs ys vs i.1 h.1)

pub variables_in : (k l : KnownVariables) (v : Variables) → variables_within k l ≡ true → VariablesFit k v → VariablesFit l v
variables_in k l v e h =
    let i = and_parts (pairs_all range_within k.numbers l.numbers) (pairs_all may_within k.texts l.texts) e in
    (each_in IsIn range_within range_in k.numbers l.numbers v.numbers i.0 h.0, each_in TextFits may_within text_in k.texts l.texts v.texts i.1 h.1)

entry_in' : (types : List ℕ) (k l : Option KnownEntry) (o : Option Entry) → entry_within k l ≡ true → EntryFits types k o → EntryFits types l o
entry_in' types None None o e h = h
entry_in' types None (Some l) o e h = absurd (true≢false (sym e))
entry_in' types (Some k) None o e h = absurd (true≢false (sym e))
entry_in' types (Some k) (Some l) None e h = absurd h
entry_in' types (Some k) (Some l) (Some d) e h =
    let i = and_parts (pairs_all may_within k.fields l.fields) (variables_within k.variables l.variables) e in
    (h.0, each_in FieldFits may_within field_in k.fields l.fields d.fields i.0 h.1, variables_in k.variables l.variables d.variables i.1 h.2)

-- worlds

here_in : (types : List ℕ) (s t : State) (w : World) → is_within s t ≡ true → Here types s w → Here types t w
here_in types s t w e h =
    let i = and_parts (pairs_all known_within s.stack t.stack && entry_within s.entry t.entry) (variables_within s.globals t.globals) e in
    let j = and_parts (pairs_all known_within s.stack t.stack) (entry_within s.entry t.entry) i.0 in
    (h.0, (h.1.0, entry_in' types s.entry t.entry (entry_in w.entries w.current) j.1 h.1.1, variables_in s.globals t.globals w.globals i.1 h.1.2), each_in Fits known_within known_in s.stack t.stack w.stack j.0 h.2)

or_by : {P : Type 0} (a b : Bool) → (a || b) ≡ true → (a ≡ true → P) → (b ≡ true → P) → P
or_by true b e f g = f refl
or_by false b e f g = g e

one_in : (types : List ℕ) (s : State) (ts : List State) (w : World) → list_any (is_within s) ts ≡ true → Here types s w → Among types ts w
one_in types s [] w e h = absurd (true≢false (sym e))
one_in types s (t ∷ ts) w e h =
    or_by (is_within s t) (list_any (is_within s) ts) e (λ i. inl (here_in types s t w i h)) (λ i. inr (one_in types s ts w i h))

pub covered_in : (types : List ℕ) (ss ts : List State) → is_covered ss ts ≡ true → Covers types ss ts
covered_in types [] ts e w h = absurd h
covered_in types (s ∷ ss) ts e w (inl h) =
    one_in types s ts w (and_parts (list_any (is_within s) ts) (is_covered ss ts) e).0 h
covered_in types (s ∷ ss) ts e w (inr h) =
    covered_in types ss ts (and_parts (list_any (is_within s) ts) (is_covered ss ts) e).1 w h
