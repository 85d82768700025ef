-- When one state says no less than another.
use Rattle.std.specs.Prelude.{ℤ, Bool, true, false, not, ◌&&◌, ◌||◌, List, [], ◌∷◌, Option, Some, None, int_lt}
use Rattle.std.specs.List.{list_all, list_any}
use Rattle.bt_style.specs.Reach.{target_eq}
use Rattle.bt_actions.specs.Item.{Code, Name}
use Rattle.bt_sound.specs.Known.{Range, May, Known, Number, Text, Run, KnownVariables, KnownEntry, State}

-- two lists of one length, whose values pass a test one by one
abbrev pub pairs_all : {A : Type 0} → (A → A → Bool) → List A → List A → Bool
pairs_all f [] [] = true
pairs_all f [] (y ∷ ys) = false
pairs_all f (x ∷ xs) [] = false
pairs_all f (x ∷ xs) (y ∷ ys) = f x y && pairs_all f xs ys

-- what is between the first bounds is between the second

abbrev pub low_within : Option ℤ → Option ℤ → Bool
low_within a None = true
low_within None (Some b) = false
low_within (Some a) (Some b) = not (int_lt a b)

abbrev pub high_within : Option ℤ → Option ℤ → Bool
high_within a None = true
high_within None (Some b) = false
high_within (Some a) (Some b) = not (int_lt b a)

abbrev pub range_within : Range → Range → Bool
range_within r q = low_within r.low q.low && high_within r.high q.high

-- what may be by the first may be by the second
abbrev pub may_within : May → May → Bool
may_within m n = (not m.missing || n.missing) && (not m.blank || n.blank) && (not m.inked || n.inked)

-- Names are compared. No two functions in braces count as one.
abbrev pub same_code : Code → Code → Bool
same_code (Name t) (Name u) = target_eq t u
same_code _ _ = false

abbrev pub known_within : Known → Known → Bool
known_within (Number r) (Number q) = range_within r q
known_within (Text m) (Text n) = may_within m n
known_within (Run c) (Run d) = same_code c d
known_within _ _ = false

abbrev pub variables_within : KnownVariables → KnownVariables → Bool
variables_within k l = pairs_all range_within k.numbers l.numbers && pairs_all may_within k.texts l.texts

abbrev pub entry_within : Option KnownEntry → Option KnownEntry → Bool
entry_within None None = true
entry_within (Some k) (Some l) = pairs_all may_within k.fields l.fields && variables_within k.variables l.variables
entry_within _ _ = false

-- each world that is as the first state says is as the second says
abbrev pub is_within : State → State → Bool
is_within s t =
    pairs_all known_within s.stack t.stack && entry_within s.entry t.entry && variables_within s.globals t.globals

-- each of the first states is within one of the second
abbrev pub is_covered : List State → List State → Bool
is_covered ss ts = list_all (λ s. list_any (is_within s) ts) ss
