-- What is done with the topmost items.
use Rattle.std.specs.Prelude.{ℕ, ℤ, ◌+◌, bytes_eq, Bool, List, [], ◌∷◌, ◌++◌, length, take, drop, Option, Some, None, nat_le, if◌then◌else◌}
use Rattle.std.specs.Option.{option_zip}
use Rattle.std.specs.Ordering.{int_eq}
use Rattle.bt_actions.specs.Item.{Item, Num, Txt, Fun, Missing}
use Rattle.bt_actions.specs.Arguments.{as_text}
use Rattle.bt_actions.specs.State.{text_len, text_size_limit}

-- the topmost item once more
abbrev pub twice : List Item → List Item
twice [] = []
twice (v ∷ vs) = v ∷ v ∷ vs

-- how many bytes the topmost item has, if it is a text
abbrev pub top_len : List Item → ℕ
top_len [] = 0
top_len (v ∷ vs) = text_len v

-- the two topmost items in each other's place
abbrev pub exchanged : List Item → List Item
exchanged [] = []
exchanged (v ∷ []) = v ∷ []
exchanged (v ∷ u ∷ vs) = u ∷ v ∷ vs

-- another item in place of the topmost one
abbrev pub with_top : (Item → Item) → List Item → List Item
with_top f [] = []
with_top f (v ∷ vs) = f v ∷ vs

-- so many bytes of a text, from a place on, or as many as there are
abbrev pub cut : ℕ → ℕ → Item → Item
cut from count (Num n) = Num n
cut from count (Txt t) = Txt (take count (drop from t))
cut from count (Fun c) = Fun c
cut from count (Missing n) = Missing n

-- two texts as one, unless it would be too long
abbrev pub joined_text : Option (List ℕ × List ℕ) → Option Item
joined_text None = None
joined_text (Some (t, u)) = if nat_le (length t + length u) text_size_limit then Some (Txt (t ++ u)) else None

-- two items as one text: the lower one and the top
abbrev pub joined_two : Item → Item → Option Item
joined_two v u = joined_text (option_zip (as_text v) (as_text u))

-- the two topmost items as one text
abbrev pub joined_tops : List Item → Option Item
joined_tops [] = None
joined_tops (u ∷ []) = None
joined_tops (u ∷ v ∷ rest) = joined_two v u

-- whether two numbers or two texts are equal
abbrev pub equal_to_number : ℤ → Item → Option Bool
equal_to_number n (Num m) = Some (int_eq n m)
equal_to_number n (Txt t) = None
equal_to_number n (Fun c) = None
equal_to_number n (Missing k) = None

abbrev pub equal_to_text : List ℕ → Item → Option Bool
equal_to_text t (Num m) = None
equal_to_text t (Txt u) = Some (bytes_eq t u)
equal_to_text t (Fun c) = None
equal_to_text t (Missing k) = None

abbrev pub equal_two : Item → Item → Option Bool
equal_two (Num n) u = equal_to_number n u
equal_two (Txt t) u = equal_to_text t u
equal_two (Fun c) u = None
equal_two (Missing k) u = None

abbrev pub tops_equal : List Item → Option Bool
tops_equal [] = None
tops_equal (u ∷ []) = None
tops_equal (u ∷ v ∷ rest) = equal_two v u
