-- What the kept values are as items, and which of them can be read in a pool.
use Rattle.std.specs.Prelude.{◌≡◌, ℕ, Bool, true, false, ◌+◌, ◌≤◌, List, [], ◌∷◌, ◌++◌, length, take, drop, map, reverse, slice_set, Option, Some, None, if◌then◌else◌}
use Rattle.std.specs.List.{All}
use Rattle.bt_style.specs.Tree.{ops_body}
use Rattle.bt_actions.specs.declared.entry.Variables.{Variables}
use Rattle.bt_actions.specs.Item.{Item, Num, Txt, Fun, Missing, Name, Block}
use Rattle.bt_stack.specs.declared.value.Value.{Value}
use Rattle.bt_stack.specs.declared.value.Value.TheVariants as value
use Rattle.bt_stack.specs.declared.step_variables.StepVariables.{StepVariables}
use Rattle.bt_stack.specs.Desk.{Desk}

-- so many bytes of a pool, from a place on
abbrev pub part : List ℕ → ℕ → ℕ → List ℕ
part pool start count = take count (drop start pool)

-- what a kept value is, beside its pool
abbrev pub item_in : List ℕ → Value → Item
item_in pool (value.Number n) = Num n
item_in pool (value.Given t) = Txt t.now
item_in pool (value.Made start count) = Txt (part pool start count)
item_in pool (value.Name t) = Fun (Name t)
item_in pool (value.Block ops) = Fun (Block (ops_body ops.now))
item_in pool (value.Missing n) = Missing n

-- its bytes, if it is a text, else these
abbrev pub text_over : List ℕ → Value → List ℕ → List ℕ
text_over pool (value.Number n) t = t
text_over pool (value.Given u) t = u.now
text_over pool (value.Made start count) t = part pool start count
text_over pool (value.Name n) t = t
text_over pool (value.Block ops) t = t
text_over pool (value.Missing n) t = t

abbrev pub bytes_in : List ℕ → Value → List ℕ
bytes_in pool v = text_over pool v []

abbrev pub is_text : Value → Bool
is_text (value.Number n) = false
is_text (value.Given t) = true
is_text (value.Made start count) = true
is_text (value.Name n) = false
is_text (value.Block ops) = false
is_text (value.Missing n) = false

-- itself, if it is a text
abbrev pub text_value : Value → Option Value
text_value v = if is_text v then Some v else None

-- the items of a stack whose top is last, the top first
abbrev pub items : List ℕ → List Value → List Item
items pool values = reverse (map (item_in pool) values)

-- a text lies in a pool of so many bytes, and isn't too long
abbrev pub Fits : ℕ → Value → Type 0
Fits size (value.Number n) = Unit {0}
Fits size (value.Given t) = length t.now ≤ 65536
Fits size (value.Made start count) = (start + count ≤ size) × (count ≤ 65536)
Fits size (value.Name n) = Unit {0}
Fits size (value.Block ops) = Unit {0}
Fits size (value.Missing n) = Unit {0}

abbrev pub AllFit : ℕ → List Value → Type 0
AllFit size values = All (Fits size) values

-- bytes were put after those of a pool, or none
abbrev pub Grows : List ℕ → List ℕ → Type 0
Grows old new = new ≡ old ++ drop (length old) new

-- texts, and in place of some the values that a step gave them: a kept value that is no text stands for none
abbrev pub texts_over : List ℕ → List Value → List (List ℕ) → List (List ℕ)
texts_over pool [] ts = ts
texts_over pool (v ∷ vs) [] = []
texts_over pool (v ∷ vs) (t ∷ ts) = text_over pool v t ∷ texts_over pool vs ts

-- the value that a step gave to a variable, if it gave it one
abbrev pub own_of : {A : Type 0} → Option (Option A) → Option A
own_of None = None
own_of (Some o) = o

-- the value that a step gave, or else the one that it was given
abbrev pub value_over : {A : Type 0} → Option A → A → A
value_over None a = a
value_over (Some b) a = b

-- values, and in place of some those that a step gave
abbrev pub values_over : {A : Type 0} → List (Option A) → List A → List A
values_over [] l = l
values_over (o ∷ os) [] = []
values_over (o ∷ os) (a ∷ l) = value_over o a ∷ values_over os l

abbrev pub variables_in : List ℕ → StepVariables → Variables
variables_in pool v = record {
  numbers = values_over v.numbers.items v.given.now.numbers;
  texts = texts_over pool v.texts.items v.given.now.texts;
}

-- a value put in its place, if there is one
abbrev pub put : {A : Type 0} → Option A → ℕ → List A → List A
put None n l = l
put (Some a) n l = slice_set l n a

-- what is seen of a stack
abbrev pub desk : List ℕ → List Value → StepVariables → StepVariables → Desk
desk pool values globals own = record {
  items = items pool values;
  globals = variables_in pool globals;
  own = variables_in pool own;
}

-- what holds of a stack's parts
pub record IsSound (size : ℕ) (values : List Value) (globals own : StepVariables) : Type 0 where
  pub fit : AllFit size values
  pub globals_fit : AllFit size globals.texts.items
  pub own_fit : AllFit size own.texts.items
  pub few : length values ≤ 1000
