-- How texts move from one pool to another.
use Rattle.std.specs.Prelude.{ℕ, ◌+◌, List, [], ◌∷◌, ◌++◌}
use Rattle.bt_stack.specs.declared.value.Value.{Value}
use Rattle.bt_stack.specs.declared.value.Value.TheVariants as value
use Rattle.bt_stack.specs.inner.Kept.{part}

-- how many bytes of a pool a value names
abbrev pub made_len : Value → ℕ
made_len (value.Number n) = 0
made_len (value.Given t) = 0
made_len (value.Made start count) = count
made_len (value.Name n) = 0
made_len (value.Block ops) = 0
made_len (value.Missing n) = 0

-- these bytes
abbrev pub made_part : List ℕ → Value → List ℕ
made_part pool (value.Number n) = []
made_part pool (value.Given t) = []
made_part pool (value.Made start count) = part pool start count
made_part pool (value.Name n) = []
made_part pool (value.Block ops) = []
made_part pool (value.Missing n) = []

-- the value whose bytes start at another place
abbrev pub placed : ℕ → Value → Value
placed at (value.Number n) = value.Number n
placed at (value.Given t) = value.Given t
placed at (value.Made start count) = value.Made at count
placed at (value.Name n) = value.Name n
placed at (value.Block ops) = value.Block ops
placed at (value.Missing n) = value.Missing n

-- of many values, one after the other
abbrev pub made_size : List Value → ℕ
made_size [] = 0
made_size (v ∷ vs) = made_len v + made_size vs

abbrev pub made_bytes : List ℕ → List Value → List ℕ
made_bytes pool [] = []
made_bytes pool (v ∷ vs) = made_part pool v ++ made_bytes pool vs

abbrev pub moved : ℕ → List Value → List Value
moved at [] = []
moved at (v ∷ vs) = placed at v ∷ moved (at + made_len v) vs
