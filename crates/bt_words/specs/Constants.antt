-- The constants of a program.
use Rattle.std.specs.Prelude.{ℕ, List, [], option_map, unwrap_or, slice_get}
use Rattle.bt_words.specs.declared.program.Program.{Program}

-- the constant of a number; none if there is no such number
abbrev pub constant_at : Program → ℕ → List ℕ
constant_at p number = unwrap_or (option_map (λ t. t.items) (slice_get p.texts.keys number)) []
