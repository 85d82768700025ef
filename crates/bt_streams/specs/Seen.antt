-- What contracts see of a source and of a sink.
use Rattle.std.specs.Prelude.{ℕ, Bool, List, Option}

-- what is seen of a source
pub record Drawn : Type 0 where
  -- the bytes that it has left to give, if it shows them
  pub rest : Option (List ℕ)
  -- how often it failed
  pub failures : ℕ
  -- how many reads are left
  pub reads_left : ℕ

-- what is seen of a sink
pub record Sunk : Type 0 where
  -- the bytes that were written to it, if it shows them
  pub contents : Option (List ℕ)
  -- how often it failed
  pub failures : ℕ
  -- whether everything that was written was flushed
  pub is_flushed : Bool
