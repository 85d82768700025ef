-- What can be run, and what can be on the literal stack.
use Rattle.std.specs.Prelude.{ℕ, ℤ, List}
use Rattle.bt_style.specs.declared.style.Target.{Target}
use Rattle.bt_style.specs.Tree.{Body}

-- what can be run: a name, which is called, or a body
pub data Code : Type 0 where
  Name : (name : Target) → Code
  Block : (inner : Body) → Code

-- a value: a number, a text, a function (a quoted name or one in braces), or a missing field, by its number
pub data Item : Type 0 where
  Num : (n : ℤ) → Item
  Txt : (t : List ℕ) → Item
  Fun : (code : Code) → Item
  Missing : (field : ℕ) → Item
