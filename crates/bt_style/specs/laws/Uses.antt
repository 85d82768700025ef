-- The functions and commands of a style name only what is declared before them.
use Rattle.std.specs.Prelude.{◌≡◌, ℕ, List, Some, All, Ok, slice_get}
use Rattle.bt_style.specs.Program.{Program, Definition}
use Rattle.bt_style.specs.Reach.{body_names}
use Rattle.bt_style.specs.Reader.{style_of}
use Rattle.bt_style.specs.Uses.{IsDeclared, NamesDeclared}

-- Each name in the body of a function, called or quoted, inner braces too, is declared, and none stands for this
-- function or a later one.
pub record UsesDeclared (p : Program) : Type 0 where
  pub bodies : (n : ℕ) (f : Definition) → slice_get p.functions n ≡ Some f → All (IsDeclared p n) (body_names f.body)
  pub commands : All (λ c. NamesDeclared p c.action) p.commands

-- So in a style that a text spells, no function leads to itself by the names in bodies. (It can still call itself when
-- it runs, by `call.type$`, or by running what another one left on the literal stack.)
abbrev pub NamesComeFirst : Type 0
NamesComeFirst = (text : List ℕ) (p : Program) → style_of text ≡ Ok p → UsesDeclared p
