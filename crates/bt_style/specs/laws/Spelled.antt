-- The grammar of bodies: which tokens spell which tree.
use Rattle.std.specs.Prelude.{◌≡◌, ℕ, suc, max, List, Ok}
use Rattle.bt_style.specs.Token.{Open, Close, Word, Literal, Tokens, Front}
use Rattle.bt_style.specs.Tree.{Element, Amount, Words, Quoted, Braced, Called, Body, End, Then}
use Rattle.bt_style.specs.Program.{Program}
use Rattle.bt_style.specs.Elements.{word_element}

mutual
  -- the first tokens begin with a spelling of the element, and the second ones are left after it
  pub data SpellsElement (p : Program) : Element → Tokens → Tokens → Type 0 where
    ByWord : {e : Element} {word : List ℕ} {line : ℕ} {rest : Tokens} → word_element p word line ≡ Ok e →
        SpellsElement p e (Front (Word word) line rest) rest
    ByLiteral : {bytes : List ℕ} {line : ℕ} {rest : Tokens} →
        SpellsElement p (Words bytes) (Front (Literal bytes) line rest) rest
    ByBraces : {inner : Body} {line : ℕ} {inside rest : Tokens} → SpellsBody p inner inside rest →
        SpellsElement p (Braced inner) (Front Open line inside) rest

  -- the same for a body and the brace that closes it
  pub data SpellsBody (p : Program) : Body → Tokens → Tokens → Type 0 where
    ByClose : {line : ℕ} {rest : Tokens} → SpellsBody p End (Front Close line rest) rest
    ByElement : {e : Element} {b : Body} {tokens mid rest : Tokens} → SpellsElement p e tokens mid →
        SpellsBody p b mid rest →
        SpellsBody p (Then e b) tokens rest

-- how deep the braces of a body nest, its own included
abbrev mutual
  pub element_depth : Element → ℕ
  element_depth (Amount n) = 0
  element_depth (Words t) = 0
  element_depth (Quoted name) = 0
  element_depth (Braced inner) = suc (depth_of inner)
  element_depth (Called name) = 0

  pub depth_of : Body → ℕ
  depth_of End = 1
  depth_of (Then first rest) = max (element_depth first) (depth_of rest)
