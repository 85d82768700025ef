-- The tree that tokens spell is the one that is read from them.
use Rattle.std.proofs.Common.{◌≡◌, ◌≤◌, ◌<◌, ◌+◌, ℕ, true, List, [], ◌∷◌, ◌++◌, length, refl, sym, ◌∙◌, ap, Result, Ok, arith}
use Rattle.std.specs.Prelude.{nat_lt}
use Rattle.std.proofs.lemmas.Bool.{cond-true}
use Rattle.bt_style.specs.declared.fault.StyleFault.{StyleFault}
use Rattle.bt_style.specs.declared.fault.FaultKind.TheVariants.{UnclosedBrace}
use Rattle.bt_style.specs.Token.{Open, Close, Word, Literal, Tokens, Front}
use Rattle.bt_style.specs.Tree.{Element, Words, Braced, Body, End, Then, body_of}
use Rattle.bt_style.specs.Program.{Program}
use Rattle.bt_style.specs.Fault.{◌>>=◌, fault}
use Rattle.bt_style.specs.Elements.{word_element}
use Rattle.bt_style.specs.Bodies.{body_at}
use Rattle.bt_style.specs.laws.Spelled.{SpellsElement, ByWord, ByLiteral, ByBraces, SpellsBody, ByClose, ByElement, element_depth, depth_of}
use Rattle.bt_style.proofs.laws.SpelledLemmas.{before, before_push, before_none}

-- these elements, and after them those of a body
abbrev behind : List Element → Body → List Element
behind es End = es
behind es (Then e b) = behind (es ++ e ∷ []) b

behind_is : (es : List Element) (b : Body) → body_of (behind es b) ≡ before es b
behind_is es End = sym (before_none es)
behind_is es (Then e b) = behind_is (es ++ e ∷ []) b ∙ before_push es e b

some_depth : (b : Body) → 1 ≤ depth_of b
some_depth End = omega arith
some_depth (Then e b) = omega (arith, some_depth b)

-- what is read once the body that is open is closed
abbrev closed : Program → List (List Element) → List Element → Tokens → Result (Body × Tokens) StyleFault
closed p [] now rest = Ok (body_of now, rest)
closed p (before ∷ outer) now rest = body_at p outer (before ++ Braced (body_of now) ∷ []) rest

close_read : (p : Program) (outer : List (List Element)) (now : List Element) (line : ℕ) (rest : Tokens) → body_at p outer now (Front Close line rest) ≡ closed p outer now rest
unfolding body_at
close_read p [] now line rest = refl
close_read p (before ∷ outer) now line rest = refl

word_read : (p : Program) (outer : List (List Element)) (now : List Element) (e : Element) (word : List ℕ) (line : ℕ) (rest : Tokens) → word_element p word line ≡ Ok e →
    body_at p outer now (Front (Word word) line rest) ≡ body_at p outer (now ++ e ∷ []) rest
unfolding body_at
word_read p outer now e word line rest h = ap (λ (r : Result Element StyleFault). r >>= λ e. body_at p outer (now ++ e ∷ []) rest) h

literal_read : (p : Program) (outer : List (List Element)) (now : List Element) (bytes : List ℕ) (line : ℕ) (rest : Tokens) →
    body_at p outer now (Front (Literal bytes) line rest) ≡ body_at p outer (now ++ Words bytes ∷ []) rest
unfolding body_at
literal_read p outer now bytes line rest = refl

open_read : (p : Program) (outer : List (List Element)) (now : List Element) (line : ℕ) (inside : Tokens) → nat_lt (length outer) 99 ≡ true →
    body_at p outer now (Front Open line inside) ≡ body_at p (now ∷ outer) [] inside
unfolding body_at
open_read p outer now line inside h = cond-true (nat_lt (length outer) 99) (body_at p (now ∷ outer) [] inside) (fault UnclosedBrace line) h

mutual
  element_read : (p : Program) (outer : List (List Element)) (now : List Element) (e : Element) (tokens mid : Tokens) → SpellsElement p e tokens mid → element_depth e + length outer ≤ 100 →
      body_at p outer now tokens ≡ body_at p outer (now ++ e ∷ []) mid
  element_read p outer now e tokens mid (ByWord {word = word} {line = line} w) h = word_read p outer now e word line mid w
  element_read p outer now e tokens mid (ByLiteral {bytes = bytes} {line = line}) h = literal_read p outer now bytes line mid
  element_read p outer now e tokens mid (ByBraces {inner = inner} {line = line} {inside = inside} s) h =
      let room : length outer < 99 = omega (arith, some_depth inner) in
      let below : depth_of inner + length (now ∷ outer) ≤ 100 = omega arith in
      open_read p outer now line inside (grind (arith, room))
      ∙ body_read p (now ∷ outer) [] inner inside mid s below
      ∙ ap (λ (b : Body). body_at p outer (now ++ Braced b ∷ []) mid) (behind_is [] inner)

  body_read : (p : Program) (outer : List (List Element)) (now : List Element) (b : Body) (tokens rest : Tokens) → SpellsBody p b tokens rest → depth_of b + length outer ≤ 100 →
      body_at p outer now tokens ≡ closed p outer (behind now b) rest
  body_read p outer now b tokens rest (ByClose {line = line}) h = close_read p outer now line rest
  body_read p outer now b tokens rest (ByElement {e = e} {b = more} {mid = mid} s t) h =
      element_read p outer now e tokens mid s (omega arith) ∙ body_read p outer (now ++ e ∷ []) more mid rest t (omega arith)

-- the tree that tokens spell is read from them, where its braces aren't too deep
pub read_back : (p : Program) (tokens : Tokens) (b : Body) (rest : Tokens) → SpellsBody p b tokens rest → depth_of b ≤ 100 → body_at p [] [] tokens ≡ Ok (b, rest)
read_back p tokens b rest s h =
    body_read p [] [] b tokens rest s (omega arith) ∙ ap (λ (x : Body). Ok (x, rest)) (behind_is [] b)
