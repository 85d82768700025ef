-- The names in a body that tokens spell are declared.
use Rattle.std.specs.Prelude.{◌==◌, All}
use Rattle.std.proofs.Common.{◌≡◌, sym, refl, subst, ℕ, Bool, true, false, cond, List, [], ◌∷◌, length, drop, slice_index, Result, Ok, Err}
use Rattle.std.proofs.lemmas.List.Elements.{All-nil, All-cons, All-append}
use Rattle.bt_style.specs.declared.fault.StyleFault.{StyleFault}
use Rattle.bt_style.specs.declared.style.Target.{Target}
use Rattle.bt_style.specs.Program.{Program}
use Rattle.bt_style.specs.Tree.{Element, Amount, Quoted, Called, Body}
use Rattle.bt_style.specs.Fault.{◌>>=◌}
use Rattle.bt_style.specs.Token.{Tokens}
use Rattle.bt_style.specs.Declares.{target_of}
use Rattle.bt_style.specs.Elements.{number_at, quoted_at, word_element}
use Rattle.bt_style.specs.Bodies.{body_at}
use Rattle.bt_style.specs.laws.Spelled.{SpellsElement, ByWord, ByLiteral, ByBraces, SpellsBody, ByClose, ByElement}
use Rattle.bt_style.specs.Reach.{element_names, body_names}
use Rattle.bt_style.specs.Uses.{IsDeclared}
use Rattle.bt_style.proofs.SpelledLemmas.{bind_ok, ok_same}
use Rattle.bt_style.proofs.laws.SpelledLemmas.{spelled}
use Rattle.bt_style.proofs.DeclaredLemmas.{target_within}

-- Bodies

-- each name of an element is declared
abbrev Within : Program → Element → Type 0
Within p e = All (IsDeclared p (length p.functions)) (element_names e)

number_within : (p : Program) (bytes : List ℕ) (line : ℕ) (e : Element) → (number_at bytes line >>= λ n. Ok (Amount n)) ≡ Ok e → Within p e
number_within p bytes line e h =
    let n = bind_ok (number_at bytes line) (λ n. Ok (Amount n)) e h in
    subst (Within p) (ok_same (Amount n.0) e n.2) (All-nil (IsDeclared p (length p.functions)))

one_within : (p : Program) (make : Target → Element) → ((t : Target) → element_names (make t) ≡ t ∷ []) → (word : List ℕ) (line : ℕ) (e : Element) →
    (target_of p word line >>= λ t. Ok (make t)) ≡ Ok e → Within p e
one_within p make names word line e h =
    let P : Target → Type 0 = IsDeclared p (length p.functions) in
    let t = bind_ok (target_of p word line) (λ t. Ok (make t)) e h in
    let one : All P (t.0 ∷ []) = All-cons P t.0 [] (target_within p word line t.0 t.1) (All-nil P) in
    subst (Within p) (ok_same (make t.0) e t.2) (subst (All P) (sym (names t.0)) one)

quoted_within : (p : Program) (bytes : List ℕ) (line : ℕ) (e : Element) → quoted_at p bytes line ≡ Ok e → Within p e
unfolding quoted_at
quoted_within p bytes line e h = quoted_by (length bytes == 0) _ h
  where
    quoted_by : (v : Bool) (f : StyleFault) → cond v (Err f) (target_of p bytes line >>= λ t. Ok (Quoted t)) ≡ Ok e → Within p e
    quoted_by true f h = cc
    quoted_by false f h = one_within p Quoted (λ t. refl) bytes line e h

word_by : (v w : Bool) (a b c : Result Element StyleFault) (e : Element) (X : Type 0) → (a ≡ Ok e → X) → (b ≡ Ok e → X) → (c ≡ Ok e → X) → cond v a (cond w b c) ≡ Ok e → X
word_by true w a b c e X f g k h = f h
word_by false true a b c e X f g k h = g h
word_by false false a b c e X f g k h = k h

word_within : (p : Program) (word : List ℕ) (line : ℕ) (e : Element) → word_element p word line ≡ Ok e → Within p e
unfolding word_element
word_within p word line e h =
    word_by (slice_index word 0 == 35) (slice_index word 0 == 39) (number_at (drop 1 word) line >>= λ n. Ok (Amount n)) (quoted_at p (drop 1 word) line)
    (target_of p word line >>= λ target. Ok (Called target)) e (Within p e)
    (number_within p (drop 1 word) line e) (quoted_within p (drop 1 word) line e) (one_within p Called (λ t. refl) word line e) h

mutual
  element_within : (p : Program) (e : Element) (tokens mid : Tokens) → SpellsElement p e tokens mid → Within p e
  element_within p e tokens mid (ByWord {word = word} {line = line} h) = word_within p word line e h
  element_within p e tokens mid (ByLiteral) = All-nil (IsDeclared p (length p.functions))
  element_within p e tokens mid (ByBraces {inner = inner} {inside = inside} s) = spelled_within p inner inside mid s

  spelled_within : (p : Program) (b : Body) (tokens rest : Tokens) → SpellsBody p b tokens rest → All (IsDeclared p (length p.functions)) (body_names b)
  spelled_within p b tokens rest (ByClose) = All-nil (IsDeclared p (length p.functions))
  spelled_within p b tokens rest (ByElement {e = e} {b = more} {mid = mid} s t) =
      All-append (IsDeclared p (length p.functions)) (element_names e) (body_names more) (element_within p e tokens mid s) (spelled_within p more mid rest t)

pub body_within : (p : Program) (tokens : Tokens) (b : Body) (rest : Tokens) → body_at p [] [] tokens ≡ Ok (b, rest) → All (IsDeclared p (length p.functions)) (body_names b)
body_within p tokens b rest h = spelled_within p b tokens rest (spelled p tokens b rest h)
