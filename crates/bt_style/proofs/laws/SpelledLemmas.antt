-- The tree that is read from tokens is the one that they spell.
use Rattle.std.proofs.Common.{◌≡◌, Bool, true, false, cond, List, [], ◌∷◌, ◌++◌, length, refl, sym, ◌∙◌, ap, subst, Result, Ok, Err}
use Rattle.std.specs.Prelude.{nat_lt}
use Rattle.bt_style.specs.declared.fault.StyleFault.{StyleFault}
use Rattle.bt_style.specs.Token.{Open, Close, Word, Literal, Unclosed, Glued, Tokens, AtEnd, Front}
use Rattle.bt_style.specs.Tree.{Element, Words, Braced, Body, End, Then, body_of}
use Rattle.bt_style.specs.Program.{Program}
use Rattle.bt_style.specs.Elements.{word_element}
use Rattle.bt_style.specs.Bodies.{body_at}
use Rattle.bt_style.specs.laws.Spelled.{SpellsElement, ByWord, ByLiteral, ByBraces, SpellsBody, ByClose, ByElement}
use Rattle.bt_style.proofs.SpelledLemmas.{bind_ok, ok_same}

-- a body with these elements in front
abbrev pub before : List Element → Body → Body
before [] b = b
before (e ∷ es) b = Then e (before es b)

pub before_push : (es : List Element) (e : Element) (b : Body) → before (es ++ e ∷ []) b ≡ before es (Then e b)
before_push [] e b = refl
before_push (f ∷ es) e b = ap (Then f) (before_push es e b)

pub before_none : (es : List Element) → before es End ≡ body_of es
before_none [] = refl
before_none (e ∷ es) = ap (Then e) (before_none es)

-- the tokens spell what is missing of the bodies that are open
abbrev Fills : Program → List (List Element) → List Element → Tokens → Body → Tokens → Type 0
Fills p [] now tokens b rest = (more : Body) × SpellsBody p more tokens rest × (before now more ≡ b)
Fills p (front ∷ outer) now tokens b rest =
    (more : Body) × (mid : Tokens) × SpellsBody p more tokens mid × Fills p outer (front ++ Braced (before now more) ∷ []) mid b rest

fills_push : (p : Program) (outer : List (List Element)) (now : List Element) (e : Element) (tokens mid : Tokens) (b : Body) (rest : Tokens) →
    SpellsElement p e tokens mid → Fills p outer (now ++ e ∷ []) mid b rest → Fills p outer now tokens b rest
fills_push p [] now e tokens mid b rest s f = (Then e f.0, ByElement s f.1, sym (before_push now e f.0) ∙ f.2)
fills_push p (front ∷ outer) now e tokens mid b rest s f =
    let P : Body → Type 0 = λ x. Fills p outer (front ++ Braced x ∷ []) f.1 b rest in
    (Then e f.0, f.1, ByElement s f.2, subst P (before_push now e f.0) f.3)

pub guard_ok : {B : Type 0} (test : Bool) (r : Result B StyleFault) (e : StyleFault) (y : B) → cond test r (Err e) ≡ Ok y → r ≡ Ok y
guard_ok true r e y h = h
guard_ok false r e y h = cc

fills : (p : Program) (outer : List (List Element)) (now : List Element) (tokens : Tokens) (b : Body) (rest : Tokens) →
    body_at p outer now tokens ≡ Ok (b, rest) → Fills p outer now tokens b rest
unfolding body_at
fills p outer now (AtEnd line) b rest h = cc
fills p outer now (Front Open line inside) b rest h =
    let f = fills p (now ∷ outer) [] inside b rest (guard_ok (nat_lt (length outer) 99) (body_at p (now ∷ outer) [] inside) _ (b, rest) h) in
    fills_push p outer now (Braced f.0) (Front Open line inside) f.1 b rest (ByBraces f.2) f.3
fills p [] now (Front Close line after) b rest h =
    let x : Body × Tokens = (body_of now, after) in
    let y : Body × Tokens = (b, rest) in
    let both : x ≡ y = ok_same x y h in
    let e : body_of now ≡ b = ap (λ (q : Body × Tokens). q.0) both in
    let r : after ≡ rest = ap (λ (q : Body × Tokens). q.1) both in
    let P : Tokens → Type 0 = λ x. SpellsBody p End (Front Close line after) x in
    (End, subst P r ByClose, before_none now ∙ e)
fills p (front ∷ outer) now (Front Close line after) b rest h =
    let P : Body → Type 0 = λ x. Fills p outer (front ++ Braced x ∷ []) after b rest in
    (End, after, ByClose, subst P (sym (before_none now)) (fills p outer (front ++ Braced (body_of now) ∷ []) after b rest h))
fills p outer now (Front (Word word) line after) b rest h =
    let r = bind_ok (word_element p word line) (λ e. body_at p outer (now ++ e ∷ []) after) (b, rest) h in
    fills_push p outer now r.0 (Front (Word word) line after) after b rest (ByWord r.1) (fills p outer (now ++ r.0 ∷ []) after b rest r.2)
fills p outer now (Front (Literal bytes) line after) b rest h =
    fills_push p outer now (Words bytes) (Front (Literal bytes) line after) after b rest ByLiteral (fills p outer (now ++ Words bytes ∷ []) after b rest h)
fills p outer now (Front Unclosed line after) b rest h = cc
fills p outer now (Front Glued line after) b rest h = cc

-- the tree that is read is spelled by the tokens that were passed
pub spelled : (p : Program) (tokens : Tokens) (b : Body) (rest : Tokens) → body_at p [] [] tokens ≡ Ok (b, rest) → SpellsBody p b tokens rest
spelled p tokens b rest h =
    let f = fills p [] [] tokens b rest h in
    let P : Body → Type 0 = λ x. SpellsBody p x tokens rest in
    subst P f.2 f.1
