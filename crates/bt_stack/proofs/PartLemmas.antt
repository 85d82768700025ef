-- A part of a text that three values ask for, and a prefix that two ask for.
use Rattle.std.proofs.Common.{◌≡◌, ◌≤◌, ℕ, ℤ, List, [], ◌∷◌, length, take, drop, ap, sym, ◌∙◌, arith, length-take, length-drop}
use Rattle.std.specs.Prelude.{Option, Some, option_and_then, slice_get, is_none, ◌||◌}
use Rattle.std.proofs.lemmas.Option.{none-some, same_Some}
use Rattle.bt_style.specs.declared.builtin.Builtin.TheVariants as builtin
use Rattle.bt_actions.specs.Arguments.{as_number, as_text, all_three, judged, taken_three}
use Rattle.bt_text.specs.Substrings.{substring_of}
use Rattle.bt_actions.specs.Item.{Item, Num, Txt, Fun, Missing}
use Rattle.bt_actions.specs.World.{World, Act, Goes, with_stack}
use Rattle.bt_actions.specs.State.{pushed}
use Rattle.bt_actions.specs.Given.{valued, empty_item}
use Rattle.bt_actions.specs.inner.Rows.{substring_given}
use Rattle.bt_stack.specs.Tops.{cut, with_top}
use Rattle.bt_stack.specs.inner.Part.{IsPart}
use Rattle.bt_stack.proofs.FormLemmas.{pushed_is}

-- what three values give, whether they are of the right kinds or not
abbrev given_by : Option (List ℕ) → Option ℤ → Option ℤ → World → Act
given_by text start len w = valued substring_given empty_item (all_three text start len, judged builtin.Substring (is_none len || is_none start || is_none text) w)

part_pushed : (t : List ℕ) (start len : ℤ) (from count : ℕ) (rest : List Item) (w : World) → length t ≤ 65536 → length rest ≤ 999 → take count (drop from t) ≡ substring_of t start len → Goes (with_stack (Txt (take count (drop from t)) ∷ rest) w) ≡ given_by (Some t) (Some start) (Some len) (with_stack rest w)
part_pushed t start len from count rest w short few is =
    sym (pushed_is (Txt (take count (drop from t))) (with_stack rest w) (grind (arith, few)) (grind (arith, short, length-take count (drop from t), length-drop from t)))
    ∙ ap (λ x. pushed (Txt x) (with_stack rest w)) is

of_text : (v : Item) (middle top : Option ℤ) (t : List ℕ) (start len : ℤ) (from count : ℕ) (rest : List Item) (w : World) → Some t ≡ as_text v → Some start ≡ middle → Some len ≡ top → length t ≤ 65536 → length rest ≤ 999 → take count (drop from t) ≡ substring_of t start len → Goes (with_stack (cut from count v ∷ rest) w) ≡ given_by (as_text v) middle top (with_stack rest w)
of_text (Num n) middle top t start len from count rest w e f g short few is = absurd (none-some t (sym e))
of_text (Fun c) middle top t start len from count rest w e f g short few is = absurd (none-some t (sym e))
of_text (Missing n) middle top t start len from count rest w e f g short few is = absurd (none-some t (sym e))
of_text (Txt u) middle top t start len from count rest w e f g short few is =
    ap (λ x. Goes (with_stack (Txt (take count (drop from x)) ∷ rest) w)) (sym (same_Some t u e))
    ∙ part_pushed t start len from count rest w short few is
    ∙ (λ k. given_by (e k) (f k) (g k) (with_stack rest w))

answered_from : (l : List Item) (t : List ℕ) (start len : ℤ) (from count : ℕ) (w : World) → Some t ≡ option_and_then as_text (slice_get l 2) → Some start ≡ option_and_then as_number (slice_get l 1) → Some len ≡ option_and_then as_number (slice_get l 0) → length t ≤ 65536 → length (drop 2 l) ≤ 1000 → take count (drop from t) ≡ substring_of t start len → Goes (with_stack (with_top (cut from count) (drop 2 l)) w) ≡ valued substring_given empty_item (taken_three builtin.Substring as_text as_number as_number (with_stack l w))
answered_from [] t start len from count w e f g short few is = absurd (none-some t (sym e))
answered_from (u ∷ []) t start len from count w e f g short few is = absurd (none-some t (sym e))
answered_from (u ∷ v ∷ []) t start len from count w e f g short few is = absurd (none-some t (sym e))
answered_from (u ∷ v ∷ x ∷ rest) t start len from count w e f g short few is =
    of_text x (as_number v) (as_number u) t start len from count rest w e f g short (omega (arith, few)) is

-- the numbers are taken away, and of the text the part stays
pub part_answered : (l : List Item) (from count : ℕ) (w : World) → IsPart from count l → length (drop 2 l) ≤ 1000 → Goes (with_stack (with_top (cut from count) (drop 2 l)) w) ≡ valued substring_given empty_item (taken_three builtin.Substring as_text as_number as_number (with_stack l w))
part_answered l from count w p few = answered_from l p.text p.start p.len from count w p.is_text p.is_start p.is_len p.short few p.part

-- a part whose numbers were read through references
pub is_part : (l : List Item) (t : List ℕ) (start len m n : ℤ) (from count : ℕ) → Some t ≡ option_and_then as_text (slice_get l 2) → Some start ≡ option_and_then as_number (slice_get l 1) → Some len ≡ option_and_then as_number (slice_get l 0) → length t ≤ 65536 → take count (drop from t) ≡ substring_of t m n → m ≡ start → n ≡ len → IsPart from count l
is_part l t start len m n from count e f g short is same_start same_len =
    record {
      text = t;
      start = start;
      len = len;
      is_text = e;
      is_start = f;
      is_len = g;
      short = short;
      part = is ∙ (λ k. substring_of t (same_start k) (same_len k));
    }

text_there : (l : List Item) (t : List ℕ) → Some t ≡ option_and_then as_text (slice_get l 2) → 2 ≤ length l
text_there [] t e = absurd (none-some t (sym e))
text_there (u ∷ []) t e = absurd (none-some t (sym e))
text_there (u ∷ v ∷ rest) t e = omega arith

-- the two numbers are there
pub numbers_there : (l : List Item) (from count : ℕ) → IsPart from count l → 2 ≤ length l
numbers_there l from count p = text_there l p.text p.is_text
