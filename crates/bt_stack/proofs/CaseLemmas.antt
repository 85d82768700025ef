-- A change of case that two values ask for.
use Rattle.std.proofs.Common.{◌≡◌, ◌≤◌, ℕ, true, false, List, [], ◌∷◌, length, drop, Result, refl, ap, sym, subst, ◌∙◌, arith}
use Rattle.std.specs.Prelude.{Option, Some, None, option_map, option_and_then, slice_get, is_none, nat_lt, nat_le, if◌then◌else◌, ◌||◌}
use Rattle.std.specs.Option.{option_zip}
use Rattle.std.proofs.lemmas.Option.{none-some, same_Some}
use Rattle.bt_style.specs.declared.builtin.Builtin.TheVariants as builtin
use Rattle.bt_text.specs.declared.modes.Mode.{Mode}
use Rattle.bt_actions.specs.declared.complaint.Complaint.{Complaint}
use Rattle.bt_actions.specs.declared.complaint.Complaint.TheVariants.{StackPassed, TextPassed, BadCase}
use Rattle.bt_actions.specs.Arguments.{as_text, judged, taken_two}
use Rattle.bt_actions.specs.Item.{Item, Num, Txt, Fun, Missing}
use Rattle.bt_actions.specs.World.{World, Goes, Stops, say, with_stack}
use Rattle.bt_actions.specs.State.{pushed_in_error, text_len}
use Rattle.bt_actions.specs.Given.{answered, valued, empty_item}
use Rattle.bt_actions.specs.Texts.{mode_of, case_by, case_of}
use Rattle.bt_stack.specs.Tops.{top_len}
use Rattle.bt_stack.specs.inner.Converted.{told_by, case_told, case_asked, case_answer}

-- the lower one of two texts isn't too long
pub second_short : (l : List Item) (t : List ℕ) → Some t ≡ option_and_then as_text (slice_get l 1) → length t ≤ 65536 → top_len (drop 1 l) ≤ 65536
second_short [] t e short = absurd (none-some t (sym e))
second_short (u ∷ []) t e short = absurd (none-some t (sym e))
second_short (u ∷ Num n ∷ rest) t e short = absurd (none-some t (sym e))
second_short (u ∷ Txt x ∷ rest) t e short = subst (λ a. length a ≤ 65536) (same_Some t x e) short
second_short (u ∷ Fun c ∷ rest) t e short = absurd (none-some t (sym e))
second_short (u ∷ Missing n ∷ rest) t e short = absurd (none-some t (sym e))

-- two values that ask for a change of case are there
pub two_there : (l : List Item) (told : Result (List ℕ) Complaint) → Some told ≡ option_map case_told (case_asked l) → 2 ≤ length l
two_there [] told e = absurd (none-some told (sym e))
two_there (u ∷ []) told e = absurd (none-some told (sym e))
two_there (u ∷ v ∷ rest) told e = omega arith

stays : (m : Complaint) (v : Item) (w : World) → nat_lt (length w.stack) 1000 ≡ true → nat_le (text_len v) 65536 ≡ true → pushed_in_error m v w ≡ Goes (with_stack (v ∷ w.stack) (say m w))
stays m v w room short i =
    if room i
    then (if room i then (if short i then Goes (with_stack (v ∷ w.stack) (say m w)) else Stops (say TextPassed (say m w))) else Stops (say StackPassed (say m w)))
    else Stops (say StackPassed w)

by_mode : (mode : Option Mode) (t name : List ℕ) (u : Item) (rest : List Item) (told : Result (List ℕ) Complaint) (w : World) → told ≡ told_by mode t name → length rest ≤ 998 → length t ≤ 65536 → case_answer told (with_stack (u ∷ Txt t ∷ rest) w) ≡ answered (case_by mode t name) (with_stack rest w)
by_mode None t name u rest told w e few short =
    ap (λ r. case_answer r (with_stack (u ∷ Txt t ∷ rest) w)) e
    ∙ sym (stays (BadCase name) (Txt t) (with_stack rest w) (grind (arith, few)) (grind (arith, short)))
by_mode (Some mode) t name u rest told w e few short = ap (λ r. case_answer r (with_stack (u ∷ Txt t ∷ rest) w)) e

by_name : (name : Option (List ℕ)) (t : List ℕ) (u : Item) (rest : List Item) (told : Result (List ℕ) Complaint) (w : World) → Some told ≡ option_map case_told (option_zip (Some t) name) → length rest ≤ 998 → length t ≤ 65536 → case_answer told (with_stack (u ∷ Txt t ∷ rest) w) ≡ valued case_of empty_item (option_zip (Some t) name, judged builtin.ChangeCase (is_none name || false) (with_stack rest w))
by_name None t u rest told w e few short = absurd (none-some told (sym e))
by_name (Some name) t u rest told w e few short = by_mode (mode_of name) t name u rest told w (same_Some told (case_told (t, name)) e) few short

-- they are taken away, and the text is what they give
pub case_pushed : (l : List Item) (told : Result (List ℕ) Complaint) (w : World) → Some told ≡ option_map case_told (case_asked l) → length l ≤ 1000 → top_len (drop 1 l) ≤ 65536 → case_answer told (with_stack l w) ≡ valued case_of empty_item (taken_two builtin.ChangeCase as_text as_text (with_stack l w))
case_pushed [] told w e few short = absurd (none-some told (sym e))
case_pushed (u ∷ []) told w e few short = absurd (none-some told (sym e))
case_pushed (u ∷ Num n ∷ rest) told w e few short = absurd (none-some told (sym e))
case_pushed (u ∷ Txt t ∷ rest) told w e few short = by_name (as_text u) t u rest told w e (omega (arith, few)) short
case_pushed (u ∷ Fun c ∷ rest) told w e few short = absurd (none-some told (sym e))
case_pushed (u ∷ Missing n ∷ rest) told w e few short = absurd (none-some told (sym e))

-- values that ask for none
pub none_asked : (asked : Option (List ℕ × List ℕ)) → None ≡ option_map case_told asked → asked ≡ None
none_asked None e = refl
none_asked (Some both) e = absurd (none-some (case_told both) e)
