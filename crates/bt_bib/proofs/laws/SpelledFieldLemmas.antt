-- Fields are read as they are spelled.
use Rattle.std.specs.Prelude.{◌==◌}
use Rattle.std.proofs.Common.{◌≡◌, ℕ, true, false, cond, List, [], ◌∷◌, ◌++◌, Option, Some, None, Result, Ok, refl, sym, ap, subst, ◌∙◌, append_assoc}
use Rattle.std.proofs.lemmas.Bool.{eq-eqb}
use Rattle.std.proofs.lemmas.List.{append-nil}
use Rattle.bt_text.specs.ByteTests.{is_white}
use Rattle.bt_text.specs.NameBytes.{is_name_byte}
use Rattle.bt_bib.specs.declared.spot.Spot.{Spot}
use Rattle.bt_bib.specs.declared.fault.NameRole.{NameRole}
use Rattle.bt_bib.specs.declared.fault.NameRole.TheVariants.{FieldName}
use Rattle.bt_bib.specs.declared.fault.ItemFault.TheVariants.{ExpectedEquals}
use Rattle.bt_bib.specs.declared.item.Closing.{Closing}
use Rattle.bt_bib.specs.declared.item.Closing.TheVariants.{Brace, Parenthesis}
use Rattle.bt_bib.specs.declared.item.Part.{Part}
use Rattle.bt_bib.specs.declared.item.Field.{Field}
use Rattle.bt_bib.specs.Spot.{Here, at, spot_after, after_byte}
use Rattle.bt_bib.specs.Scan.{first, after_white, sign, closing_sign}
use Rattle.bt_bib.specs.Stop.{Stop, ◌>>=◌}
use Rattle.bt_bib.specs.Names.{name}
use Rattle.bt_bib.specs.Many.{all}
use Rattle.bt_bib.specs.inner.Many.{gathered}
use Rattle.bt_bib.specs.Values.{value}
use Rattle.bt_bib.specs.Fields.{field, next_field, name_ends}
use Rattle.bt_bib.specs.inner.Cases.{field_or_close, next_field_from}
use Rattle.bt_bib.specs.laws.Spelling.{Spelling, ◌▸◌, ◌⋯◌, White, Sign}
use Rattle.bt_bib.specs.laws.Spelled.{NameOf, ValueOf, FieldOf, FieldsOf}
use Rattle.bt_bib.specs.laws.SpelledLaws.{SpelledFieldsAreRead, value_ends}
use Rattle.bt_bib.proofs.ManyLemmas.{gathers_more, gathers_none}
use Rattle.bt_bib.proofs.FieldLemmas.{next_field_less}
use Rattle.bt_bib.proofs.laws.CutLemmas.{Begins, begins_as, Fails}
use Rattle.bt_bib.proofs.laws.SpellingLemmas.{Stands, stands_at, split, either, on_line, sign_stands, sign_to, white_to, white_front, ends_from, one_begins, Starts, starts_both, starts_or, starts_bytes, begins_here, IsOne, MayEnd, may_white, may_one, FailsAll, one_fails, other, name_to}
use Rattle.bt_bib.proofs.laws.SpelledValueLemmas.{name_unwhite, name_starts, value_starts, value_to}

-- `name =`, and what follows it
pub record Equated (what : NameRole) (n : List ℕ) (V : Spelling) (h k : Here) : Type 0 where
  pub end : Here
  pub equals : Here
  pub inside : Here
  pub named : name what name_ends h ≡ Ok (n, end)
  pub sign : sign 61 ExpectedEquals (after_white end) ≡ Ok equals
  pub after_white : after_white equals ≡ inside
  pub stands : Stands V inside k

pub equated : (what : NameRole) (n : List ℕ) (V : Spelling) (h k : Here) → Starts (Fails is_white) V → Stands (NameOf n ⋯ Sign 61 ⋯ V) h k → Equated what n V h k
equated what n V h k starts x =
    let one = split (NameOf n) (White ▸ Sign 61 ⋯ V) h k x in
    let two = split White (Sign 61 ⋯ V) one.mid k one.back in
    let three = split (Sign 61) (White ▸ V) two.mid k two.back in
    let four = split White V three.mid k three.back in
    let is = sign_stands 61 two.mid three.mid three.front in
    let ends : Begins (IsOne name_ends) two.mid.rest = record { byte = 61; rest = three.mid.rest; is = is.is; fits = refl } in
    record {
      end = one.mid;
      equals = three.mid;
      inside = four.mid;
      named = name_to what name_ends n h one.mid refl one.front (ends_from name_ends one.mid.rest (white_front (MayEnd name_ends) (may_white name_ends) one.mid two.mid two.front (begins_as (may_one name_ends) ends)));
      sign = ap (sign 61 ExpectedEquals) (white_to one.mid two.mid two.front (begins_as (one_fails is_white name_ends refl) ends)) ∙ sign_to 61 ExpectedEquals two.mid three.mid three.front;
      after_white = white_to three.mid four.mid four.front (begins_here (Fails is_white) V starts four.mid k four.back);
      stands = four.back;
    }

-- a field, and the white space after it
abbrev pub with_value : ℕ → List ℕ → List Part × Here → Result (Field × Here) Stop
with_value line n v = Ok (record { name = n; line = line; value = v.0 }, v.1)

abbrev equal_value : Closing → ℕ → List ℕ → Here → Result (Field × Here) Stop
equal_value close line n equals = value close (after_white equals) >>= with_value line n

pub field_to : (close : Closing) (f : Field) (h m k : Here) → Stands (FieldOf f) h m → Stands White m k → Begins (IsOne (value_ends close)) k.rest → field close h ≡ Ok (f, k)
unfolding field
field_to close f h m k x w b =
    let on = on_line f.line (NameOf f.name ⋯ Sign 61 ⋯ ValueOf f.value) h m x in
    let e = equated FieldName f.name (ValueOf f.value) h m (value_starts f.value) on.1 in
    let line = h.spot.line in
    ap (λ (r : Result (List ℕ × Here) Stop). r >>= λ n. sign 61 ExpectedEquals (after_white n.1) >>= equal_value close line n.0) e.named
    ∙ ap (λ (r : Result Here Stop). r >>= equal_value close line f.name) e.sign
    ∙ ap (λ q. value close q >>= with_value line f.name) e.after_white
    ∙ ap (λ (r : Result (List Part × Here) Stop). r >>= with_value line f.name) (value_to close f.value e.inside m k e.stands w b)
    ∙ ap (λ l. Ok (record { name = f.name; line = l; value = f.value }, k)) (sym on.0)

pub spelled_fields_are_read : SpelledFieldsAreRead
spelled_fields_are_read close f s text rest a b =
    let h = at s (text ++ rest) in
    let k = at (spot_after text s) rest in
    let x = split (FieldOf f) White h k (stands_at (FieldOf f ▸ White) s text rest a) in
    field_to close f h x.mid k x.front x.back (one_begins (value_ends close) rest b)

-- The fields of an entry

pub ends_unwhite : (close : Closing) → FailsAll is_white (value_ends close)
ends_unwhite Brace = refl
ends_unwhite Parenthesis = refl

comma_apart : (close : Closing) → (44 == closing_sign close) ≡ false
comma_apart Brace = refl
comma_apart Parenthesis = refl

sign_no_name : (close : Closing) → is_name_byte (closing_sign close) ≡ false
sign_no_name Brace = refl
sign_no_name Parenthesis = refl

close_ends : (close : Closing) → IsOne (value_ends close) (closing_sign close)
close_ends Brace = refl
close_ends Parenthesis = refl

pub close_starts : (close : Closing) → Starts (IsOne (value_ends close)) (Sign (closing_sign close))
close_starts close = starts_bytes (IsOne (value_ends close)) (closing_sign close) [] (Unit {0}) (λ u. close_ends close)

comma_starts : (close : Closing) (A : Spelling) → Starts (IsOne (value_ends close)) (Sign 44 ▸ A)
comma_starts close A = starts_both (IsOne (value_ends close)) (Sign 44) A (starts_bytes (IsOne (value_ends close)) 44 [] (Unit {0}) (λ u. refl))

pub fields_start : (close : Closing) (fs : List Field) → Starts (IsOne (value_ends close)) (FieldsOf close fs)
fields_start close [] = starts_or (IsOne (value_ends close)) (Sign (closing_sign close)) (Sign 44 ⋯ Sign (closing_sign close)) (close_starts close) (comma_starts close (White ▸ Sign (closing_sign close)))
fields_start close (f ∷ fs) = comma_starts close (White ▸ FieldOf f ⋯ FieldsOf close fs)

-- the closing sign ends the fields
abbrev pub one_field : Closing → Here → Result (Option Field × Here) Stop
one_field close w = field close w >>= λ x. Ok (Some x.0, x.1)

close_read : (close : Closing) (w : Here) → field_or_close close w (Some (closing_sign close)) ≡ Ok (None, after_byte w)
close_read close w = ap (λ v. cond v (Ok (None, after_byte w)) (one_field close w)) (eq-eqb (closing_sign close) (closing_sign close) refl)

last_from : (close : Closing) (h : Here) → next_field_from close h (Some (closing_sign close)) ≡ Ok (None, after_byte h)
last_from Brace h = refl
last_from Parenthesis h = refl

last_read : (close : Closing) (h k : Here) → Stands (Sign (closing_sign close)) h k → next_field close h ≡ Ok (None, k)
unfolding next_field
last_read close h k x =
    let one = sign_stands (closing_sign close) h k x in
    ap (next_field_from close h) one.first ∙ last_from close h ∙ ap (λ q. Ok (None, q)) one.after_byte

-- after a comma and white space
comma_read : (close : Closing) (h a w : Here) → Stands (Sign 44) h a → Stands White a w → Begins (Fails is_white) w.rest → next_field close h ≡ field_or_close close w (first w.rest)
unfolding next_field
comma_read close h a w x space b =
    let one = sign_stands 44 h a x in
    let inner : Here → Result (Option Field × Here) Stop = λ q. (let w = after_white q in field_or_close close w (first w.rest)) in
    ap (next_field_from close h) one.first
    ∙ ap (λ v. cond v (Ok (None, after_byte h)) (inner (after_byte h))) (comma_apart close)
    ∙ ap inner one.after_byte ∙ ap (λ w. field_or_close close w (first w.rest)) (white_to a w space b)

end_read : (close : Closing) (h k : Here) → Stands (Sign 44 ⋯ Sign (closing_sign close)) h k → next_field close h ≡ Ok (None, k)
end_read close h k x =
    let last : Spelling = Sign (closing_sign close) in
    let one = split (Sign 44) (White ▸ last) h k x in
    let two = split White last one.mid k one.back in
    let w = two.mid in
    let closes = sign_stands (closing_sign close) w k two.back in
    let starts : Begins (IsOne (value_ends close)) w.rest = begins_here (IsOne (value_ends close)) last (close_starts close) w k two.back in
    comma_read close h one.mid w one.front two.front (begins_as (one_fails is_white (value_ends close) (ends_unwhite close)) starts) ∙ ap (field_or_close close w) closes.first ∙ close_read close w ∙ ap (λ q. Ok (None, q)) closes.after_byte

no_sign : (close : Closing) (b : ℕ) → is_name_byte b ≡ true → (b == closing_sign close) ≡ false
no_sign close b is = other is_name_byte (closing_sign close) b (sign_no_name close) is

field_starts : (P : ℕ → Type 0) → ((b : ℕ) → is_name_byte b ≡ true → P b) → (f : Field) → Starts P (FieldOf f)
field_starts P of_name f s text x = starts_both P (NameOf f.name) (White ▸ Sign 61 ⋯ ValueOf f.value) (name_starts P (λ b d is. of_name b is) f.name) s text x.1

field_at : (close : Closing) (s : Spot) (rest : List ℕ) → Begins (Fails (λ b. b == closing_sign close)) rest → field_or_close close (at s rest) (first rest) ≡ one_field close (at s rest)
field_at close s rest b = subst (λ r. field_or_close close (at s r) (first r) ≡ one_field close (at s r)) (sym b.is) (ap (λ v. cond v (Ok (None, after_byte (at s (b.byte ∷ b.rest)))) (one_field close (at s (b.byte ∷ b.rest)))) b.fits)

pub fields_to : (close : Closing) (fs front : List Field) (h k : Here) → Stands (FieldsOf close fs) h k → gathered front (all (next_field close) h) ≡ (front ++ fs, Ok k)
fields_to close [] front h k x =
    let last : Spelling = Sign (closing_sign close) in
    let done : next_field close h ≡ Ok (None, k) = either last (Sign 44 ⋯ last) h k x (last_read close h k) (end_read close h k) in
    gathers_none (next_field close) (next_field_less close) front h k done ∙ ap (λ (l : List Field). (l, Ok k)) (sym (append-nil front))
fields_to close (f ∷ fs) front h k x =
    let others = FieldsOf close fs in
    let one = split (Sign 44) (White ▸ FieldOf f ⋯ others) h k x in
    let two = split White (FieldOf f ⋯ others) one.mid k one.back in
    let three = split (FieldOf f) (White ▸ others) two.mid k two.back in
    let four = split White others three.mid k three.back in
    let w = two.mid in
    let e = four.mid in
    let starts : Begins (λ b. is_name_byte b ≡ true) w.rest = begins_here (λ b. is_name_byte b ≡ true) (FieldOf f) (field_starts (λ b. is_name_byte b ≡ true) (λ b is. is) f) w three.mid three.front in
    let next : next_field close h ≡ Ok (Some f, e) =
    comma_read close h one.mid w one.front two.front (begins_as name_unwhite starts)
    ∙ field_at close w.spot w.rest (begins_as (no_sign close) starts)
    ∙ ap (λ (r : Result (Field × Here) Stop). r >>= λ x. Ok (Some x.0, x.1)) (field_to close f w three.mid e three.front four.front (begins_here (IsOne (value_ends close)) others (fields_start close fs) e k four.back)) in
    sym (gathers_more (next_field close) (next_field_less close) front f h e next) ∙ fields_to close fs (front ++ f ∷ []) e k four.back ∙ ap (λ (l : List Field). (l, Ok k)) (append_assoc front (f ∷ []) fs)
