-- What is read without a fault is spelled by the bytes it was read from: parts, values and fields.
use Rattle.std.specs.Prelude.{◌==◌}
use Rattle.std.specs.List.{list_all, take_while}
use Rattle.std.proofs.Common.{◌≡◌, ℕ, zero, suc, ◌<◌, Bool, true, false, cond, List, [], ◌∷◌, ◌++◌, length, Some, None, Result, Ok, Err, refl, sym, ap, subst, ◌∙◌, append_assoc, arith}
use Rattle.std.proofs.lemmas.List.{append-nil}
use Rattle.std.proofs.lemmas.List.Sums.{take_while-cons}
use Rattle.std.proofs.lemmas.Bool.{eqb-true, and_from}
use Rattle.bt_text.specs.ByteTests.{is_digit, left_brace, right_brace}
use Rattle.bt_text.specs.NameBytes.{is_name_byte}
use Rattle.bt_bib.specs.declared.spot.Spot.{Spot}
use Rattle.bt_bib.specs.declared.fault.NameRole.TheVariants.{FieldName, FieldPart}
use Rattle.bt_bib.specs.declared.fault.ItemFault.TheVariants.{ExpectedEquals, MissingPart}
use Rattle.bt_bib.specs.declared.item.Closing.{Closing}
use Rattle.bt_bib.specs.declared.item.Part.{Part}
use Rattle.bt_bib.specs.declared.item.Part.TheVariants.{Text, Macro}
use Rattle.bt_bib.specs.declared.item.Field.{Field}
use Rattle.bt_bib.specs.Spot.{Here, at, after_byte}
use Rattle.bt_bib.specs.Scan.{first, run, after_run, after_white, sign}
use Rattle.bt_bib.specs.Stop.{Stop, ◌>>=◌}
use Rattle.bt_bib.specs.Enclosure.{enclosed}
use Rattle.bt_bib.specs.Names.{name}
use Rattle.bt_bib.specs.Values.{part, part_ends, next_part, value}
use Rattle.bt_bib.specs.inner.Cases.{raw_part}
use Rattle.bt_bib.specs.Fields.{field, name_ends}
use Rattle.bt_bib.specs.laws.Spelling.{Spelling, ◌▸◌, ◌or◌, ◌⋯◌, This, That, Bytes, Written, White, Sign, IsEnclosed}
use Rattle.bt_bib.specs.laws.Spelled.{NameOf, Enclosed, is_number, PartOf, PartsOf, ValueOf, FieldOf}
use Rattle.bt_bib.proofs.ManyLemmas.{IsLess, gathers_none}
use Rattle.bt_bib.proofs.LoopLemmas.{read_out}
use Rattle.bt_bib.proofs.FieldLemmas.{joined_less}
use Rattle.bt_bib.proofs.laws.SpellingLemmas.{Stands, split}
use Rattle.bt_bib.proofs.laws.SpelledValueLemmas.{text_part, parts_from, one_more, another}
use Rattle.bt_bib.proofs.laws.SpelledFieldLemmas.{with_value}
use Rattle.bt_bib.proofs.laws.FaultlessTextLemmas.{bind_ok, ok_same, stands_both, stands_spaced, stands_on, stands_run, stands_white, stands_sign, run_all, read_sign, read_name, read_enclosed}

-- the same of a value with the place after it that is equal
pub as_pair : {A : Type 0} (S : A → Spelling) (h : Here) (x y : A × Here) → x ≡ y → Stands (S x.0) h x.1 → Stands (S y.0) h y.1
as_pair {A = A} S h x y same stands = (let P : A × Here → Type 0 = λ x. Stands (S x.0) h x.1 in subst P same stands)

pub stands_this : (A B : Spelling) (h k : Here) → Stands A h k → Stands (A or B) h k
stands_this A B h k a = record { text = a.text; spelled = This a.spelled; rest = a.rest; spot = a.spot }

pub stands_that : (A B : Spelling) (h k : Here) → Stands B h k → Stands (A or B) h k
stands_that A B h k b = record { text = b.text; spelled = That b.spelled; rest = b.rest; spot = b.spot }

-- Parts

read_shut : (opening closing : ℕ) (h : Here) (x : List ℕ × Here) → first h.rest ≡ Some opening → enclosed closing (after_byte h) ≡ Ok x → Stands (Enclosed opening closing x.0) h (after_byte x.1)
read_shut opening closing h x opens is =
    let inside : Spelling = Bytes x.0 (IsEnclosed closing x.0) in
    let e = read_enclosed closing (after_byte h) x.0 x.1 is in
    stands_both (Sign opening) (inside ▸ Sign closing) h (after_byte h) (after_byte x.1) (stands_sign opening h opens) (stands_both inside (Sign closing) (after_byte h) x.1 (after_byte x.1) e.0 (stands_sign closing x.1 e.1))

number_run : (b : ℕ) (bs : List ℕ) → is_digit b ≡ true → is_number (take_while is_digit (b ∷ bs)) ≡ true
number_run b bs is =
    let rest = take_while is_digit bs in
    let whole : take_while is_digit (b ∷ bs) ≡ b ∷ rest = take_while-cons is_digit b bs ∙ ap (λ v. cond v (b ∷ rest) []) is in
    subst (λ l. is_number l ≡ true) (sym whole) (and_from (is_digit b) (list_all is_digit rest) is (run_all is_digit bs))

abbrev macro_part : ℕ → List ℕ × Here → Result (Part × Here) Stop
macro_part line n = Ok (Macro n.0 line, n.1)

raw_by : (close : Closing) (s : Spot) (b : ℕ) (bs : List ℕ) (p : Part) (k : Here) (l q d n : Bool) → (b == left_brace) ≡ l → (b == 34) ≡ q → is_digit b ≡ d → (let h = at s (b ∷ bs) in
    cond l (enclosed right_brace (after_byte h) >>= text_part) (cond q (enclosed 34 (after_byte h) >>= text_part) (cond d (Ok (Text (run is_digit h), after_run is_digit h)) (cond n (name FieldPart (part_ends close) h >>= macro_part s.line) (Err (MissingPart, h))))) ≡ Ok (p, k) → Stands (PartOf p) h k)
raw_by close s b bs p k true q d n le qe de is =
    let h = at s (b ∷ bs) in
    let expected : Part × Here = (p, k) in
    let x = bind_ok (enclosed right_brace (after_byte h)) text_part expected is in
    let t = x.0.0 in
    let found : Part × Here = (Text t, after_byte x.0.1) in
    as_pair PartOf h found expected (ok_same found expected x.2) (stands_this (Enclosed left_brace right_brace t) (Enclosed 34 34 t or Bytes t (is_number t ≡ true)) h (after_byte x.0.1) (read_shut left_brace right_brace h x.0 (ap (λ b. Some b) (eqb-true b left_brace le)) x.1))
raw_by close s b bs p k false true d n le qe de is =
    let h = at s (b ∷ bs) in
    let expected : Part × Here = (p, k) in
    let x = bind_ok (enclosed 34 (after_byte h)) text_part expected is in
    let t = x.0.0 in
    let e = after_byte x.0.1 in
    let digits : Spelling = Bytes t (is_number t ≡ true) in
    let found : Part × Here = (Text t, e) in
    as_pair PartOf h found expected (ok_same found expected x.2) (stands_that (Enclosed left_brace right_brace t) (Enclosed 34 34 t or digits) h e (stands_this (Enclosed 34 34 t) digits h e (read_shut 34 34 h x.0 (ap (λ b. Some b) (eqb-true b 34 qe)) x.1)))
raw_by close s b bs p k false false true n le qe de is =
    let h = at s (b ∷ bs) in
    let expected : Part × Here = (p, k) in
    let t = run is_digit h in
    let e = after_run is_digit h in
    let digits : Spelling = Bytes t (is_number t ≡ true) in
    let found : Part × Here = (Text t, e) in
    as_pair PartOf h found expected (ok_same found expected is) (stands_that (Enclosed left_brace right_brace t) (Enclosed 34 34 t or digits) h e (stands_that (Enclosed 34 34 t) digits h e (stands_run is_digit digits h (Written (number_run b bs de)))))
raw_by close s b bs p k false false false true le qe de is =
    let h = at s (b ∷ bs) in
    let expected : Part × Here = (p, k) in
    let x = bind_ok (name FieldPart (part_ends close) h) (macro_part s.line) expected is in
    let found : Part × Here = (Macro x.0.0 s.line, x.0.1) in
    as_pair PartOf h found expected (ok_same found expected x.2) (stands_on (NameOf x.0.0) h x.0.1 (read_name FieldPart (part_ends close) h x.0.0 x.0.1 x.1))
raw_by close s b bs p k false false false false le qe de is = absurd (cc is)

raw_at : (close : Closing) (s : Spot) (r : List ℕ) (p : Part) (k : Here) → raw_part close (at s r) ≡ Ok (p, k) → Stands (PartOf p) (at s r) k
raw_at close s [] p k is = absurd (cc is)
raw_at close s (b ∷ bs) p k is = raw_by close s b bs p k (b == left_brace) (b == 34) (is_digit b) (is_name_byte b) refl refl refl is

read_part : (close : Closing) (h : Here) (p : Part) (k : Here) → part close h ≡ Ok (p, k) → Stands (PartOf p ▸ White) h k
unfolding part
read_part close h p k is =
    let expected : Part × Here = (p, k) in
    let x = bind_ok (raw_part close h) (λ x. Ok (x.0, after_white x.1)) expected is in
    let found : Part × Here = (x.0.0, after_white x.0.1) in
    as_pair (λ p. PartOf p ▸ White) h found expected (ok_same found expected x.2) (stands_both (PartOf x.0.0) White h x.0.1 (after_white x.0.1) (raw_at close h.spot h.rest x.0.0 x.0.1 x.1) (stands_white x.0.1))

-- Values

-- the parts from one on, of which the others are read
record Others (p : Part) (front qs : List Part) (g k : Here) : Type 0 where
  parts : List Part
  is : qs ≡ front ++ parts
  stands : Stands (PartsOf p parts ▸ White) g k

no_others : (close : Closing) (front : List Part) (p : Part) (g h : Here) (qs : List Part) (k : Here) → next_part close h ≡ Ok (None, h) → Stands (PartOf p ▸ White) g h → parts_from close front h ≡ Ok (qs, k) → Others p front qs g k
no_others close front p g h qs k none stands is =
    let found : List Part × Here = (front, h) in
    let expected : List Part × Here = (qs, k) in
    let same = ok_same found expected (sym (ap read_out (gathers_none (next_part close) (joined_less close) front h h none)) ∙ is) in
    record { parts = []; is = sym (ap (λ (x : List Part × Here). x.0) same) ∙ sym (append-nil front); stands = subst (Stands (PartOf p ▸ White) g) (ap (λ (x : List Part × Here). x.1) same) stands }

-- the part after a `#`, and those after it
more_others : (close : Closing) (front : List Part) (p : Part) (g h : Here) (qs : List Part) (k : Here) → first h.rest ≡ Some 35 → next_part close h ≡ another close (after_white (after_byte h)) → Stands (PartOf p ▸ White) g h → parts_from close front h ≡ Ok (qs, k)
    → ((q : Part) (e : Here) → length e.rest < length h.rest → Stands (PartOf q ▸ White) (after_white (after_byte h)) e → parts_from close (front ++ q ∷ []) e ≡ Ok (qs, k) → Others q (front ++ q ∷ []) qs (after_white (after_byte h)) k) → Others p front qs g k
more_others close front p g h qs k sharp next stands is later =
    let w = after_white (after_byte h) in
    let expected : List Part × Here = (qs, k) in
    let x = bind_ok (part close w) (λ x. parts_from close (front ++ x.0 ∷ []) x.1) expected (sym (one_more close front h (part close w) next) ∙ is) in
    let q = x.0.0 in
    let e = x.0.1 in
    let read : next_part close h ≡ Ok (Some q, e) = next ∙ ap (λ (r : Result (Part × Here) Stop). r >>= λ x. Ok (Some x.0, x.1)) x.1 in
    let o = later q e (subst (IsLess h) read (joined_less close h)) (read_part close w q e x.1) x.2 in
    let one = split (PartOf p) White g h stands in
    let two = split (PartsOf q o.parts) White w k o.stands in
    let tail = stands_spaced (Sign 35) (PartsOf q o.parts) h (after_byte h) w two.mid (stands_sign 35 h sharp) (stands_white (after_byte h)) two.front in
    record {
      parts = q ∷ o.parts;
      is = o.is ∙ append_assoc front (q ∷ []) o.parts;
      stands = stands_both (PartsOf p (q ∷ o.parts)) White g two.mid k (stands_spaced (PartOf p) (Sign 35 ⋯ PartsOf q o.parts) g one.mid h two.mid one.front one.back tail) two.back;
    }

others_by : (close : Closing) (front : List Part) (p : Part) (g : Here) (s : Spot) (b : ℕ) (bs : List ℕ) (qs : List Part) (k : Here) (v : Bool) → (b == 35) ≡ v → (let h = at s (b ∷ bs) in next_part close h ≡ cond v (another close (after_white (after_byte h))) (Ok (None, h)) → Stands (PartOf p ▸ White) g h → parts_from close front h ≡ Ok (qs, k)
    → ((q : Part) (e : Here) → length e.rest < length h.rest → Stands (PartOf q ▸ White) (after_white (after_byte h)) e → parts_from close (front ++ q ∷ []) e ≡ Ok (qs, k) → Others q (front ++ q ∷ []) qs (after_white (after_byte h)) k) → Others p front qs g k)
others_by close front p g s b bs qs k true sharp next stands is later = more_others close front p g (at s (b ∷ bs)) qs k (ap (λ b. Some b) (eqb-true b 35 sharp)) next stands is later
others_by close front p g s b bs qs k false sharp next stands is later = no_others close front p g (at s (b ∷ bs)) qs k next stands is

others : (n : ℕ) (close : Closing) (front : List Part) (p : Part) (g : Here) (s : Spot) (r : List ℕ) (qs : List Part) (k : Here) → length r < n → Stands (PartOf p ▸ White) g (at s r) → parts_from close front (at s r) ≡ Ok (qs, k) → Others p front qs g k
unfolding next_part
others zero close front p g s r qs k lt stands is = absurd (omega arith)
others (suc n) close front p g s [] qs k lt stands is = no_others close front p g (at s []) qs k refl stands is
others (suc n) close front p g s (b ∷ bs) qs k lt stands is =
    let w = after_white (after_byte (at s (b ∷ bs))) in
    others_by close front p g s b bs qs k (b == 35) refl refl stands is (λ q e less there later. others n close (front ++ q ∷ []) q w e.spot e.rest qs k (omega arith) there later)

pub read_value : (close : Closing) (h : Here) (ps : List Part) (k : Here) → value close h ≡ Ok (ps, k) → Stands (ValueOf ps ▸ White) h k
unfolding value
read_value close h ps k is =
    let expected : List Part × Here = (ps, k) in
    let x = bind_ok (part close h) (λ x. parts_from close (x.0 ∷ []) x.1) expected is in
    let p = x.0.0 in
    let e = x.0.1 in
    let o = others (suc (length e.rest)) close (p ∷ []) p h e.spot e.rest ps k (omega arith) (read_part close h p e x.1) x.2 in
    subst (λ ps. Stands (ValueOf ps ▸ White) h k) (sym o.is) o.stands

-- Fields

-- `name =`, and what follows it
pub equals_stand : (n : List ℕ) (V : Spelling) (h a q k : Here) → Stands (NameOf n) h a → sign 61 ExpectedEquals (after_white a) ≡ Ok q → Stands V (after_white q) k → Stands (NameOf n ⋯ Sign 61 ⋯ V) h k
equals_stand n V h a q k named is stands =
    stands_spaced (NameOf n) (Sign 61 ⋯ V) h a (after_white a) k named (stands_white a) (stands_spaced (Sign 61) V (after_white a) q (after_white q) k (read_sign 61 ExpectedEquals (after_white a) q is) (stands_white q) stands)

pub read_field : (close : Closing) (h : Here) (f : Field) (k : Here) → field close h ≡ Ok (f, k) → Stands (FieldOf f ▸ White) h k
unfolding field
read_field close h f k is =
    let expected : Field × Here = (f, k) in
    let line = h.spot.line in
    let n = bind_ok (name FieldName name_ends h) (λ n. sign 61 ExpectedEquals (after_white n.1) >>= λ equals. value close (after_white equals) >>= with_value line n.0) expected is in
    let q = bind_ok (sign 61 ExpectedEquals (after_white n.0.1)) (λ equals. value close (after_white equals) >>= with_value line n.0.0) expected n.2 in
    let v = bind_ok (value close (after_white q.0)) (with_value line n.0.0) expected q.2 in
    let found : Field × Here = (record { name = n.0.0; line = line; value = v.0.0 }, v.0.1) in
    let one = split (ValueOf v.0.0) White (after_white q.0) v.0.1 (read_value close (after_white q.0) v.0.0 v.0.1 v.1) in
    let whole = equals_stand n.0.0 (ValueOf v.0.0) h n.0.1 q.0 one.mid (read_name FieldName name_ends h n.0.0 n.0.1 n.1) q.1 one.front in
    as_pair (λ f. FieldOf f ▸ White) h found expected (ok_same found expected v.2) (stands_both (FieldOf found.0) White h one.mid v.0.1 (stands_on (NameOf n.0.0 ⋯ Sign 61 ⋯ ValueOf v.0.0) h one.mid whole) one.back)
