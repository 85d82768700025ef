-- Parts and values are read as they are spelled.
use Rattle.std.specs.Prelude.{◌==◌, ◌||◌, not}
use Rattle.std.specs.List.{list_all, list_any}
use Rattle.std.proofs.Common.{◌≡◌, ℕ, Bool, true, false, cond, List, [], ◌∷◌, ◌++◌, Option, Some, None, Result, Ok, Err, refl, sym, ap, subst, ◌∙◌, append_assoc}
use Rattle.std.proofs.lemmas.Bool.{false≢true, or_right, or_left}
use Rattle.bt_text.specs.ByteTests.{is_white, is_digit, left_brace, right_brace}
use Rattle.bt_text.specs.NameBytes.{is_name_byte, is_name}
use Rattle.bt_bib.specs.declared.spot.Spot.{Spot}
use Rattle.bt_bib.specs.declared.fault.NameRole.TheVariants.{FieldPart}
use Rattle.bt_bib.specs.declared.item.Closing.{Closing}
use Rattle.bt_bib.specs.declared.item.Closing.TheVariants.{Brace, Parenthesis}
use Rattle.bt_bib.specs.declared.item.Part.{Part}
use Rattle.bt_bib.specs.declared.item.Part.TheVariants.{Text, Macro}
use Rattle.bt_bib.specs.Spot.{Here, at, spot_after_byte, spot_after, after_byte}
use Rattle.bt_bib.specs.Scan.{first, run, after_run, after_white, closing_sign}
use Rattle.bt_bib.specs.Stop.{Stop, ◌>>=◌}
use Rattle.bt_bib.specs.Enclosure.{enclosed}
use Rattle.bt_bib.specs.Names.{name}
use Rattle.bt_bib.specs.Many.{all, collected}
use Rattle.bt_bib.specs.Values.{part, part_ends, next_part, value}
use Rattle.bt_bib.specs.inner.Cases.{part_from, raw_part, joined_from}
use Rattle.bt_bib.specs.laws.Spelling.{Spelling, ◌▸◌, ◌or◌, ◌⋯◌, Bytes, Written, White, Sign, IsEnclosed, MayEndName}
use Rattle.bt_bib.specs.laws.Spelled.{NameOf, Enclosed, is_number, PartOf, PartsOf, ValueOf}
use Rattle.bt_bib.specs.laws.SpelledLaws.{SpelledPartsAreRead, SpelledValuesAreRead, value_ends}
use Rattle.bt_bib.proofs.ManyLemmas.{gathers_more, gathers_none, gathers_err}
use Rattle.bt_bib.proofs.LoopLemmas.{read_out}
use Rattle.bt_bib.proofs.FieldLemmas.{joined_less}
use Rattle.bt_bib.proofs.laws.CutLemmas.{Begins, begins_as, Fails}
use Rattle.bt_bib.proofs.laws.FitNameLemmas.{and_first}
use Rattle.bt_bib.proofs.laws.SpellingLemmas.{Stands, stands_at, standing, split, either, on_line, sign_stands, white_to, white_front, ends_from, one_begins, and_second, Starts, starts_both, starts_or, starts_bytes, begins_here, IsOne, MayEnd, may_white, may_one, FailsAll, one_fails, white_fails, passes_one, other, or_cases, Stops, past_to, run_is, name_at}
use Rattle.bt_bib.proofs.laws.SpelledTextLemmas.{enclosed_texts_are_read}

-- What may follow a part isn't white space, a byte of a name or a digit.
ends_unwhite : (close : Closing) → FailsAll is_white (part_ends close)
ends_unwhite Brace = refl
ends_unwhite Parenthesis = refl

ends_bare : (close : Closing) → FailsAll is_name_byte (part_ends close)
ends_bare Brace = refl
ends_bare Parenthesis = refl

ends_digits : (close : Closing) → FailsAll is_digit (part_ends close)
ends_digits Brace = refl
ends_digits Parenthesis = refl

stops_digits : (close : Closing) (rest : List ℕ) → MayEndName (part_ends close) rest → Stops is_digit rest
stops_digits close [] h = tt
stops_digits close (b ∷ rest) h = or_cases (is_white b) (list_any (λ sign. sign == b) (part_ends close)) h (white_fails is_digit refl refl refl refl b) (one_fails is_digit (part_ends close) (ends_digits close) b)

-- Texts between signs

enclosed_at : (closing : ℕ) (text : List ℕ) → (closing == left_brace) ≡ false → (s : Spot) (t rest : List ℕ) → Bytes text (IsEnclosed closing text) s t → (tail : List ℕ) → rest ≡ closing ∷ tail → enclosed closing (at s (t ++ rest)) ≡ Ok (text, at (spot_after t s) rest)
enclosed_at closing text other s t rest (Written is) tail e =
    ap (λ r. enclosed closing (at s (text ++ r))) e ∙ enclosed_texts_are_read closing s text tail other is ∙ ap (λ r. Ok (text, at (spot_after text s) r)) (sym e)

-- a part whose text was read, after its closing sign
abbrev pub text_part : List ℕ × Here → Result (Part × Here) Stop
text_part x = Ok (Text x.0, after_byte x.1)

-- a text with its signs
record Shut (opening closing : ℕ) (text : List ℕ) (h k : Here) : Type 0 where
  opens : first h.rest ≡ Some opening
  reads : (enclosed closing (after_byte h) >>= text_part) ≡ Ok (Text text, k)

shut_to : (opening closing : ℕ) (text : List ℕ) (h k : Here) → (closing == left_brace) ≡ false → Stands (Enclosed opening closing text) h k → Shut opening closing text h k
shut_to opening closing text h k apart x =
    let inside : Spelling = Bytes text (IsEnclosed closing text) in
    let one = split (Sign opening) (inside ▸ Sign closing) h k x in
    let two = split inside (Sign closing) one.mid k one.back in
    let opens = sign_stands opening h one.mid one.front in
    let closes = sign_stands closing two.mid k two.back in
    let read : enclosed closing one.mid ≡ Ok (text, two.mid) = standing inside (λ h k. (tail : List ℕ) → k.rest ≡ closing ∷ tail → enclosed closing h ≡ Ok (text, k)) (enclosed_at closing text apart) one.mid two.mid two.front k.rest closes.is in
    record {
      opens = opens.first;
      reads = ap (λ q. enclosed closing q >>= text_part) opens.after_byte ∙ ap (λ (r : Result (List ℕ × Here) Stop). r >>= text_part) read ∙ ap (λ q. Ok (Text text, q)) closes.after_byte;
    }

-- Numbers and macro names

third : {X : Type 0} (a b c : Bool) (w x y z : X) → a ≡ false → b ≡ false → c ≡ true → cond a w (cond b x (cond c y z)) ≡ y
third a b c w x y z p q r = ap (λ v. cond v w (cond b x (cond c y z))) p ∙ ap (λ v. cond v x (cond c y z)) q ∙ ap (λ v. cond v y z) r

fourth : {X : Type 0} (a b c d : Bool) (v w x y z : X) → a ≡ false → b ≡ false → c ≡ false → d ≡ true → cond a v (cond b w (cond c x (cond d y z))) ≡ y
fourth a b c d v w x y z p q r s = ap (λ u. cond u v (cond b w (cond c x (cond d y z)))) p ∙ third b c d w x y z q r s

number_at : (close : Closing) (text : List ℕ) (s : Spot) (t rest : List ℕ) → Bytes text (is_number text ≡ true) s t → MayEndName (part_ends close) rest → raw_part close (at s (t ++ rest)) ≡ Ok (Text text, at (spot_after t s) rest)
number_at close [] s t rest (Written is) ends = absurd (false≢true is)
number_at close (b ∷ bs) s t rest (Written is) ends =
    let h = at s (b ∷ bs ++ rest) in
    let stop = stops_digits close rest ends in
    let digit : is_digit b ≡ true = and_first (is_digit b) (list_all is_digit bs) is in
    third (b == left_brace) (b == 34) (is_digit b) _ _ (Ok (Text (run is_digit h), after_run is_digit h)) _ (other is_digit left_brace b refl digit) (other is_digit 34 b refl digit) digit
    ∙ ap (λ t. Ok (Text t, after_run is_digit h)) (run_is is_digit (b ∷ bs) rest is stop) ∙ ap (λ k. Ok (Text (b ∷ bs), k)) (past_to is_digit s (b ∷ bs) rest is stop)

pub starts_name : (b : ℕ) (text : List ℕ) → is_name (b ∷ text) ≡ true → (is_digit b ≡ false) × (is_name_byte b ≡ true)
starts_name b text is =
    let all = and_second (not (is_digit b)) (list_all is_name_byte (b ∷ text)) is in
    let named : is_name_byte b ≡ true = and_first (is_name_byte b) (list_all is_name_byte text) all in
    (passes_one (is_digit b) (not (is_digit b)) (λ e. ap not e) (and_first (not (is_digit b)) (list_all is_name_byte (b ∷ text)) is), named)

macro_at : (close : Closing) (n : List ℕ) (s : Spot) (t rest : List ℕ) → NameOf n s t → MayEndName (part_ends close) rest → raw_part close (at s (t ++ rest)) ≡ Ok (Macro n s.line, at (spot_after t s) rest)
macro_at close [] s t rest (Written is) ends = absurd (false≢true is)
macro_at close (b ∷ bs) s t rest (Written is) ends =
    let h = at s (b ∷ bs ++ rest) in
    let make : List ℕ × Here → Result (Part × Here) Stop = λ n. Ok (Macro n.0 s.line, n.1) in
    let starts = starts_name b bs is in
    fourth (b == left_brace) (b == 34) (is_digit b) (is_name_byte b) _ _ _ (name FieldPart (part_ends close) h >>= make) _ (other is_name_byte left_brace b refl starts.1) (other is_name_byte 34 b refl starts.1) starts.0 starts.1
    ∙ ap (λ r. r >>= make) (name_at FieldPart (part_ends close) (b ∷ bs) (ends_bare close) s (b ∷ bs) rest (Written is) ends)

raw_to : (close : Closing) (p : Part) (h k : Here) → Stands (PartOf p) h k → MayEndName (part_ends close) k.rest → raw_part close h ≡ Ok (p, k)
raw_to close (Text text) h k x ends =
    let braces : Spelling = Enclosed left_brace right_brace text in
    let quotes : Spelling = Enclosed 34 34 text in
    let digits : Spelling = Bytes text (is_number text ≡ true) in
    either braces (quotes or digits) h k x (λ x. (let s = shut_to left_brace right_brace text h k refl x in ap (part_from close h) s.opens ∙ s.reads)) (λ x.
    either quotes digits h k x (λ x. (let s = shut_to 34 34 text h k refl x in ap (part_from close h) s.opens ∙ s.reads)) (λ x.
    standing digits (λ h k. MayEndName (part_ends close) k.rest → raw_part close h ≡ Ok (Text text, k)) (number_at close text) h k x ends))
raw_to close (Macro n line) h k x ends =
    let on = on_line line (NameOf n) h k x in
    standing (NameOf n) (λ h k. MayEndName (part_ends close) k.rest → raw_part close h ≡ Ok (Macro n h.spot.line, k)) (macro_at close n) h k on.1 ends ∙ ap (λ l. Ok (Macro n l, k)) (sym on.0)

-- a part, and the white space after it
pub part_to : (close : Closing) (p : Part) (h m k : Here) → Stands (PartOf p) h m → Stands White m k → Begins (IsOne (part_ends close)) k.rest → part close h ≡ Ok (p, k)
unfolding part
part_to close p h m k x w b =
    let signs = part_ends close in
    let ends : MayEndName signs m.rest = ends_from signs m.rest (white_front (MayEnd signs) (may_white signs) m k w (begins_as (may_one signs) b)) in
    ap (λ (r : Result (Part × Here) Stop). r >>= λ x. Ok (x.0, after_white x.1)) (raw_to close p h m x ends) ∙ ap (λ q. Ok (p, q)) (white_to m k w (begins_as (one_fails is_white signs (ends_unwhite close)) b))

pub spelled_parts_are_read : SpelledPartsAreRead
spelled_parts_are_read close p s text rest a b =
    let h = at s (text ++ rest) in
    let k = at (spot_after text s) rest in
    let x = split (PartOf p) White h k (stands_at (PartOf p ▸ White) s text rest a) in
    part_to close p h x.mid k x.front x.back (one_begins (part_ends close) rest b)

-- Values

digit_unwhite : (b : ℕ) → is_digit b ≡ true → is_white b ≡ false
digit_unwhite b is = passes_one (is_white b) (is_digit b) (white_fails is_digit refl refl refl refl b) is

pub name_unwhite : (b : ℕ) → is_name_byte b ≡ true → is_white b ≡ false
name_unwhite b is = passes_one (is_white b) (is_name_byte b) (white_fails is_name_byte refl refl refl refl b) is

number_starts : (text : List ℕ) → Starts (Fails is_white) (Bytes text (is_number text ≡ true))
number_starts [] s t (Written is) = absurd (false≢true is)
number_starts (b ∷ bs) s t x = starts_bytes (Fails is_white) b bs (is_number (b ∷ bs) ≡ true) (λ is. digit_unwhite b (and_first (is_digit b) (list_all is_digit bs) is)) s t x

pub name_starts : (P : ℕ → Type 0) → ((b : ℕ) → is_digit b ≡ false → is_name_byte b ≡ true → P b) → (n : List ℕ) → Starts P (NameOf n)
name_starts P of_name [] s t (Written is) = absurd (false≢true is)
name_starts P of_name (b ∷ bs) s t x = starts_bytes P b bs (is_name (b ∷ bs) ≡ true) (λ is. (let starts = starts_name b bs is in of_name b starts.0 starts.1)) s t x

enclosed_starts : (opening closing : ℕ) (text : List ℕ) → is_white opening ≡ false → Starts (Fails is_white) (Enclosed opening closing text)
enclosed_starts opening closing text is = starts_both (Fails is_white) (Sign opening) (Bytes text (IsEnclosed closing text) ▸ Sign closing) (starts_bytes (Fails is_white) opening [] (Unit {0}) (λ u. is))

part_starts : (p : Part) → Starts (Fails is_white) (PartOf p)
part_starts (Text text) =
    let digits : Spelling = Bytes text (is_number text ≡ true) in
    starts_or (Fails is_white) (Enclosed left_brace right_brace text) (Enclosed 34 34 text or digits) (enclosed_starts left_brace right_brace text refl) (starts_or (Fails is_white) (Enclosed 34 34 text) digits (enclosed_starts 34 34 text refl) (number_starts text))
part_starts (Macro n line) = λ s text x. name_starts (Fails is_white) (λ b d is. name_unwhite b is) n s text x.1

pub parts_start : (p : Part) (ps : List Part) → Starts (Fails is_white) (PartsOf p ps)
parts_start p [] = part_starts p
parts_start p (q ∷ ps) = starts_both (Fails is_white) (PartOf p) (White ▸ Sign 35 ⋯ PartsOf q ps) (part_starts p)

pub value_starts : (ps : List Part) → Starts (Fails is_white) (ValueOf ps)
value_starts [] = λ s text x. absurd x
value_starts (p ∷ ps) = parts_start p ps

-- the parts from here on after some others
abbrev pub parts_from : Closing → List Part → Here → Result (List Part × Here) Stop
parts_from close front h = collected front (all (next_part close) h)

pub one_more : (close : Closing) (front : List Part) (h : Here) (r : Result (Part × Here) Stop) → next_part close h ≡ (r >>= λ x. Ok (Some x.0, x.1)) → parts_from close front h ≡ (r >>= λ x. parts_from close (front ++ x.0 ∷ []) x.1)
one_more close front h (Ok (p, k)) is = ap read_out (sym (gathers_more (next_part close) (joined_less close) front p h k is))
one_more close front h (Err stop) is = ap read_out (gathers_err (next_part close) (joined_less close) front h stop is)

joined_at : (close : Closing) (h : Here) → first h.rest ≡ Some 35 → next_part close h ≡ (part close (after_white (after_byte h)) >>= λ x. Ok (Some x.0, x.1))
unfolding next_part
joined_at close h is = ap (joined_from close h) is

abbrev pub another : Closing → Here → Result (Option Part × Here) Stop
another close w = part close w >>= λ x. Ok (Some x.0, x.1)

unsharp : (close : Closing) → FailsAll (λ b. b == 35) (value_ends close)
unsharp Brace = refl
unsharp Parenthesis = refl

no_more_at : (close : Closing) (s : Spot) (rest : List ℕ) → Begins (IsOne (value_ends close)) rest → next_part close (at s rest) ≡ Ok (None, at s rest)
unfolding next_part
no_more_at close s rest b = subst (λ r. next_part close (at s r) ≡ Ok (None, at s r)) (sym b.is) (ap (λ v. cond v (another close (after_white (at (spot_after_byte b.byte s) b.rest))) (Ok (None, at s (b.byte ∷ b.rest)))) (one_fails (λ b. b == 35) (value_ends close) (unsharp close) b.byte b.fits))

no_more : (close : Closing) (front : List Part) (h : Here) → Begins (IsOne (value_ends close)) h.rest → parts_from close front h ≡ Ok (front, h)
no_more close front h b = ap read_out (gathers_none (next_part close) (joined_less close) front h h (no_more_at close h.spot h.rest b))

-- what ends a value ends a part
part_ends_so : (close : Closing) (b : ℕ) → IsOne (value_ends close) b → IsOne (part_ends close) b
part_ends_so close b h =
    let last = list_any (λ sign. sign == b) (closing_sign close ∷ []) in
    or_cases (44 == b) last h (or_left (44 == b) (35 == b || last)) (λ e. or_right (44 == b) (35 == b || last) (or_right (35 == b) last e))

parts_to : (close : Closing) (p : Part) (ps front : List Part) (h m k : Here) → Stands (PartsOf p ps) h m → Stands White m k → Begins (IsOne (value_ends close)) k.rest → (part close h >>= λ x. parts_from close (front ++ x.0 ∷ []) x.1) ≡ Ok (front ++ p ∷ ps, k)
parts_to close p [] front h m k x w b =
    let next : Part × Here → Result (List Part × Here) Stop = λ x. parts_from close (front ++ x.0 ∷ []) x.1 in
    ap (λ (r : Result (Part × Here) Stop). r >>= next) (part_to close p h m k x w (begins_as (part_ends_so close) b)) ∙ no_more close (front ++ p ∷ []) k b
parts_to close p (q ∷ ps) front h m k x w b =
    let next : List Part → Part × Here → Result (List Part × Here) Stop = λ front x. parts_from close (front ++ x.0 ∷ []) x.1 in
    let others = PartsOf q ps in
    let one = split (PartOf p) (White ▸ Sign 35 ⋯ others) h m x in
    let two = split White (Sign 35 ⋯ others) one.mid m one.back in
    let three = split (Sign 35) (White ▸ others) two.mid m two.back in
    let four = split White others three.mid m three.back in
    let sharp = sign_stands 35 two.mid three.mid three.front in
    let longer = front ++ p ∷ [] in
    let ends : Begins (IsOne (part_ends close)) two.mid.rest = record { byte = 35; rest = three.mid.rest; is = sharp.is; fits = refl } in
    ap (λ (r : Result (Part × Here) Stop). r >>= next front) (part_to close p h one.mid two.mid one.front two.front ends)
    ∙ one_more close longer two.mid (part close (after_white (after_byte two.mid))) (joined_at close two.mid sharp.first)
    ∙ ap (λ k. part close (after_white k) >>= next longer) sharp.after_byte
    ∙ ap (λ k. part close k >>= next longer) (white_to three.mid four.mid four.front (begins_here (Fails is_white) others (parts_start q ps) four.mid m four.back))
    ∙ parts_to close q ps longer four.mid m k four.back w b
    ∙ ap (λ l. Ok (l, k)) (append_assoc front (p ∷ []) (q ∷ ps))

-- a value, and the white space after it
pub value_to : (close : Closing) (ps : List Part) (h m k : Here) → Stands (ValueOf ps) h m → Stands White m k → Begins (IsOne (value_ends close)) k.rest → value close h ≡ Ok (ps, k)
unfolding value
value_to close [] h m k x w b = absurd x.spelled
value_to close (p ∷ ps) h m k x w b = parts_to close p ps [] h m k x w b

pub spelled_values_are_read : SpelledValuesAreRead
spelled_values_are_read close ps s text rest a b =
    let h = at s (text ++ rest) in
    let k = at (spot_after text s) rest in
    let x = split (ValueOf ps) White h k (stands_at (ValueOf ps ▸ White) s text rest a) in
    value_to close ps h x.mid k x.front x.back (one_begins (value_ends close) rest b)
