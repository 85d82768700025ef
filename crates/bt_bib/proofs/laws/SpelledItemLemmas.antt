-- Items and whole databases are read as they are spelled.
use Rattle.std.specs.Prelude.{codes}
use Rattle.std.specs.List.{list_all}
use Rattle.std.proofs.Common.{◌≡◌, ℕ, true, false, List, [], ◌∷◌, ◌++◌, Option, Some, None, Result, Ok, refl, sym, ap, subst, ◌∙◌}
use Rattle.std.proofs.lemmas.Bool.{false≢true}
use Rattle.bt_text.specs.ByteTests.{is_white}
use Rattle.bt_bib.specs.declared.spot.Spot.{Spot}
use Rattle.bt_bib.specs.declared.fault.NameRole.TheVariants.{EntryType, StringName}
use Rattle.bt_bib.specs.declared.fault.ItemFault.TheVariants.{ExpectedEquals, ExpectedCommaOrClose}
use Rattle.bt_bib.specs.declared.item.Closing.{Closing}
use Rattle.bt_bib.specs.declared.item.Closing.TheVariants.{Brace, Parenthesis}
use Rattle.bt_bib.specs.declared.item.Part.{Part}
use Rattle.bt_bib.specs.declared.item.Field.{Field}
use Rattle.bt_bib.specs.declared.item.Content.TheVariants as contents
use Rattle.bt_bib.specs.declared.item.Entry.{Entry}
use Rattle.bt_bib.specs.declared.item.Definition.{Definition}
use Rattle.bt_bib.specs.declared.item.Piece.{Piece}
use Rattle.bt_bib.specs.declared.item.Piece.TheVariants as pieces
use Rattle.bt_bib.specs.declared.keywords.Keyword.{Keyword}
use Rattle.bt_bib.specs.declared.keywords.Keyword.TheVariants as keywords
use Rattle.bt_bib.specs.Spot.{Here, at, item_start, spot_after, after_byte}
use Rattle.bt_bib.specs.Scan.{run, after_run, after_white, sign, closing_sign, is_key_byte}
use Rattle.bt_bib.specs.Stop.{Stop, ◌>>=◌, value_read}
use Rattle.bt_bib.specs.Names.{word, name}
use Rattle.bt_bib.specs.Many.{all}
use Rattle.bt_bib.specs.Values.{value}
use Rattle.bt_bib.specs.Fields.{next_field}
use Rattle.bt_bib.specs.Pieces.{ended_item, opening, after_closing, entry_item, string_item, preamble_item, item_opened, item_of_type, piece, unread_entry, unread_string}
use Rattle.bt_bib.specs.inner.Cases.{opening_from, entry_read, name_line, string_read, preamble_read, type_ended, type_read}
use Rattle.bt_bib.specs.laws.Spelling.{Spelling, ◌▸◌, ◌⋯◌, Bytes, Written, White, Sign, OnLine, Provided, MayEndName}
use Rattle.bt_bib.specs.laws.Spelled.{NameOf, ValueOf, FieldsOf, EndsKey, Keyed, opening_sign, IsWord, Head, whole, AnEntry, AString, APreamble}
use Rattle.bt_bib.specs.laws.SpelledLaws.{SpelledItemsAreRead, value_ends}
use Rattle.bt_bib.proofs.RunLemmas.{passed-nil}
use Rattle.bt_bib.proofs.PieceLemmas.{item_here}
use Rattle.bt_bib.proofs.laws.CutLemmas.{Begins, begins_as, Fails}
use Rattle.bt_bib.proofs.laws.FitNameLemmas.{and_first}
use Rattle.bt_bib.proofs.laws.SpellingLemmas.{Stands, stands_at, standing, split, on_line, sign_stands, sign_to, white_to, white_front, begins_on, ends_from, Starts, starts_both, starts_bytes, begins_here, IsOne, MayEnd, may_white, may_one, one_fails, white_fails, passes_one, stops_from, past_to, run_is, word_to, ended_to, bare}
use Rattle.bt_bib.proofs.laws.SpelledValueLemmas.{name_unwhite, name_starts, starts_name, value_starts, value_to}
use Rattle.bt_bib.proofs.laws.SpelledFieldLemmas.{equated, fields_to, fields_start, close_starts, ends_unwhite}

-- Keys

key_unwhite : (close : Closing) (b : ℕ) → is_key_byte close b ≡ true → is_white b ≡ false
key_unwhite Brace b is = passes_one (is_white b) (is_key_byte Brace b) (white_fails (is_key_byte Brace) refl refl refl refl b) is
key_unwhite Parenthesis b is = passes_one (is_white b) (is_key_byte Parenthesis b) (white_fails (is_key_byte Parenthesis) refl refl refl refl b) is

ends_key : (close : Closing) (text : List ℕ) → EndsKey close text → Begins (Fails (is_key_byte close)) text
ends_key close [] h = absurd h
ends_key close (b ∷ rest) h = record { byte = b; rest = rest; is = refl; fits = h }

-- a condition on the text that is here
provided : (IsRight : List ℕ → Type 0) (A : Spelling) (h k : Here) → Stands (Provided IsRight A) h k → Stands A h k
provided IsRight A h k x = record { text = x.text; spelled = x.spelled.1; rest = x.rest; spot = x.spot }

key_ends : (close : Closing) (A : Spelling) (h k : Here) → Stands (Provided (EndsKey close) A) h k → Begins (Fails (is_key_byte close)) h.rest
key_ends close A h k x = subst (Begins (Fails (is_key_byte close))) (sym x.rest) (begins_on x.text k.rest (ends_key close x.text x.spelled.0))

-- a key, and what follows it and the white space
record KeyRead (close : Closing) (key : List ℕ) (A : Spelling) (h k : Here) : Type 0 where
  inside : Here
  run : run (is_key_byte close) h ≡ key
  after_run : after_white (after_run (is_key_byte close) h) ≡ inside
  stands : Stands A inside k

key_at : (close : Closing) (b : ℕ) (bs : List ℕ) (s : Spot) (t rest : List ℕ) → Bytes (b ∷ bs) (list_all (is_key_byte close) (b ∷ bs) ≡ true) s t → Begins (Fails (is_key_byte close)) rest → (run (is_key_byte close) (at s (t ++ rest)) ≡ b ∷ bs) × (after_run (is_key_byte close) (at s (t ++ rest)) ≡ at (spot_after t s) rest)
key_at close b bs s t rest (Written is) ends =
    let stop = stops_from (is_key_byte close) rest ends in
    (run_is (is_key_byte close) (b ∷ bs) rest is stop, past_to (is_key_byte close) s (b ∷ bs) rest is stop)

key_to : (close : Closing) (key : List ℕ) (A : Spelling) (h k : Here) → Starts (Fails is_white) A → Stands (Keyed close key A) h k → KeyRead close key A h k
key_to close [] A h k starts x =
    let inner = provided (EndsKey close) A h k x in
    let test = is_key_byte close in
    let stop = stops_from test h.rest (key_ends close A h k x) in
    let space = stops_from is_white h.rest (begins_here (Fails is_white) A starts h k inner) in
    let none : at (spot_after [] h.spot) h.rest ≡ h = ap (λ s. at s h.rest) (passed-nil h.spot) in
    record {
      inside = h;
      run = run_is test [] h.rest refl stop;
      after_run = ap after_white (past_to test h.spot [] h.rest refl stop ∙ none) ∙ past_to is_white h.spot [] h.rest refl space ∙ none;
      stands = inner;
    }
key_to close (b ∷ bs) A h k starts x =
    let key : Spelling = Bytes (b ∷ bs) (list_all (is_key_byte close) (b ∷ bs) ≡ true) in
    let one = split key (Provided (EndsKey close) (White ▸ A)) h k x in
    let after_byte = provided (EndsKey close) (White ▸ A) one.mid k one.back in
    let two = split White A one.mid k after_byte in
    let read = standing key (λ h k. Begins (Fails (is_key_byte close)) k.rest → (run (is_key_byte close) h ≡ b ∷ bs) × (after_run (is_key_byte close) h ≡ k)) (key_at close b bs) h one.mid one.front (key_ends close (White ▸ A) one.mid k one.back) in
    record {
      inside = two.mid;
      run = read.0;
      after_run = ap after_white read.1 ∙ white_to one.mid two.mid two.front (begins_here (Fails is_white) A starts two.mid k two.back);
      stands = two.back;
    }

key_starts : (close : Closing) (key : List ℕ) (A : Spelling) → Starts (Fails is_white) A → Starts (Fails is_white) (Keyed close key A)
key_starts close [] A k = λ s text x. k s text x.1
key_starts close (b ∷ bs) A k = starts_both (Fails is_white) (Bytes (b ∷ bs) (list_all (is_key_byte close) (b ∷ bs) ≡ true)) (Provided (EndsKey close) (White ▸ A)) (starts_bytes (Fails is_white) b bs (list_all (is_key_byte close) (b ∷ bs) ≡ true) (λ is. key_unwhite close b (and_first (is_key_byte close b) (list_all (is_key_byte close) bs) is)))

-- Heads

opens_at : (close : Closing) (h : Here) → opening_from h (Some (opening_sign close)) ≡ Ok (close, after_byte h)
opens_at Brace h = refl
opens_at Parenthesis h = refl

opens_to : (close : Closing) (h k : Here) → Stands (Sign (opening_sign close)) h k → opening h ≡ Ok (close, k)
unfolding opening
opens_to close h k x =
    let one = sign_stands (opening_sign close) h k x in
    ap (opening_from h) one.first ∙ opens_at close h ∙ ap (λ q. Ok (close, q)) one.after_byte

abbrev pub type_signs : List ℕ
type_signs = codes "{("

opening_ends : (close : Closing) → IsOne type_signs (opening_sign close)
opening_ends Brace = refl
opening_ends Parenthesis = refl

word_at : (keyword : Keyword) (text : List ℕ) (s : Spot) (t rest : List ℕ) → Bytes text (IsWord keyword text) s t → MayEndName type_signs rest → word EntryType (at s (t ++ rest)) ≡ Ok (text, at (spot_after t s) rest)
word_at keyword text s t rest (Written is) ends = word_to EntryType s text rest is.0 (bare type_signs rest refl ends)

right_at : (text : List ℕ) (IsRight : Type 0) (s : Spot) (t : List ℕ) → Bytes text IsRight s t → IsRight
right_at text IsRight s t (Written is) = is

is_word : (keyword : Keyword) (text : List ℕ) (h k : Here) → Stands (Bytes text (IsWord keyword text)) h k → IsWord keyword text
is_word keyword text h k x = right_at text (IsWord keyword text) h.spot x.text x.spelled

-- from `@` on, given what follows its word
pub typed_by : (keyword : Keyword) (text : List ℕ) (b k : Here) → Stands (Bytes text (IsWord keyword text)) b k → MayEndName type_signs k.rest → type_read (word EntryType b) ≡ item_of_type keyword text k
typed_by keyword text b k x ends =
    ap type_read (standing (Bytes text (IsWord keyword text)) (λ h k. MayEndName type_signs k.rest → word EntryType h ≡ Ok (text, k)) (word_at keyword text) b k x ends)
    ∙ ap (type_ended text) (ended_to EntryType type_signs k.spot k.rest ends)
    ∙ ap (λ w. item_of_type w text k) (is_word keyword text b k x).1

-- `@`, and what follows the white space after it
pub at_sign_to : (A : Spelling) (h k : Here) → Starts (Fails is_white) A → Stands (Sign 64 ⋯ A) h k → (mid : Here) × (after_white (after_byte h) ≡ mid) × Stands A mid k
at_sign_to A h k starts x =
    let one = split (Sign 64) (White ▸ A) h k x in
    let two = split White A one.mid k one.back in
    let sign = sign_stands 64 h one.mid one.front in
    (two.mid, ap after_white sign.after_byte ∙ white_to one.mid two.mid two.front (begins_here (Fails is_white) A starts two.mid k two.back), two.back)

pub word_starts : (keyword : Keyword) (text : List ℕ) → Starts (Fails is_white) (Bytes text (IsWord keyword text))
word_starts keyword [] s t (Written is) = absurd (false≢true is.0)
word_starts keyword (b ∷ bs) s t x = starts_bytes (Fails is_white) b bs (IsWord keyword (b ∷ bs)) (λ is. name_unwhite b (starts_name b bs is.0).1) s t x

-- an item, given what follows its opening sign
record Headed (keyword : Keyword) (text : List ℕ) (close : Closing) (A : Spelling) (r : List ℕ) (k : Here) : Type 0 where
  end : Here
  open_end : Here
  inside : Here
  read : piece r ≡ item_of_type keyword text end
  opens : opening (after_white end) ≡ Ok (close, open_end)
  after_run : after_white open_end ≡ inside
  stands : Stands A inside k

headed : (keyword : Keyword) (text : List ℕ) (close : Closing) (A : Spelling) (r : List ℕ) (k : Here) → Starts (Fails is_white) A → Stands (Head keyword text close A) (item_here r) k → Headed keyword text close A r k
unfolding piece
headed keyword text close A r k starts x =
    let W : Spelling = Bytes text (IsWord keyword text) in
    let O : Spelling = Sign (opening_sign close) in
    let one = at_sign_to (W ⋯ O ⋯ A) (item_here r) k (starts_both (Fails is_white) W (White ▸ O ⋯ A) (word_starts keyword text)) x in
    let two = split W (White ▸ O ⋯ A) one.0 k one.2 in
    let three = split White (O ⋯ A) two.mid k two.back in
    let four = split O (White ▸ A) three.mid k three.back in
    let five = split White A four.mid k four.back in
    let opens : Begins (IsOne type_signs) three.mid.rest = begins_here (IsOne type_signs) O (starts_bytes (IsOne type_signs) (opening_sign close) [] (Unit {0}) (λ u. opening_ends close)) three.mid four.mid four.front in
    let ends = ends_from type_signs two.mid.rest (white_front (MayEnd type_signs) (may_white type_signs) two.mid three.mid three.front (begins_as (may_one type_signs) opens)) in
    record {
      end = two.mid;
      open_end = four.mid;
      inside = five.mid;
      read = ap (λ q. type_read (word EntryType q)) one.1 ∙ typed_by keyword text one.0 two.mid two.front ends;
      opens = ap opening (white_to two.mid three.mid three.front (begins_as (one_fails is_white type_signs refl) opens)) ∙ opens_to close three.mid four.mid four.front;
      after_run = white_to four.mid five.mid five.front (begins_here (Fails is_white) A starts five.mid k five.back);
      stands = five.back;
    }

-- Items

ends_white : (close : Closing) (b : ℕ) → IsOne (value_ends close) b → is_white b ≡ false
ends_white close b is = one_fails is_white (value_ends close) (ends_unwhite close) b is

entry_to : (kind key : List ℕ) (fields : List Field) (close : Closing) (line : ℕ) (t : List ℕ) (k : Here) → Stands (Head keywords.Entry kind close (OnLine line (Keyed close key (FieldsOf close fields)))) (item_here t) k →
    piece t ≡ (pieces.Item (whole line (contents.Entry (record { kind = Some kind; key = Some key; fields = fields })) close), k)
entry_to kind key fields close line t k x =
    let F = FieldsOf close fields in
    let K = Keyed close key F in
    let starts : Starts (Fails is_white) F = λ s t x. begins_as (ends_white close) (fields_start close fields s t x) in
    let hd = headed keywords.Entry kind close (OnLine line K) t k (λ s t x. key_starts close key F starts s t x.1) x in
    let on = on_line line K hd.inside k hd.stands in
    let kr = key_to close key F hd.inside k starts on.1 in
    let entry : List ℕ → List Field → Entry = λ key fields. record { kind = Some kind; key = Some key; fields = fields } in
    let with_key : List ℕ → List Field × Result Here Stop → Entry × Result Here Stop = λ key r. (entry key r.0, r.1) in
    let fields_of : Here → List Field × Result Here Stop = λ q. all (next_field close) q in
    let read : entry_read kind close hd.inside ≡ (entry key fields, Ok k) =
    ap (λ n. with_key n (fields_of (after_white (after_run (is_key_byte close) hd.inside)))) kr.run ∙ ap (λ q. with_key key (fields_of q)) kr.after_run ∙ ap (with_key key) (fields_to close fields [] kr.inside k kr.stands) in
    hd.read
    ∙ ap (item_opened (unread_entry (Some kind)) (entry_item kind)) hd.opens
    ∙ ap (entry_item kind close) hd.after_run
    ∙ ap (λ (r : Entry × Result Here Stop). ended_item hd.inside.spot.line (contents.Entry r.0) (Some close) r.1) read
    ∙ ap (λ l. ended_item l (contents.Entry (entry key fields)) (Some close) (Ok k)) (sym on.0)

-- a value, and the sign that closes the item
record ClosedValue (close : Closing) (ps : List Part) (h k : Here) : Type 0 where
  end : Here
  value : value close h ≡ Ok (ps, end)
  closes : after_closing close end ≡ Ok k

closed_value : (close : Closing) (ps : List Part) (h k : Here) → Stands (ValueOf ps ⋯ Sign (closing_sign close)) h k → ClosedValue close ps h k
closed_value close ps h k x =
    let last : Spelling = Sign (closing_sign close) in
    let one = split (ValueOf ps) (White ▸ last) h k x in
    let two = split White last one.mid k one.back in
    record {
      end = two.mid;
      value = value_to close ps h one.mid two.mid one.front two.front (begins_here (IsOne (value_ends close)) last (close_starts close) two.mid k two.back);
      closes = sign_to (closing_sign close) ExpectedCommaOrClose two.mid k two.back;
    }

closed_starts : (close : Closing) (ps : List Part) → Starts (Fails is_white) (ValueOf ps ⋯ Sign (closing_sign close))
closed_starts close ps = starts_both (Fails is_white) (ValueOf ps) (White ▸ Sign (closing_sign close)) (value_starts ps)

-- what is read of a string, given its name and its value
abbrev string_by : Closing → Result (List ℕ × Here) Stop → Result (List Part × Here) Stop → Definition × Result Here Stop
string_by close named valued = (record { name = value_read named; value = value_read valued }, valued >>= λ v. after_closing close v.1)

abbrev pub valued_by : Closing → Result (List ℕ × Here) Stop → Result (List Part × Here) Stop
valued_by close named = named >>= λ n. sign 61 ExpectedEquals (after_white n.1) >>= λ equals. value close (after_white equals)

valued_to : (close : Closing) (n : List ℕ) (end equals inside last : Here) (ps : List Part) → sign 61 ExpectedEquals (after_white end) ≡ Ok equals → after_white equals ≡ inside → value close inside ≡ Ok (ps, last) → valued_by close (Ok (n, end)) ≡ Ok (ps, last)
valued_to close n end equals inside last ps signed spaced valued = ap (λ (r : Result Here Stop). r >>= λ equals. value close (after_white equals)) signed ∙ ap (value close) spaced ∙ valued

string_to : (text n : List ℕ) (ps : List Part) (close : Closing) (line : ℕ) (t : List ℕ) (k : Here) → Stands (Head keywords.String text close (OnLine line (NameOf n ⋯ Sign 61 ⋯ ValueOf ps ⋯ Sign (closing_sign close)))) (item_here t) k →
    piece t ≡ (pieces.Item (whole line (contents.Define (record { name = Some n; value = Some ps })) close), k)
string_to text n ps close line t k x =
    let V = ValueOf ps ⋯ Sign (closing_sign close) in
    let N = NameOf n ⋯ Sign 61 ⋯ V in
    let starts : Starts (Fails is_white) N = starts_both (Fails is_white) (NameOf n) (White ▸ Sign 61 ⋯ V) (name_starts (Fails is_white) (λ b d is. name_unwhite b is) n) in
    let hd = headed keywords.String text close (OnLine line N) t k (λ s t x. starts s t x.1) x in
    let on = on_line line N hd.inside k hd.stands in
    let e = equated StringName n V hd.inside k (closed_starts close ps) on.1 in
    let v = closed_value close ps e.inside k e.stands in
    let definition : Definition = record { name = Some n; value = Some ps } in
    let valued : valued_by close (Ok (n, e.end)) ≡ Ok (ps, v.end) = valued_to close n e.end e.equals e.inside v.end ps e.sign e.after_white v.value in
    let read : string_read close hd.inside ≡ (definition, Ok k) = ap (λ r. string_by close r (valued_by close r)) e.named ∙ ap (string_by close (Ok (n, e.end))) valued ∙ ap (λ (r : Result Here Stop). (definition, r)) v.closes in
    hd.read
    ∙ ap (item_opened unread_string string_item) hd.opens
    ∙ ap (string_item close) hd.after_run
    ∙ ap (λ (r : Definition × Result Here Stop). ended_item (name_line hd.inside.spot.line r.0.name) (contents.Define r.0) (Some close) r.1) read
    ∙ ap (λ l. ended_item l (contents.Define definition) (Some close) (Ok k)) (sym on.0)

preamble_to : (text : List ℕ) (ps : List Part) (close : Closing) (t : List ℕ) (k : Here) → Stands (Head keywords.Preamble text close (ValueOf ps ⋯ Sign (closing_sign close))) (item_here t) k →
    piece t ≡ (pieces.Item (whole 0 (contents.Preamble (Some ps)) close), k)
preamble_to text ps close t k x =
    let V = ValueOf ps ⋯ Sign (closing_sign close) in
    let hd = headed keywords.Preamble text close V t k (closed_starts close ps) x in
    let v = closed_value close ps hd.inside k hd.stands in
    let make : Option (List Part) × Result Here Stop → Piece × Here = λ r. ended_item 0 (contents.Preamble r.0) (Some close) r.1 in
    let read : preamble_read close hd.inside ≡ (Some ps, Ok k) = ap (λ (r : Result (List Part × Here) Stop). (value_read r, r >>= λ v. after_closing close v.1)) v.value ∙ ap (λ (r : Result Here Stop). (Some ps, r)) v.closes in
    hd.read ∙ ap (item_opened (contents.Preamble None) preamble_item) hd.opens ∙ ap (preamble_item close) hd.after_run ∙ ap make read

pub spelled_items_are_read : SpelledItemsAreRead
spelled_items_are_read i text rest (AnEntry {line = line} {kind = kind} {key = key} {fields = fields} {close = close} x) = (let e = Head keywords.Entry kind close (OnLine line (Keyed close key (FieldsOf close fields))) in entry_to kind key fields close line (text ++ rest) (at (spot_after text item_start) rest) (stands_at e item_start text rest x))
spelled_items_are_read i text rest (AString {line = line} {word = word} {name = name} {value = value} {close = close} x) = (let e = Head keywords.String word close (OnLine line (NameOf name ⋯ Sign 61 ⋯ ValueOf value ⋯ Sign (closing_sign close))) in string_to word name value close line (text ++ rest) (at (spot_after text item_start) rest) (stands_at e item_start text rest x))
spelled_items_are_read i text rest (APreamble {word = word} {value = value} {close = close} x) = (let e = Head keywords.Preamble word close (ValueOf value ⋯ Sign (closing_sign close)) in preamble_to word value close (text ++ rest) (at (spot_after text item_start) rest) (stands_at e item_start text rest x))
