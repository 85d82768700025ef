-- What is read without a fault is spelled by the bytes it was read from: the fields of entries, and items.
use Rattle.std.specs.Prelude.{◌==◌}
use Rattle.std.specs.List.{list_all}
use Rattle.std.proofs.Common.{◌≡◌, ℕ, zero, suc, ◌<◌, Bool, true, false, cond, List, [], ◌∷◌, ◌++◌, length, Option, Some, None, Result, Ok, Err, refl, sym, ap, subst, ◌∙◌, arith}
use Rattle.std.proofs.lemmas.Bool.{eqb-true}
use Rattle.bt_text.specs.ByteTests.{is_white, left_brace}
use Rattle.bt_bib.specs.declared.spot.Spot.{Spot}
use Rattle.bt_bib.specs.declared.fault.NameRole.TheVariants.{EntryType, StringName}
use Rattle.bt_bib.specs.declared.fault.ItemFault.TheVariants.{ExpectedOpen, ExpectedEquals, ExpectedCommaOrClose}
use Rattle.bt_bib.specs.declared.item.Closing.{Closing}
use Rattle.bt_bib.specs.declared.item.Closing.TheVariants.{Brace, Parenthesis}
use Rattle.bt_bib.specs.declared.item.Part.{Part}
use Rattle.bt_bib.specs.declared.item.Field.{Field}
use Rattle.bt_bib.specs.declared.item.Content.{Content}
use Rattle.bt_bib.specs.declared.item.Content.TheVariants as contents
use Rattle.bt_bib.specs.declared.item.Piece.{Piece}
use Rattle.bt_bib.specs.declared.item.Piece.TheVariants as pieces
use Rattle.bt_bib.specs.declared.keywords.Keyword.{Keyword}
use Rattle.bt_bib.specs.declared.keywords.Keyword.TheVariants as keywords
use Rattle.bt_bib.specs.Spot.{Here, at, item_start, spot_after_byte, spot_after, after_byte, after_bytes}
use Rattle.bt_bib.specs.Scan.{first, run, after_run, after_white, sign, closing_sign, is_key_byte}
use Rattle.bt_bib.specs.Stop.{Stop, ◌>>=◌, value_read}
use Rattle.bt_bib.specs.Names.{word, name_ended, name}
use Rattle.bt_bib.specs.Many.{all}
use Rattle.bt_bib.specs.Values.{value}
use Rattle.bt_bib.specs.Fields.{field, next_field, name_ends}
use Rattle.bt_bib.specs.inner.Cases.{field_or_close, many_by, name_line, type_ended, type_read}
use Rattle.bt_bib.specs.Keywords.{keyword_of}
use Rattle.bt_bib.specs.Pieces.{ended_item, opening, after_closing, entry_item, string_item, preamble_item, item_opened, item_of_type, piece, unread_entry, unread_string}
use Rattle.bt_bib.specs.laws.Spelling.{Spelling, ◌▸◌, ◌⋯◌, Bytes, Written, White, Sign, OnLine, Provided, MayEndName}
use Rattle.bt_bib.specs.laws.Spelled.{NameOf, ValueOf, FieldOf, FieldsOf, EndsKey, Keyed, opening_sign, IsWord, WordOf, Head, whole, CommentWord, ItemOf, AnEntry, AString, APreamble}
use Rattle.bt_bib.proofs.RunLemmas.{passed-nil, past_run, past_is_run}
use Rattle.bt_bib.proofs.ManyLemmas.{IsLess, all_is}
use Rattle.bt_bib.proofs.PieceLemmas.{item_here}
use Rattle.bt_bib.proofs.FieldLemmas.{next_field_less}
use Rattle.bt_bib.proofs.laws.CutLemmas.{Begins}
use Rattle.bt_bib.proofs.laws.SpellingLemmas.{Stands, split, starts_white, Stops, past_to}
use Rattle.bt_bib.proofs.laws.SpelledFieldLemmas.{one_field, fields_start}
use Rattle.bt_bib.proofs.laws.SpelledItemLemmas.{type_signs, valued_by}
use Rattle.bt_bib.proofs.laws.FaultlessTextLemmas.{bind_ok, ok_same, stands_both, stands_spaced, stands_on, stands_run, stands_white, stands_sign, run_all, read_sign, read_word, read_ended, read_name}
use Rattle.bt_bib.proofs.laws.FaultlessFieldLemmas.{stands_this, stands_that, read_value, equals_stand, read_field}

-- The fields of an entry

abbrev NextStands : Closing → Here → Option Field × Here → Type 0
NextStands close h (None, e) = Stands (FieldsOf close []) h e
NextStands close h (Some f, e) = Stands (Sign 44 ⋯ FieldOf f ▸ White) h e

behind_comma : (close : Closing) (h : Here) (d : ℕ) (x : Option Field × Here) (v : Bool) → first h.rest ≡ Some 44 → (let w = after_white (after_byte h) in first w.rest ≡ Some d → (d == closing_sign close) ≡ v → cond v (Ok (None, after_byte w)) (one_field close w) ≡ Ok x → NextStands close h x)
behind_comma close h d x true comma is closes read =
    let w = after_white (after_byte h) in
    let last : Spelling = Sign (closing_sign close) in
    let found : Option Field × Here = (None, after_byte w) in
    let sign = stands_sign (closing_sign close) w (is ∙ ap (λ d. Some d) (eqb-true d (closing_sign close) closes)) in
    subst (NextStands close h) (ok_same found x read) (stands_that last (Sign 44 ⋯ last) h (after_byte w) (stands_spaced (Sign 44) last h (after_byte h) w (after_byte w) (stands_sign 44 h comma) (stands_white (after_byte h)) sign))
behind_comma close h d x false comma is closes read =
    let w = after_white (after_byte h) in
    let f = bind_ok (field close w) (λ x. Ok (Some x.0, x.1)) x read in
    let found : Option Field × Here = (Some f.0.0, f.0.1) in
    subst (NextStands close h) (ok_same found x f.2) (stands_spaced (Sign 44) (FieldOf f.0.0 ▸ White) h (after_byte h) w f.0.1 (stands_sign 44 h comma) (stands_white (after_byte h)) (read_field close w f.0.0 f.0.1 f.1))

comma_or_end : (close : Closing) (h : Here) (o : Option ℕ) (x : Option Field × Here) → first h.rest ≡ Some 44 → (let w = after_white (after_byte h) in first w.rest ≡ o → field_or_close close w o ≡ Ok x → NextStands close h x)
comma_or_end close h None x comma is read = absurd (cc read)
comma_or_end close h (Some d) x comma is read = behind_comma close h d x (d == closing_sign close) comma is refl read

next_by : (close : Closing) (s : Spot) (b : ℕ) (bs : List ℕ) (x : Option Field × Here) (v u : Bool) → (b == closing_sign close) ≡ v → (b == 44) ≡ u → (let h = at s (b ∷ bs) in let w = after_white (after_byte h) in cond v (Ok (None, after_byte h)) (cond u (field_or_close close w (first w.rest)) (Err (ExpectedCommaOrClose, h))) ≡ Ok x → NextStands close h x)
next_by close s b bs x true u closes comma read =
    let h = at s (b ∷ bs) in
    let last : Spelling = Sign (closing_sign close) in
    let found : Option Field × Here = (None, after_byte h) in
    subst (NextStands close h) (ok_same found x read) (stands_this last (Sign 44 ⋯ last) h (after_byte h) (stands_sign (closing_sign close) h (ap (λ b. Some b) (eqb-true b (closing_sign close) closes))))
next_by close s b bs x false true closes comma read = (let h = at s (b ∷ bs) in comma_or_end close h (first (after_white (after_byte h)).rest) x (ap (λ b. Some b) (eqb-true b 44 comma)) refl read)
next_by close s b bs x false false closes comma read = absurd (cc read)

read_next : (close : Closing) (s : Spot) (r : List ℕ) (x : Option Field × Here) → next_field close (at s r) ≡ Ok x → NextStands close (at s r) x
unfolding next_field
read_next close s [] x read = absurd (cc read)
read_next close s (b ∷ bs) x read = next_by close s b bs x (b == closing_sign close) (b == 44) refl refl read

fields_by : (close : Closing) (h : Here) (fs : List Field) (k : Here) (x : Result (Option Field × Here) Stop) → next_field close h ≡ x → many_by (all (next_field close)) x ≡ (fs, Ok k) → ((e : Here) (fs : List Field) → length e.rest < length h.rest → all (next_field close) e ≡ (fs, Ok k) → Stands (FieldsOf close fs) e k) → Stands (FieldsOf close fs) h k
fields_by close h fs k (Err stop) next read later = absurd (cc (ap (λ (x : List Field × Result Here Stop). x.1) read))
fields_by close h fs k (Ok (None, e)) next read later =
    let there : Stands (FieldsOf close []) h e = read_next close h.spot h.rest (None, e) next in
    subst (Stands (FieldsOf close fs) h) (ok_same e k (ap (λ (x : List Field × Result Here Stop). x.1) read)) (subst (λ fs. Stands (FieldsOf close fs) h e) (ap (λ (x : List Field × Result Here Stop). x.0) read) there)
fields_by close h fs k (Ok (Some f, e)) next read later =
    let o = all (next_field close) e in
    let F = FieldsOf close o.0 in
    let there : Stands (Sign 44 ⋯ FieldOf f ▸ White) h e = read_next close h.spot h.rest (Some f, e) next in
    let ends : o ≡ (o.0, Ok k) = ap (λ (r : Result Here Stop). (o.0, r)) (ap (λ (x : List Field × Result Here Stop). x.1) read) in
    let others = later e o.0 (subst (IsLess h) next (next_field_less close h)) ends in
    let one = split (Sign 44) (White ▸ FieldOf f ▸ White) h e there in
    let two = split White (FieldOf f ▸ White) one.mid e one.back in
    let three = split (FieldOf f) White two.mid e two.back in
    subst (λ fs. Stands (FieldsOf close fs) h k) (ap (λ (x : List Field × Result Here Stop). x.0) read) (stands_spaced (Sign 44) (FieldOf f ⋯ F) h one.mid two.mid k one.front two.front (stands_spaced (FieldOf f) F two.mid three.mid e k three.front three.back others))

read_fields : (n : ℕ) (close : Closing) (h : Here) (fs : List Field) (k : Here) → length h.rest < n → all (next_field close) h ≡ (fs, Ok k) → Stands (FieldsOf close fs) h k
read_fields zero close h fs k lt read = absurd (omega arith)
read_fields (suc n) close h fs k lt read = fields_by close h fs k (next_field close h) refl (sym (all_is (next_field close) (next_field_less close) h) ∙ read) (λ e fs less later. read_fields n close e fs k (omega arith) later)

-- Keys

stops_by : (v : Bool) (test : ℕ → Bool) (s : Spot) (b : ℕ) (bs : List ℕ) → test b ≡ v → Stops test (past_run test (spot_after_byte b s) bs).rest → Stops test (cond v (past_run test (spot_after_byte b s) bs) (at s (b ∷ bs))).rest
stops_by true test s b bs is later = later
stops_by false test s b bs is later = is

run_stops : (test : ℕ → Bool) (s : Spot) (r : List ℕ) → Stops test (past_run test s r).rest
unfolding past_run
run_stops test s [] = tt
run_stops test s (b ∷ bs) = stops_by (test b) test s b bs refl (run_stops test (spot_after_byte b s) bs)

-- A run ends where the next byte isn't of its class.
pub past_stops : (test : ℕ → Bool) (h : Here) → Stops test (after_run test h).rest
past_stops test h = subst (λ (k : Here). Stops test k.rest) (sym (past_is_run test h.spot h.rest)) (run_stops test h.spot h.rest)

ends_by : (close : Closing) (text rest : List ℕ) → Begins (λ b. Unit {0}) text → Stops (is_key_byte close) (text ++ rest) → EndsKey close text
ends_by close [] rest b stop = absurd (cc b.is)
ends_by close (c ∷ cs) rest b stop = stop

any_start : (close : Closing) (fs : List Field) (s : Spot) (text : List ℕ) → FieldsOf close fs s text → Begins (λ b. Unit {0}) text
any_start close fs s text x = (let b = fields_start close fs s text x in record { byte = b.byte; rest = b.rest; is = b.is; fits = tt })

provide : (close : Closing) (A : Spelling) (h k : Here) → ((s : Spot) (text : List ℕ) → A s text → Begins (λ b. Unit {0}) text) → Stops (is_key_byte close) h.rest → Stands A h k → Stands (Provided (EndsKey close) A) h k
provide close A h k starts stop x = record { text = x.text; spelled = (ends_by close x.text k.rest (starts h.spot x.text x.spelled) (subst (Stops (is_key_byte close)) x.rest stop), x.spelled); rest = x.rest; spot = x.spot }

keyed_by : (close : Closing) (q : Here) (key : List ℕ) (fs : List Field) (k : Here) → run (is_key_byte close) q ≡ key → Stops is_white q.rest → Stands (FieldsOf close fs) (after_white (after_run (is_key_byte close) q)) k → Stands (Keyed close key (FieldsOf close fs)) q k
keyed_by close q [] fs k is unwhite stands =
    let test = is_key_byte close in
    let F = FieldsOf close fs in
    let none : at (spot_after [] q.spot) q.rest ≡ q = ap (λ s. at s q.rest) (passed-nil q.spot) in
    let stays : after_run test q ≡ q = ap (λ front. after_bytes front q) is ∙ none in
    let inside : after_white (after_run test q) ≡ q = ap after_white stays ∙ past_to is_white q.spot [] q.rest refl unwhite ∙ none in
    provide close F q k (any_start close fs) (subst (λ (h : Here). Stops test h.rest) stays (past_stops test q)) (subst (λ h. Stands F h k) inside stands)
keyed_by close q (b ∷ bs) fs k is unwhite stands =
    let test = is_key_byte close in
    let F = FieldsOf close fs in
    let a = after_run test q in
    let Key : List ℕ → Spelling = λ key. Bytes key (list_all test key ≡ true) in
    let key : Stands (Key (b ∷ bs)) q a = subst (λ key. Stands (Key key) q a) is (stands_run test (Key (run test q)) q (Written (run_all test q.rest))) in
    stands_both (Key (b ∷ bs)) (Provided (EndsKey close) (White ▸ F)) q a k key (provide close (White ▸ F) a k (starts_white (λ b. Unit {0}) F (λ b w. tt) (any_start close fs)) (past_stops test q) (stands_both White F a (after_white a) k (stands_white a) stands))

-- Heads

abbrev opened_so : Here → Closing → Result (Closing × Here) Stop
opened_so h close = Ok (close, after_byte h)

opening_by : (s : Spot) (b : ℕ) (bs : List ℕ) (x : Closing × Here) (v u : Bool) → (b == left_brace) ≡ v → (b == 40) ≡ u → (let h = at s (b ∷ bs) in cond v (opened_so h Brace) (cond u (opened_so h Parenthesis) (Err (ExpectedOpen, h))) ≡ Ok x → Stands (Sign (opening_sign x.0)) h x.1)
opening_by s b bs x true u brace parenthesis read =
    let h = at s (b ∷ bs) in
    let found : Closing × Here = (Brace, after_byte h) in
    subst (λ (x : Closing × Here). Stands (Sign (opening_sign x.0)) h x.1) (ok_same found x read) (stands_sign left_brace h (ap (λ b. Some b) (eqb-true b left_brace brace)))
opening_by s b bs x false true brace parenthesis read =
    let h = at s (b ∷ bs) in
    let found : Closing × Here = (Parenthesis, after_byte h) in
    subst (λ (x : Closing × Here). Stands (Sign (opening_sign x.0)) h x.1) (ok_same found x read) (stands_sign 40 h (ap (λ b. Some b) (eqb-true b 40 parenthesis)))
opening_by s b bs x false false brace parenthesis read = absurd (cc read)

read_opening_at : (s : Spot) (r : List ℕ) (x : Closing × Here) → opening (at s r) ≡ Ok x → Stands (Sign (opening_sign x.0)) (at s r) x.1
unfolding opening
read_opening_at s [] x read = absurd (cc read)
read_opening_at s (b ∷ bs) x read = opening_by s b bs x (b == left_brace) (b == 40) refl refl read

-- `@`, white space, and a word that begins this kind of piece, up to a place
record Worded (keyword : Keyword) (n : List ℕ) (h e : Here) : Type 0 where
  sign : first h.rest ≡ Some 64
  word : Stands (Bytes n (IsWord keyword n)) (after_white (after_byte h)) e

head_stands : (keyword : Keyword) (n : List ℕ) (close : Closing) (A : Spelling) (h e o k : Here) → Worded keyword n h e → opening (after_white e) ≡ Ok (close, o) → Stands A (after_white o) k → Stands (Head keyword n close A) h k
head_stands keyword n close A h e o k w opens a =
    let W : Spelling = Bytes n (IsWord keyword n) in
    let O : Spelling = Sign (opening_sign close) in
    let open_sign : Stands O (after_white e) o = read_opening_at (after_white e).spot (after_white e).rest (close, o) opens in
    stands_spaced (Sign 64) (W ⋯ O ⋯ A) h (after_byte h) (after_white (after_byte h)) k (stands_sign 64 h w.sign) (stands_white (after_byte h)) (stands_spaced W (O ⋯ A) (after_white (after_byte h)) e (after_white e) k w.word (stands_white e) (stands_spaced O A (after_white e) o (after_white o) k open_sign (stands_white o) a))

-- Items

-- the place of an item, whose spelling is relative to its own `@`
abbrev pub Own : (List ℕ → Type 0) → Spelling
Own P s text = P text

-- A faultless piece is spelled by the bytes it was read from.
abbrev pub PieceStands : List ℕ → Piece × Here → Type 0
PieceStands t (pieces.Comment, k) = MayEndName type_signs k.rest × Stands (Own CommentWord) (item_here t) k
PieceStands t (pieces.Item i, k) = i.fault ≡ None → Stands (Own (ItemOf i)) (item_here t) k

item_stands : (t : List ℕ) (line : ℕ) (content : Content) (close : Closing) (r : Result Here Stop) → ((k : Here) → r ≡ Ok k → Stands (Own (ItemOf (whole line content close))) (item_here t) k) → PieceStands t (ended_item line content (Some close) r)
item_stands t line content close (Ok k) f = λ faultless. f k refl
item_stands t line content close (Err stop) f = λ faultless. absurd (cc faultless)

as_item : (A : Spelling) (line : ℕ) (content : Content) (close : Closing) (t : List ℕ) (k : Here) → ((text : List ℕ) → A item_start text → ItemOf (whole line content close) text) → Stands A (item_here t) k → Stands (Own (ItemOf (whole line content close))) (item_here t) k
as_item A line content close t k f x = record { text = x.text; spelled = f x.text x.spelled; rest = x.rest; spot = x.spot }

entry_stands : (n : List ℕ) (close : Closing) (t : List ℕ) (e o : Here) → Worded keywords.Entry n (item_here t) e → opening (after_white e) ≡ Ok (close, o) → PieceStands t (entry_item n close (after_white o))
entry_stands n close t e o w opens =
    let q = after_white o in
    let key = run (is_key_byte close) q in
    let inside = after_white (after_run (is_key_byte close) q) in
    let fields = all (next_field close) inside in
    let K = Keyed close key (FieldsOf close fields.0) in
    let content = contents.Entry (record { kind = Some n; key = Some key; fields = fields.0 }) in
    item_stands t q.spot.line content close fields.1 (λ k is.
    as_item (Head keywords.Entry n close (OnLine q.spot.line K)) q.spot.line content close t k (λ text x. AnEntry x) (head_stands keywords.Entry n close (OnLine q.spot.line K) (item_here t) e o k w opens
    (stands_on K q k (keyed_by close q key fields.0 k refl (past_stops is_white o) (read_fields (suc (length inside.rest)) close inside fields.0 k (omega arith) (ap (λ (r : Result Here Stop). (fields.0, r)) is))))))

-- a value, and the sign that closes the item
closed_stands : (close : Closing) (h : Here) (v : List Part × Here) (k : Here) → value close h ≡ Ok v → after_closing close v.1 ≡ Ok k → Stands (ValueOf v.0 ⋯ Sign (closing_sign close)) h k
closed_stands close h v k is closes =
    let one = split (ValueOf v.0) White h v.1 (read_value close h v.0 v.1 is) in
    stands_spaced (ValueOf v.0) (Sign (closing_sign close)) h one.mid v.1 k one.front one.back (read_sign (closing_sign close) ExpectedCommaOrClose v.1 k closes)

abbrev string_made : Closing → ℕ → Result (List ℕ × Here) Stop → Result (List Part × Here) Stop → Piece × Here
string_made close line named valued = ended_item (name_line line (value_read named)) (contents.Define (record { name = value_read named; value = value_read valued })) (Some close) (valued >>= λ v. after_closing close v.1)

string_by : (text : List ℕ) (close : Closing) (t : List ℕ) (e o : Here) (named : Result (List ℕ × Here) Stop) (valued : Result (List Part × Here) Stop) → Worded keywords.String text (item_here t) e → opening (after_white e) ≡ Ok (close, o) → name StringName name_ends (after_white o) ≡ named → valued_by close named ≡ valued → PieceStands t (string_made close (after_white o).spot.line named valued)
string_by text close t e o named (Err stop) w opens is reads = λ faultless. absurd (cc faultless)
string_by text close t e o (Err stop) (Ok v) w opens is reads = absurd (cc reads)
string_by text close t e o (Ok n) (Ok v) w opens is reads =
    let q = after_white o in
    let V = ValueOf v.0 ⋯ Sign (closing_sign close) in
    let N = NameOf n.0 ⋯ Sign 61 ⋯ V in
    let line = q.spot.line in
    let content = contents.Define (record { name = Some n.0; value = Some v.0 }) in
    let equals = bind_ok (sign 61 ExpectedEquals (after_white n.1)) (λ equals. value close (after_white equals)) v reads in
    item_stands t line content close (after_closing close v.1) (λ k closes.
    as_item (Head keywords.String text close (OnLine line N)) line content close t k (λ text x. AString x) (head_stands keywords.String text close (OnLine line N) (item_here t) e o k w opens
    (stands_on N q k (equals_stand n.0 V q n.1 equals.0 k (read_name StringName name_ends q n.0 n.1 is) equals.1 (closed_stands close (after_white equals.0) v k equals.2 closes)))))

abbrev preamble_made : Closing → Result (List Part × Here) Stop → Piece × Here
preamble_made close valued = ended_item 0 (contents.Preamble (value_read valued)) (Some close) (valued >>= λ v. after_closing close v.1)

preamble_by : (text : List ℕ) (close : Closing) (t : List ℕ) (e o : Here) (valued : Result (List Part × Here) Stop) → Worded keywords.Preamble text (item_here t) e → opening (after_white e) ≡ Ok (close, o) → value close (after_white o) ≡ valued → PieceStands t (preamble_made close valued)
preamble_by text close t e o (Err stop) w opens is = λ faultless. absurd (cc faultless)
preamble_by text close t e o (Ok v) w opens is =
    let V = ValueOf v.0 ⋯ Sign (closing_sign close) in
    let content = contents.Preamble (Some v.0) in
    item_stands t 0 content close (after_closing close v.1) (λ k closes.
    as_item (Head keywords.Preamble text close V) 0 content close t k (λ text x. APreamble x) (head_stands keywords.Preamble text close V (item_here t) e o k w opens (closed_stands close (after_white o) v k is closes)))

opened_by : (t : List ℕ) (unread : Content) (made : Closing → Here → Piece × Here) (r : Result (Closing × Here) Stop) → ((close : Closing) (o : Here) → r ≡ Ok (close, o) → PieceStands t (made close (after_white o))) → PieceStands t (item_opened unread made r)
opened_by t unread made (Err stop) f = λ faultless. absurd (cc faultless)
opened_by t unread made (Ok (close, o)) f = f close o refl

as_word : (keyword : Keyword) (n : List ℕ) (s : Spot) (t : List ℕ) → keyword_of n ≡ keyword → NameOf n s t → Bytes n (IsWord keyword n) s t
as_word keyword n s t is (Written named) = Written (named, is)

worded : (keyword : Keyword) (n : List ℕ) (h e : Here) → keyword_of n ≡ keyword → first h.rest ≡ Some 64 → Stands (NameOf n) (after_white (after_byte h)) e → Worded keyword n h e
worded keyword n h e is sign x = record { sign = sign; word = record { text = x.text; spelled = as_word keyword n (after_white (after_byte h)).spot x.text is x.spelled; rest = x.rest; spot = x.spot } }

any_word : (keyword : Keyword) (n : List ℕ) (s : Spot) (t : List ℕ) → Bytes n (IsWord keyword n) s t → WordOf keyword s t
any_word keyword n s t (Written is) = is

typed_stands : (keyword : Keyword) (n t : List ℕ) (e : Here) → keyword_of n ≡ keyword → first t ≡ Some 64 → Stands (NameOf n) (after_white (after_byte (item_here t))) e → MayEndName type_signs e.rest → PieceStands t (item_of_type keyword n e)
typed_stands keywords.Comment n t e is sign x ends =
    let h = item_here t in
    let w = worded keywords.Comment n h e is sign x in
    let q = after_white (after_byte h) in
    let any : Stands (WordOf keywords.Comment) q e = record { text = w.word.text; spelled = any_word keywords.Comment n q.spot w.word.text w.word.spelled; rest = w.word.rest; spot = w.word.spot } in
    let all = stands_spaced (Sign 64) (WordOf keywords.Comment) h (after_byte h) q e (stands_sign 64 h sign) (stands_white (after_byte h)) any in
    (ends, record { text = all.text; spelled = all.spelled; rest = all.rest; spot = all.spot })
typed_stands keywords.String n t e is sign x ends = opened_by t unread_string string_item (opening (after_white e)) (λ close o opens. string_by n close t e o (name StringName name_ends (after_white o)) (valued_by close (name StringName name_ends (after_white o))) (worded keywords.String n (item_here t) e is sign x) opens refl refl)
typed_stands keywords.Preamble n t e is sign x ends = opened_by t (contents.Preamble None) preamble_item (opening (after_white e)) (λ close o opens. preamble_by n close t e o (value close (after_white o)) (worded keywords.Preamble n (item_here t) e is sign x) opens refl)
typed_stands keywords.Entry n t e is sign x ends = opened_by t (unread_entry (Some n)) (entry_item n) (opening (after_white e)) (λ close o opens. entry_stands n close t e o (worded keywords.Entry n (item_here t) e is sign x) opens)

type_ended_by : (n t : List ℕ) (c : Here) (r : Result Here Stop) → name_ended EntryType type_signs c ≡ r → first t ≡ Some 64 → Stands (NameOf n) (after_white (after_byte (item_here t))) c → PieceStands t (type_ended n r)
type_ended_by n t c (Err stop) is sign x = λ faultless. absurd (cc faultless)
type_ended_by n t c (Ok e) is sign x =
    let ends = read_ended EntryType type_signs c e is in
    typed_stands (keyword_of n) n t e refl sign (subst (Stands (NameOf n) (after_white (after_byte (item_here t)))) ends.0 x) (subst (λ (k : Here). MayEndName type_signs k.rest) ends.0 ends.1)

type_read_by : (t : List ℕ) (r : Result (List ℕ × Here) Stop) → word EntryType (after_white (after_byte (item_here t))) ≡ r → first t ≡ Some 64 → PieceStands t (type_read r)
type_read_by t (Err stop) is sign = λ faultless. absurd (cc faultless)
type_read_by t (Ok (n, c)) is sign = type_ended_by n t c (name_ended EntryType type_signs c) refl sign (read_word EntryType (after_white (after_byte (item_here t))) n c is)

pub read_piece : (t : List ℕ) → first t ≡ Some 64 → PieceStands t (piece t)
unfolding piece
read_piece t sign = type_read_by t (word EntryType (after_white (after_byte (item_here t)))) refl sign
