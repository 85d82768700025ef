-- All lines in what was read lie between its first line and its last.
use Rattle.std.specs.Prelude.{◌==◌, codes, All}
use Rattle.std.specs.List.{AllByRecursion}
use Rattle.std.proofs.Common.{◌≡◌, ℕ, zero, suc, ◌+◌, ◌-◌, ◌≤◌, Bool, true, false, cond, List, [], ◌∷◌, length, Option, Some, None, Result, Ok, Err, refl, sym, ap, subst, arith}
use Rattle.std.proofs.lemmas.List.Elements.{All-from_recursion}
use Rattle.bt_text.specs.ByteTests.{is_digit, left_brace, right_brace}
use Rattle.bt_text.specs.NameBytes.{is_name_byte}
use Rattle.bt_bib.specs.declared.spot.Spot.{Spot}
use Rattle.bt_bib.specs.declared.fault.NameRole.TheVariants.{EntryType, StringName, FieldName, FieldPart}
use Rattle.bt_bib.specs.declared.fault.ItemFault.TheVariants.{ExpectedEquals}
use Rattle.bt_bib.specs.declared.item.Closing.{Closing}
use Rattle.bt_bib.specs.declared.item.Part.{Part}
use Rattle.bt_bib.specs.declared.item.Part.TheVariants.{Text, Macro}
use Rattle.bt_bib.specs.declared.item.Field.{Field}
use Rattle.bt_bib.specs.declared.item.Content.{Content}
use Rattle.bt_bib.specs.declared.item.Content.TheVariants as contents
use Rattle.bt_bib.specs.declared.item.Piece.{Piece}
use Rattle.bt_bib.specs.declared.item.Piece.TheVariants as pieces
use Rattle.bt_bib.specs.declared.placed_pieces.PlacedPiece.{PlacedPiece}
use Rattle.bt_bib.specs.declared.keywords.Keyword.{Keyword}
use Rattle.bt_bib.specs.declared.keywords.Keyword.TheVariants as keywords
use Rattle.bt_bib.specs.Spot.{Here, here, start, spot_from, after_byte}
use Rattle.bt_bib.specs.Stop.{Stop, ◌>>=◌, value_read}
use Rattle.bt_bib.specs.Scan.{first, run, after_run, after_white, sign, closing_sign, is_key_byte}
use Rattle.bt_bib.specs.Enclosure.{enclosed}
use Rattle.bt_bib.specs.Names.{word, name_ended, name}
use Rattle.bt_bib.specs.Many.{many, all, collected}
use Rattle.bt_bib.specs.Values.{part, part_ends, next_part, value}
use Rattle.bt_bib.specs.Fields.{field, next_field, name_ends}
use Rattle.bt_bib.specs.Keywords.{keyword_of}
use Rattle.bt_bib.specs.Pieces.{ended_item, opening, after_closing, entry_item, string_item, preamble_item, unread_entry, unread_string, item_opened, item_of_type, piece, next_piece}
use Rattle.bt_bib.specs.BibText.{pieces_of}
use Rattle.bt_bib.specs.laws.BibText.{bib_items}
use Rattle.bt_bib.specs.inner.Cases.{next_one, field_or_close, next_field_from, many_by, entry_read, string_read, name_line, preamble_read, type_ended, type_read, is_text, next_piece_from, raw_part, part_from, joined_from}
use Rattle.bt_bib.specs.Items.{PlacedItem, items_of}
use Rattle.bt_bib.specs.laws.Laws.{PartLiesIn, ValueLiesIn, FieldLiesIn, ContentLiesIn, LinesLieIn, LinesLieInside}
use Rattle.bt_bib.proofs.ReachLemmas.{Reaches, reaches_then, behind_reaches, past_reaches, white_reaches, Advances, Moves, advances_from, name_advances, sign_moves, part_advances, joined_advances, value_advances, field_advances, next_field_advances, raw_part_advances_from, many_moves}
use Rattle.bt_bib.proofs.PieceLemmas.{item_here, closed_moves, entry_moves, string_moves, equalled, valued, next_piece_reaches}

line_le : (h e : Here) → Reaches h e → h.spot.line ≤ e.spot.line
line_le h e r = omega (arith, ap (λ (s : Spot). s.line) r.spot)

-- lines that lie in a range lie in a wider one
wider_part : (a b c d : ℕ) → a ≤ b → c ≤ d → (p : Part) → PartLiesIn b c p → PartLiesIn a d p
wider_part a b c d p q (Text t) h = tt
wider_part a b c d p q (Macro t line) h = (omega (arith, h.0), omega (arith, h.1))

all_weaker : {A : Type 0} (P Q : A → Type 0) → ((x : A) → P x → Q x) → (xs : List A) → AllByRecursion P xs → AllByRecursion Q xs
all_weaker P Q k [] h = tt
all_weaker P Q k (x ∷ xs) h = (k x h.0, all_weaker P Q k xs h.1)

-- a field, with its parts one by one
abbrev FieldIn : ℕ → ℕ → Field → Type 0
FieldIn low high f = (low ≤ f.line) × (f.line ≤ high) × AllByRecursion (PartLiesIn f.line high) f.value

wider_field : (a b c d : ℕ) → a ≤ b → c ≤ d → (f : Field) → FieldIn b c f → FieldIn a d f
wider_field a b c d p q f h = (omega (arith, h.0), omega (arith, h.1), all_weaker (PartLiesIn f.line c) (PartLiesIn f.line d) (wider_part f.line f.line c d (omega arith) q) f.value h.2)

-- what was read from h on lies between the line of h and that of its end
abbrev Lies : {A : Type 0} → (ℕ → ℕ → A → Type 0) → Here → Result (A × Here) Stop → Type 0
Lies P h (Ok x) = P h.spot.line x.1.spot.line x.0
Lies P h (Err stop) = Unit {0}

abbrev Any : {A : Type 0} → ℕ → ℕ → A → Type 0
Any low high a = Unit {0}

abbrev AllIn : {A : Type 0} → (ℕ → ℕ → A → Type 0) → ℕ → ℕ → List A → Type 0
AllIn P low high xs = AllByRecursion (P low high) xs

abbrev SomeIn : {A : Type 0} → (ℕ → ℕ → A → Type 0) → ℕ → ℕ → Option A → Type 0
SomeIn P low high None = Unit {0}
SomeIn P low high (Some a) = P low high a

any_lies : {A : Type 0} (h : Here) (r : Result (A × Here) Stop) → Lies Any h r
any_lies h (Ok x) = tt
any_lies h (Err stop) = tt

lies_bind : {A B : Type 0} (P : ℕ → ℕ → A → Type 0) (Q : ℕ → ℕ → B → Type 0) (h : Here) (r : Result (A × Here) Stop) (k : A × Here → Result (B × Here) Stop) → Advances h r → Lies P h r → ((a : A) (e : Here) → Reaches h e → P h.spot.line e.spot.line a → Lies Q h (k (a, e))) → Lies Q h (r >>= k)
lies_bind P Q h (Ok x) k adv p step = step x.0 x.1 adv.ahead p
lies_bind P Q h (Err x) k adv p step = tt

lies_find : {B : Type 0} (Q : ℕ → ℕ → B → Type 0) (g h : Here) (r : Result Here Stop) (k : Here → Result (B × Here) Stop) → Moves h r → ((e : Here) → Reaches h e → Lies Q g (k e)) → Lies Q g (r >>= k)
lies_find Q g h (Ok e) k m step = step e m.ahead
lies_find Q g h (Err x) k m step = tt

lies_if : {A : Type 0} (P : ℕ → ℕ → A → Type 0) (h : Here) (b : Bool) (x y : Result (A × Here) Stop) → Lies P h x → Lies P h y → Lies P h (cond b x y)
lies_if P h true x y p q = p
lies_if P h false x y p q = q

-- from an earlier place on
lies_from : {A : Type 0} (P : ℕ → ℕ → A → Type 0) → ((a b c d : ℕ) → a ≤ b → c ≤ d → (x : A) → P b c x → P a d x) → (h e : Here) (r : Result (A × Here) Stop) → Reaches h e → Lies P e r → Lies P h r
lies_from P wider h e (Ok x) reach p = wider h.spot.line e.spot.line x.1.spot.line x.1.spot.line (line_le h e reach) (omega arith) x.0 p
lies_from P wider h e (Err x) reach p = tt

shut_by : (h : Here) (r : Result (List ℕ × Here) Stop) → Lies PartLiesIn h (r >>= λ x. Ok (Text x.0, after_byte x.1))
shut_by h (Ok x) = tt
shut_by h (Err stop) = tt

shut_lies : (close : ℕ) (h e : Here) → Lies PartLiesIn h (enclosed close e >>= λ x. Ok (Text x.0, after_byte x.1))
shut_lies close h e = shut_by h (enclosed close e)

raw_part_lies : (close : Closing) (h : Here) (o : Option ℕ) → Lies PartLiesIn h (part_from close h o)
raw_part_lies close h None = tt
raw_part_lies close h (Some b) =
    lies_if PartLiesIn h (b == left_brace) _ _ (shut_lies right_brace h (after_byte h)) (lies_if PartLiesIn h (b == 34) _ _ (shut_lies 34 h (after_byte h))
    (lies_if PartLiesIn h (is_digit b) (Ok (Text (run is_digit h), after_run is_digit h)) _ tt
    (lies_if PartLiesIn h (is_name_byte b) _ _ (lies_bind Any PartLiesIn h (name FieldPart (part_ends close) h) (λ n. Ok (Macro n.0 h.spot.line, n.1)) (name_advances FieldPart (part_ends close) h) (any_lies h (name FieldPart (part_ends close) h)) (λ n e reach _. (omega arith, line_le h e reach))) tt)))

part_lies : (close : Closing) (h : Here) → Lies PartLiesIn h (part close h)
unfolding part
part_lies close h = lies_bind PartLiesIn PartLiesIn h (raw_part close h) (λ x. Ok (x.0, after_white x.1)) (raw_part_advances_from close h (first h.rest)) (raw_part_lies close h (first h.rest)) (λ x e reach p. wider_part h.spot.line h.spot.line e.spot.line (after_white e).spot.line (omega arith) (line_le e (after_white e) (white_reaches e)) x p)

wider_some : (a b c d : ℕ) → a ≤ b → c ≤ d → (x : Option Part) → SomeIn PartLiesIn b c x → SomeIn PartLiesIn a d x
wider_some a b c d p q None h = tt
wider_some a b c d p q (Some x) h = wider_part a b c d p q x h

some_part : (close : Closing) (h e : Here) → Reaches h e → Lies (SomeIn PartLiesIn) h (part close e >>= λ x. Ok (Some x.0, x.1))
some_part close h e reach = lies_from (SomeIn PartLiesIn) wider_some h e (part close e >>= λ x. Ok (Some x.0, x.1)) reach (lies_bind PartLiesIn (SomeIn PartLiesIn) e (part close e) (λ x. Ok (Some x.0, x.1)) (part_advances close e) (part_lies close e) (λ x g _ p. p))

joined_lies_from : (close : Closing) (h : Here) (o : Option ℕ) → Lies (SomeIn PartLiesIn) h (joined_from close h o)
joined_lies_from close h None = tt
joined_lies_from close h (Some b) = lies_if (SomeIn PartLiesIn) h (b == 35) _ _ (some_part close h (after_white (after_byte h)) (reaches_then h (after_byte h) (after_white (after_byte h)) (behind_reaches h) (white_reaches (after_byte h)))) tt

joined_lies : (close : Closing) (h : Here) → Lies (SomeIn PartLiesIn) h (next_part close h)
unfolding next_part
joined_lies close h = joined_lies_from close h (first h.rest)

-- where a reading ends
abbrev end_line : Result Here Stop → ℕ
end_line (Ok e) = e.spot.line
end_line (Err stop) = stop.1.spot.line

moves_line : (h : Here) (r : Result Here Stop) → Moves h r → h.spot.line ≤ end_line r
moves_line h (Ok e) m = line_le h e m.ahead
moves_line h (Err stop) m = line_le h stop.1 m.ahead

many_lies_by : {A : Type 0} (P : ℕ → ℕ → A → Type 0) → ((a b c d : ℕ) → a ≤ b → c ≤ d → (x : A) → P b c x → P a d x) → (later : Here → List A × Result Here Stop) (h : Here) (r : Result (Option A × Here) Stop) → Advances h r → Lies (SomeIn P) h r → ((e : Here) → Moves e (later e).1) → ((e : Here) → AllIn P e.spot.line (end_line (later e).1) (later e).0) → AllIn P h.spot.line (end_line (many_by later r).1) (many_by later r).0
many_lies_by P wider later h (Err stop) adv p ahead step = tt
many_lies_by P wider later h (Ok (None, e)) adv p ahead step = tt
many_lies_by P wider later h (Ok (Some a, e)) adv p ahead step =
    let low = line_le h e adv.ahead in
    let high = moves_line e (later e).1 (ahead e) in
    let end = end_line (later e).1 in (
      wider h.spot.line h.spot.line e.spot.line end (omega arith) high a p,
      all_weaker (P e.spot.line end) (P h.spot.line end) (wider h.spot.line e.spot.line end end low (omega arith)) (later e).0 (step e),
    )

many_lies : {A : Type 0} (P : ℕ → ℕ → A → Type 0) → ((a b c d : ℕ) → a ≤ b → c ≤ d → (x : A) → P b c x → P a d x) → (next : Here → Result (Option A × Here) Stop) → ((h : Here) → Advances h (next h)) → ((h : Here) → Lies (SomeIn P) h (next h)) → (n : ℕ) (h : Here) → AllIn P h.spot.line (end_line (many next n h).1) (many next n h).0
unfolding many
many_lies P wider next adv lies zero h = tt
many_lies P wider next adv lies (suc n) h = many_lies_by P wider (many next n) h (next h) (adv h) (lies h) (many_moves next adv n) (many_lies P wider next adv lies n)

one_collected : (low high : ℕ) (a : Part) (xs : List Part) (r : Result Here Stop) (h : Here) → h.spot.line ≡ low → PartLiesIn low (end_line r) a → AllIn PartLiesIn low (end_line r) xs → Lies (AllIn PartLiesIn) h (collected (a ∷ []) (xs, r))
one_collected low high a xs (Ok e) h is p q = subst (λ n. AllIn PartLiesIn n e.spot.line (a ∷ xs)) (sym is) (p, q)
one_collected low high a xs (Err e) h is p q = tt

value_lies : (close : Closing) (h : Here) → Lies (AllIn PartLiesIn) h (value close h)
unfolding value
value_lies close h = lies_bind PartLiesIn (AllIn PartLiesIn) h (part close h) (λ x. collected (x.0 ∷ []) (all (next_part close) x.1)) (part_advances close h) (part_lies close h) (λ x e reach p.
    let rest = all (next_part close) e in
    let end = end_line rest.1 in
    let ahead = moves_line e rest.1 (many_moves (next_part close) (joined_advances close) (suc (length e.rest)) e) in
    let lies = many_lies PartLiesIn wider_part (next_part close) (joined_advances close) (joined_lies close) (suc (length e.rest)) e in
    one_collected h.spot.line end x rest.0 rest.1 h refl (wider_part h.spot.line h.spot.line e.spot.line end (omega arith) ahead x p) (all_weaker (PartLiesIn e.spot.line end) (PartLiesIn h.spot.line end) (wider_part h.spot.line e.spot.line end end (line_le h e reach) (omega arith)) rest.0 lies))

wider_parts : (a b c d : ℕ) → a ≤ b → c ≤ d → (xs : List Part) → AllIn PartLiesIn b c xs → AllIn PartLiesIn a d xs
wider_parts a b c d p q xs h = all_weaker (PartLiesIn b c) (PartLiesIn a d) (wider_part a b c d p q) xs h

field_lies : (close : Closing) (h : Here) → Lies FieldIn h (field close h)
unfolding field
field_lies close h =
    lies_bind Any FieldIn h (name FieldName name_ends h) (λ x. sign 61 ExpectedEquals (after_white x.1) >>= λ q. value close (after_white q) >>= λ v. Ok (record { name = x.0; line = h.spot.line; value = v.0 }, v.1)) (name_advances FieldName name_ends h) (any_lies h (name FieldName name_ends h)) (λ x e reach _.
    lies_find FieldIn h (after_white e) (sign 61 ExpectedEquals (after_white e)) (λ q. value close (after_white q) >>= λ v. Ok (record { name = x; line = h.spot.line; value = v.0 }, v.1)) (sign_moves 61 ExpectedEquals (after_white e)) (λ q along.
    let w = after_white q in
    let to_w = reaches_then h e w reach (reaches_then e (after_white e) w (white_reaches e) (reaches_then (after_white e) q w along (white_reaches q))) in
    lies_bind (AllIn PartLiesIn) FieldIn h (value close w) (λ v. Ok (record { name = x; line = h.spot.line; value = v.0 }, v.1)) (record { ahead = (advances_from h w (value close w) to_w (value_advances close w)).ahead }) (lies_from (AllIn PartLiesIn) wider_parts h w (value close w) to_w (value_lies close w)) (λ v g further p. (omega arith, line_le h g further, p))))

wider_some_field : (a b c d : ℕ) → a ≤ b → c ≤ d → (x : Option Field) → SomeIn FieldIn b c x → SomeIn FieldIn a d x
wider_some_field a b c d p q None h = tt
wider_some_field a b c d p q (Some x) h = wider_field a b c d p q x h

some_field : (close : Closing) (h e : Here) → Reaches h e → Lies (SomeIn FieldIn) h (field close e >>= λ x. Ok (Some x.0, x.1))
some_field close h e reach = lies_from (SomeIn FieldIn) wider_some_field h e (field close e >>= λ x. Ok (Some x.0, x.1)) reach (lies_bind FieldIn (SomeIn FieldIn) e (field close e) (λ x. Ok (Some x.0, x.1)) (field_advances close e) (field_lies close e) (λ x g _ p. p))

field_or_close_lies : (close : Closing) (h e : Here) (o : Option ℕ) → Reaches h e → Lies (SomeIn FieldIn) h (field_or_close close e o)
field_or_close_lies close h e None reach = tt
field_or_close_lies close h e (Some b) reach = lies_if (SomeIn FieldIn) h (b == closing_sign close) (Ok (None, after_byte e)) _ tt (some_field close h e reach)

next_field_lies_from : (close : Closing) (h : Here) (o : Option ℕ) → Lies (SomeIn FieldIn) h (next_field_from close h o)
next_field_lies_from close h None = tt
next_field_lies_from close h (Some b) =
    let w = after_white (after_byte h) in
    lies_if (SomeIn FieldIn) h (b == closing_sign close) (Ok (None, after_byte h)) _ tt (lies_if (SomeIn FieldIn) h (b == 44) _ _ (field_or_close_lies close h w (first w.rest) (reaches_then h (after_byte h) w (behind_reaches h) (white_reaches (after_byte h)))) tt)

next_field_lies : (close : Closing) (h : Here) → Lies (SomeIn FieldIn) h (next_field close h)
unfolding next_field
next_field_lies close h = next_field_lies_from close h (first h.rest)

-- items
all_fields : (low high : ℕ) (fields : List Field) → AllByRecursion (FieldIn low high) fields → All (FieldLiesIn low high) fields
all_fields low high fields h = All-from_recursion (FieldLiesIn low high) fields (all_weaker (FieldIn low high) (FieldLiesIn low high) (λ f p. record { line = (p.0, p.1); value = All-from_recursion (PartLiesIn f.line high) f.value p.2 }) fields h)

all_parts : (low high : ℕ) (v : Option (List Part)) → SomeIn (AllIn PartLiesIn) low high v → ValueLiesIn low high v
all_parts low high None h = tt
all_parts low high (Some parts) h = All-from_recursion (PartLiesIn low high) parts h

-- what was read of a piece, up to the line of its end
abbrev PieceLies : ℕ → Piece → Type 0
PieceLies high pieces.Comment = Unit {0}
PieceLies high (pieces.Item i) = (i.line ≤ high) × ContentLiesIn i.line high i.content

abbrev ReadLies : Piece × Here → Type 0
ReadLies x = PieceLies x.1.spot.line x.0

item_lies : (line : ℕ) (content : Content) (close : Option Closing) (r : Result Here Stop) → line ≤ end_line r → ContentLiesIn line (end_line r) content → ReadLies (ended_item line content close r)
item_lies line content close (Ok e) q h = (q, h)
item_lies line content close (Err stop) q h = (q, h)

entry_lies : (kind : List ℕ) (close : Closing) (h : Here) → ReadLies (entry_item kind close h)
entry_lies kind close h =
    let e = after_run (is_key_byte close) h in
    let w = after_white e in
    let read = entry_read kind close h in
    let fields = all (next_field close) w in
    let end = end_line fields.1 in
    let lies = many_lies FieldIn wider_field (next_field close) (next_field_advances close) (next_field_lies close) (suc (length w.rest)) w in
    let low = line_le h w (reaches_then h e w (past_reaches (is_key_byte close) h) (white_reaches e)) in
    item_lies h.spot.line (contents.Entry read.0) (Some close) read.1 (moves_line h read.1 (entry_moves kind close h)) (all_fields h.spot.line end fields.0 (all_weaker (FieldIn w.spot.line end) (FieldIn h.spot.line end) (wider_field h.spot.line w.spot.line end end low (omega arith)) fields.0 lies))

-- a value that is closed after it
given_lies : (close : Closing) (low : ℕ) (h : Here) (r : Result (List Part × Here) Stop) → low ≤ h.spot.line → Lies (AllIn PartLiesIn) h r → SomeIn (AllIn PartLiesIn) low (end_line (r >>= λ v. after_closing close v.1)) (value_read r)
given_lies close low h (Err stop) le p = tt
given_lies close low h (Ok v) le p = wider_parts low h.spot.line v.1.spot.line (end_line (after_closing close v.1)) le (moves_line v.1 (after_closing close v.1) (closed_moves close v.1)) v.0 p

valued_lies : (close : Closing) (h : Here) → Lies (AllIn PartLiesIn) h (valued close h)
valued_lies close h =
    lies_bind Any (AllIn PartLiesIn) h (name StringName name_ends h) (λ n. equalled close (after_white n.1)) (name_advances StringName name_ends h) (any_lies h (name StringName name_ends h)) (λ n e reach _.
    lies_find (AllIn PartLiesIn) h (after_white e) (sign 61 ExpectedEquals (after_white e)) (λ q. value close (after_white q)) (sign_moves 61 ExpectedEquals (after_white e)) (λ q along.
    let w = after_white q in
    let to_w = reaches_then h e w reach (reaches_then e (after_white e) w (white_reaches e) (reaches_then (after_white e) q w along (white_reaches q))) in
    lies_from (AllIn PartLiesIn) wider_parts h w (value close w) to_w (value_lies close w)))

-- Without a name there is no value.
no_name : (close : Closing) (x : Result (List ℕ × Here) Stop) (k : List ℕ × Here → Result (List Part × Here) Stop) (h : Here) → Lies (AllIn PartLiesIn) h (x >>= k) → SomeIn (AllIn PartLiesIn) (name_line h.spot.line (value_read x)) (end_line (x >>= k >>= λ v. after_closing close v.1)) (value_read (x >>= k))
no_name close (Err stop) k h p = tt
no_name close (Ok n) k h p = given_lies close h.spot.line h (k n) (omega arith) p

name_line_high : (line high : ℕ) (n : Option (List ℕ)) → line ≤ high → name_line line n ≤ high
name_line_high line high (Some n) q = q
name_line_high line high None q = omega arith

string_lies : (close : Closing) (h : Here) → ReadLies (string_item close h)
string_lies close h =
    let read = string_read close h in
    let line = name_line h.spot.line read.0.name in
    let high = name_line_high h.spot.line (end_line read.1) read.0.name (moves_line h read.1 (string_moves close h)) in
    item_lies line (contents.Define read.0) (Some close) read.1 high (all_parts line (end_line read.1) read.0.value (no_name close (name StringName name_ends h) (λ n. equalled close (after_white n.1)) h (valued_lies close h)))

preamble_lies : (close : Closing) (h : Here) → ReadLies (preamble_item close h)
preamble_lies close h = (let read = preamble_read close h in item_lies 0 (contents.Preamble read.0) (Some close) read.1 (omega arith) (all_parts 0 (end_line read.1) read.0 (given_lies close 0 h (value close h) (omega arith) (value_lies close h))))

no_fields : (low high : ℕ) → All (FieldLiesIn low high) []
no_fields low high = All-from_recursion (FieldLiesIn low high) [] tt

-- before the opening sign
unread_lies : (content : Content) (stop : Stop) → ((high : ℕ) → ContentLiesIn 0 high content) → ReadLies (ended_item 0 content None (Err stop))
unread_lies content stop h = item_lies 0 content None (Err stop) (omega arith) (h stop.1.spot.line)

opened_lies : (unread : Content) (read : Closing → Here → Piece × Here) (r : Result (Closing × Here) Stop) → ((high : ℕ) → ContentLiesIn 0 high unread) → ((close : Closing) (e : Here) → ReadLies (read close e)) → ReadLies (item_opened unread read r)
opened_lies unread read (Err stop) u k = unread_lies unread stop u
opened_lies unread read (Ok o) u k = k o.0 (after_white o.1)

typed_lies : (keyword : Keyword) (kind : List ℕ) (h : Here) → ReadLies (item_of_type keyword kind h)
typed_lies keywords.Comment kind h = tt
typed_lies keywords.String kind h = opened_lies unread_string string_item (opening (after_white h)) (λ _. tt) string_lies
typed_lies keywords.Preamble kind h = opened_lies (contents.Preamble None) preamble_item (opening (after_white h)) (λ _. tt) preamble_lies
typed_lies keywords.Entry kind h = opened_lies (unread_entry (Some kind)) (entry_item kind) (opening (after_white h)) (no_fields 0) (entry_lies kind)

type_ended_lies : (kind : List ℕ) (r : Result Here Stop) → ReadLies (type_ended kind r)
type_ended_lies kind (Err stop) = unread_lies (unread_entry (Some kind)) stop (no_fields 0)
type_ended_lies kind (Ok e) = typed_lies (keyword_of kind) kind e

type_read_lies : (r : Result (List ℕ × Here) Stop) → ReadLies (type_read r)
type_read_lies (Err stop) = unread_lies (unread_entry None) stop (no_fields 0)
type_read_lies (Ok w) = type_ended_lies w.0 (name_ended EntryType (codes "{(") w.1)

piece_lies : (text : List ℕ) → ReadLies (piece text)
unfolding piece
piece_lies text = type_read_lies (word EntryType (after_white (after_byte (item_here text))))

-- pieces at their places
abbrev LiesAt : Spot → Spot → Piece → Type 0
LiesAt from end pieces.Comment = Unit {0}
LiesAt from end (pieces.Item i) = LinesLieIn (record { start = from; end = end; item = i })

lies_at : (s : Spot) (x : Piece × Here) → ReadLies x → LiesAt s (spot_from s x.1.spot) x.0
lies_at s (pieces.Comment, e) h = tt
lies_at s (pieces.Item i, e) h =
    let line : e.spot.line ≡ e.spot.line + s.line - s.line = omega arith in
    record { line = omega (arith, h.0); content = subst (λ n. ContentLiesIn i.line n i.content) line h.1 }

abbrev Anywhere : ℕ → ℕ → PlacedPiece → Type 0
Anywhere low high p = LiesAt p.start p.end p.piece

next_lies_from : (h g : Here) (o : Option ℕ) → Lies (SomeIn Anywhere) h (Ok (next_piece_from g o))
next_lies_from h g None = tt
next_lies_from h g (Some b) = lies_at g.spot (piece g.rest) (piece_lies g.rest)

next_lies : (h : Here) → Lies (SomeIn Anywhere) h (next_one h)
unfolding next_piece
next_lies h = next_lies_from h (after_run is_text h) (first (after_run is_text h).rest)

one_lies : (from end : Spot) (x : Piece) (rest : List PlacedItem) → LiesAt from end x → AllByRecursion LinesLieIn rest → AllByRecursion LinesLieIn (elim x [ pieces.Comment ↦ rest | pieces.Item item ↦ record { start = from; end = end; item = item } ∷ rest ])
one_lies from end pieces.Comment rest h all = all
one_lies from end (pieces.Item i) rest h all = (h, all)

items_lie : (low high : ℕ) (ps : List PlacedPiece) → AllByRecursion (Anywhere low high) ps → AllByRecursion LinesLieIn (items_of ps)
items_lie low high [] h = tt
items_lie low high (p ∷ ps) h = one_lies p.start p.end p.piece (items_of ps) h.0 (items_lie low high ps h.1)

pub lines_lie_inside : LinesLieInside
unfolding pieces_of
lines_lie_inside text = All-from_recursion LinesLieIn (bib_items text) (items_lie 0 0 (pieces_of text) (many_lies Anywhere (λ a b c d p q x h. h) next_one (λ h. record { ahead = next_piece_reaches h }) next_lies (suc (length text)) (here text start)))
