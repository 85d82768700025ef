-- Items and pieces are read alike, too.
use Rattle.std.specs.Prelude.{codes, ◌==◌}
use Rattle.std.proofs.Common.{◌≡◌, ℕ, suc, ◌+◌, ◌-◌, ◌<◌, Bool, List, length, take, Option, Some, None, Result, Ok, Err, refl, sym, ap, subst, ◌∙◌, arith}
use Rattle.bt_text.specs.ByteTests.{is_white, left_brace}
use Rattle.bt_bib.specs.declared.spot.Spot.{Spot}
use Rattle.bt_bib.specs.declared.fault.NameRole.TheVariants.{EntryType, StringName}
use Rattle.bt_bib.specs.declared.fault.ItemFault.TheVariants.{EndOfFile, ExpectedOpen, ExpectedEquals, ExpectedCommaOrClose}
use Rattle.bt_bib.specs.declared.item.Closing.{Closing}
use Rattle.bt_bib.specs.declared.item.Closing.TheVariants.{Brace, Parenthesis}
use Rattle.bt_bib.specs.declared.item.Part.{Part}
use Rattle.bt_bib.specs.declared.item.Field.{Field}
use Rattle.bt_bib.specs.declared.item.Entry.{Entry}
use Rattle.bt_bib.specs.declared.item.Definition.{Definition}
use Rattle.bt_bib.specs.declared.item.Content.{Content}
use Rattle.bt_bib.specs.declared.item.Content.TheVariants as contents
use Rattle.bt_bib.specs.declared.item.Piece.{Piece}
use Rattle.bt_bib.specs.declared.keywords.Keyword.{Keyword}
use Rattle.bt_bib.specs.declared.keywords.Keyword.TheVariants as keywords
use Rattle.bt_bib.specs.declared.placed_pieces.PlacedPiece.{PlacedPiece}
use Rattle.bt_bib.specs.Spot.{Here, spot_from, here_from, after_byte}
use Rattle.bt_bib.specs.Stop.{Stop, ◌>>=◌, value_read}
use Rattle.bt_bib.specs.Scan.{first, run, after_run, after_white, sign, closing_sign, is_key_byte}
use Rattle.bt_bib.specs.Names.{word, name_ended, name}
use Rattle.bt_bib.specs.Many.{all}
use Rattle.bt_bib.specs.Values.{value}
use Rattle.bt_bib.specs.Fields.{next_field, name_ends}
use Rattle.bt_bib.specs.Keywords.{keyword_of}
use Rattle.bt_bib.specs.Pieces.{ended_item, unopened, opening, after_closing, entry_item, string_item, preamble_item, unread_entry, unread_string, item_opened, item_of_type, piece, next_piece}
use Rattle.bt_bib.specs.inner.Cases.{next_one, next_at, opening_from, entry_read, string_read, name_line, preamble_read, type_ended, type_read, is_text, next_piece_from}
use Rattle.bt_bib.proofs.ReachLemmas.{Reaches, reaches_then, reaches_place, white_reaches, Advances, moves_from, advances_white, value_advances, next_field_advances, many_moves, word_advances, ended_moves}
use Rattle.bt_bib.proofs.FieldLemmas.{next_field_less}
use Rattle.bt_bib.proofs.PieceLemmas.{item_here, opening_advances, opening_advances_from, closed_moves, moves_behind, equalled, equalled_advances, entry_reaches, string_reaches, preamble_reaches, opened_reaches, typed_reaches, type_ended_reaches, type_read_reaches, next_piece_reaches_from}
use Rattle.bt_bib.proofs.AlikeLemmas.{Alike, alike_behind, alike_first, alike_past, alike_run}
use Rattle.bt_bib.proofs.SameLemmas.{Same, SameFind, same_ok, same_err, same_when, same_if, find_bind, word_same, ended_same, name_same, sign_same}
use Rattle.bt_bib.proofs.SameFieldLemmas.{SameRead, read_when, all_alike, next_field_same, value_same}

abbrev pub PieceAlike : ℕ → Piece × Here → Piece × Here → Type 0
PieceAlike limit x y = x.1.spot.place < limit → (y.0 ≡ x.0) × Alike limit x.1 y.1

pub record SamePiece (limit : ℕ) (x y : Piece × Here) : Type 0 where
  pub alike : PieceAlike limit x y

piece_when : (limit : ℕ) (h : Here) (x y : Piece × Here) → Reaches h x.1 → (h.spot.place < limit → SamePiece limit x y) → SamePiece limit x y
piece_when limit h x y r s = record { alike = λ lt. (s (omega (arith, reaches_place h x.1 r))).alike lt }

-- an item of what was read
abbrev made : {X : Type 0} → (X → ℕ) → (X → Content) → Option Closing → X × Result Here Stop → Piece × Here
made line content close x = ended_item (line x.0) (content x.0) close x.1

-- a piece that is the same, up to an end that is alike
piece_is : (limit : ℕ) (x y : Piece × Here) (k : Here) → y ≡ (x.0, k) → Alike limit x.1 k → (y.0 ≡ x.0) × Alike limit x.1 y.1
piece_is limit x y k is a = (ap (λ (z : Piece × Here). z.0) is, subst (λ z. Alike limit x.1 z) (sym (ap (λ (z : Piece × Here). z.1) is)) a)

item_alike : {X : Type 0} (limit : ℕ) (content : X → Content) (line also : X → ℕ) (close : Option Closing) (x y : X × Result Here Stop) → ((a : X) → also a ≡ line a) → SameRead limit x y → SamePiece limit (made line content close x) (made also content close y)
item_alike {X = X} limit content line also close (a, Ok e) y lines s = record {
  alike = λ lt.
      (let t = s.alike lt in
      piece_is limit (made line content close (a, Ok e)) (made also content close y) t.0 (ap (made also content close) t.1 ∙ ap (λ n. ended_item n (content a) close (Ok t.0)) (lines a)) t.2);
}
item_alike {X = X} limit content line also close (a, Err stop) y lines s = record {
  alike = λ lt.
      (let t = s.alike lt in
      piece_is limit (made line content close (a, Err stop)) (made also content close y) t.0 (ap (made also content close) t.1 ∙ ap (λ n. ended_item n (content a) close (Err (stop.0, t.0))) (lines a)) t.2);
}

-- something that doesn't depend on where a reading ends
pair_alike : {X : Type 0} (limit : ℕ) (a : X) (r q : Result Here Stop) → SameFind limit r q → SameRead limit (a, r) (a, q)
pair_alike limit a (Ok e) q s = record { alike = λ lt. (let t = s.alike lt in (t.0, ap (λ z. (a, z)) t.1, t.2)) }
pair_alike limit a (Err stop) q s = record { alike = λ lt. (let t = s.alike lt in (t.0, ap (λ z. (a, z)) t.1, t.2)) }

closed_same : (limit : ℕ) (close : Closing) (h k : Here) → Alike limit h k → SameFind limit (after_closing close h) (after_closing close k)
closed_same limit close h k a = sign_same limit (closing_sign close) ExpectedCommaOrClose h k a

-- entries
fields_alike : (limit : ℕ) (kind key : List ℕ) (x y : List Field × Result Here Stop) → SameRead limit x y → SameRead {X = Entry} limit (record { kind = Some kind; key = Some key; fields = x.0 }, x.1) (record { kind = Some kind; key = Some key; fields = y.0 }, y.1)
fields_alike limit kind key (xs, Ok e) y s = record { alike = λ lt. (let t = s.alike lt in (t.0, ap (λ (z : List Field × Result Here Stop). (let entry : Entry = record { kind = Some kind; key = Some key; fields = z.0 } in (entry, z.1))) t.1, t.2)) }
fields_alike limit kind key (xs, Err e) y s = record { alike = λ lt. (let t = s.alike lt in (t.0, ap (λ (z : List Field × Result Here Stop). (let entry : Entry = record { kind = Some kind; key = Some key; fields = z.0 } in (entry, z.1))) t.1, t.2)) }

entry_alike : (limit : ℕ) (kind : List ℕ) (close : Closing) (h k : Here) → Alike limit h k → SameRead limit (entry_read kind close h) (entry_read kind close k)
entry_alike limit kind close h k a =
    let test : ℕ → Bool = is_key_byte close in
    let e = after_run test h in
    let g = after_run test k in
    let w = after_white e in
    let v = after_white g in
    let fields = all (next_field close) w in
    let ahead = many_moves (next_field close) (next_field_advances close) (suc (length w.rest)) w in
    read_when limit e (entry_read kind close h) (entry_read kind close k) (record { ahead = (moves_from e w fields.1 (white_reaches e) ahead).ahead }) (λ at_e.
    let c = alike_past limit test h k a at_e in
    read_when limit w (entry_read kind close h) (entry_read kind close k) ahead (λ at_w.
    let d = alike_past limit is_white e g c at_w in
    subst (λ key. SameRead limit (entry_read kind close h) (record { kind = Some kind; key = Some key; fields = (all (next_field close) v).0 }, (all (next_field close) v).1)) (sym (alike_run limit test h k a at_e)) (fields_alike limit kind (run test h) fields (all (next_field close) v) (all_alike limit (next_field close) (next_field_less close) (next_field_advances close) (next_field_same limit close) w v d))))

pub entry_item_alike : (limit : ℕ) (kind : List ℕ) (close : Closing) (h k : Here) → Alike limit h k → SamePiece limit (entry_item kind close h) (entry_item kind close k)
entry_item_alike limit kind close h k a =
    item_alike limit (λ entry. contents.Entry entry) (λ _. h.spot.line) (λ _. k.spot.line) (Some close) (entry_read kind close h) (entry_read kind close k) (λ _. ap (λ (s : Spot). s.line) a.spot) (entry_alike limit kind close h k a)

-- strings
abbrev defined : Closing → Result (List ℕ × Here) Stop → Result (List Part × Here) Stop → Definition × Result Here Stop
defined close x u = (record { name = value_read x; value = value_read u }, u >>= λ v. after_closing close v.1)

value_alike : (limit : ℕ) (close : Closing) (n : List ℕ) (e g : Here) (u w : Result (List Part × Here) Stop) → Same limit u w → SameRead limit (defined close (Ok (n, e)) u) (defined close (Ok (n, g)) w)
value_alike limit close n e g (Err stop) w s = record { alike = λ lt. (let t = s.alike lt in (t.0, ap (defined close (Ok (n, g))) t.1, t.2)) }
value_alike limit close n e g (Ok v) w s =
    let x = defined close (Ok (n, e)) (Ok v) in
    read_when limit v.1 x (defined close (Ok (n, g)) w) (closed_moves close v.1) (λ lt.
    let t = s.alike lt in
    subst (λ z. SameRead limit x (defined close (Ok (n, g)) z)) (sym t.1) (pair_alike limit (record { name = Some n; value = Some v.0 }) (after_closing close v.1) (after_closing close t.0) (closed_same limit close v.1 t.0 t.2)))

name_alike : (limit : ℕ) (close : Closing) (x y : Result (List ℕ × Here) Stop) (k l : List ℕ × Here → Result (List Part × Here) Stop) → Same limit x y → ((n : List ℕ × Here) → Advances n.1 (k n)) → ((n : List ℕ) (e g : Here) → Alike limit e g → Same limit (k (n, e)) (l (n, g))) → SameRead limit (defined close x (x >>= k)) (defined close y (y >>= l))
name_alike limit close (Err stop) y k l s adv step = record { alike = λ lt. (let t = s.alike lt in (t.0, ap (λ z. defined close z (z >>= l)) t.1, t.2)) }
name_alike limit close (Ok n) y k l s adv step =
    let x = defined close (Ok n) (k n) in
    read_when limit n.1 x (defined close y (y >>= l)) (moves_behind n.1 (k n) (λ v. after_closing close v.1) (adv n) (λ v. closed_moves close v.1)) (λ lt.
    let t = s.alike lt in
    subst (λ z. SameRead limit x (defined close z (z >>= l))) (sym t.1) (value_alike limit close n.0 n.1 t.0 (k n) (l (n.0, t.0)) (step n.0 n.1 t.0 t.2)))

equalled_same : (limit : ℕ) (close : Closing) (h k : Here) → Alike limit h k → Same limit (equalled close h) (equalled close k)
equalled_same limit close h k a = find_bind limit (sign 61 ExpectedEquals h) (sign 61 ExpectedEquals k) (λ q. value close (after_white q)) (λ q. value close (after_white q)) (sign_same limit 61 ExpectedEquals h k a) (λ q. advances_white q _ (value_advances close (after_white q))) (λ q g c is.
    same_when limit (after_white q) (value close (after_white q)) (value close (after_white g)) (value_advances close (after_white q)) (λ lt. value_same limit close (after_white q) (after_white g) (alike_past limit is_white q g c lt)))

string_alike : (limit : ℕ) (close : Closing) (h k : Here) → Alike limit h k → SameRead limit (string_read close h) (string_read close k)
string_alike limit close h k a = name_alike limit close (name StringName name_ends h) (name StringName name_ends k) (λ n. equalled close (after_white n.1)) (λ n. equalled close (after_white n.1)) (name_same limit StringName name_ends h k a) (λ n. advances_white n.1 _ (equalled_advances close (after_white n.1))) (λ n e g c.
    same_when limit (after_white e) (equalled close (after_white e)) (equalled close (after_white g)) (equalled_advances close (after_white e)) (λ lt. equalled_same limit close (after_white e) (after_white g) (alike_past limit is_white e g c lt)))

pub string_item_alike : (limit : ℕ) (close : Closing) (h k : Here) → Alike limit h k → SamePiece limit (string_item close h) (string_item close k)
string_item_alike limit close h k a =
    item_alike limit (λ d. contents.Define d) (λ d. name_line h.spot.line d.name) (λ d. name_line k.spot.line d.name) (Some close) (string_read close h) (string_read close k) (λ d. ap (λ (s : Spot). name_line s.line d.name) a.spot) (string_alike limit close h k a)

-- preambles
abbrev prefaced : Closing → Result (List Part × Here) Stop → Option (List Part) × Result Here Stop
prefaced close u = (value_read u, u >>= λ v. after_closing close v.1)

preamble_alike_by : (limit : ℕ) (close : Closing) (u w : Result (List Part × Here) Stop) → Same limit u w → SameRead limit (prefaced close u) (prefaced close w)
preamble_alike_by limit close (Err stop) w s = record { alike = λ lt. (let t = s.alike lt in (t.0, ap (prefaced close) t.1, t.2)) }
preamble_alike_by limit close (Ok v) w s =
    read_when limit v.1 (prefaced close (Ok v)) (prefaced close w) (closed_moves close v.1) (λ lt.
    let t = s.alike lt in
    subst (λ z. SameRead limit (prefaced close (Ok v)) (prefaced close z)) (sym t.1) (pair_alike limit (Some v.0) (after_closing close v.1) (after_closing close t.0) (closed_same limit close v.1 t.0 t.2)))

pub preamble_item_alike : (limit : ℕ) (close : Closing) (h k : Here) → Alike limit h k → SamePiece limit (preamble_item close h) (preamble_item close k)
preamble_item_alike limit close h k a =
    item_alike limit (λ v. contents.Preamble v) (λ _. 0) (λ _. 0) (Some close) (preamble_read close h) (preamble_read close k) (λ _. refl) (preamble_alike_by limit close (value close h) (value close k) (value_same limit close h k a))

-- how an item opens
opening_same_from : (limit : ℕ) (h k : Here) (o : Option ℕ) → h.spot.place < limit → Alike limit h k → Same limit (opening_from h o) (opening_from k o)
opening_same_from limit h k None lt a = same_err limit EndOfFile h k (λ _. a)
opening_same_from limit h k (Some b) lt a =
    let next = alike_behind limit h k lt a in
    same_if limit (b == left_brace) _ _ _ _ (same_ok limit Brace Brace (after_byte h) (after_byte k) refl (λ _. next)) (same_if limit (b == 40) _ _ _ _ (same_ok limit Parenthesis Parenthesis (after_byte h) (after_byte k) refl (λ _. next)) (same_err limit ExpectedOpen h k (λ _. a)))

opening_same : (limit : ℕ) (h k : Here) → Alike limit h k → Same limit (opening h) (opening k)
unfolding opening
opening_same limit h k a = same_when limit h (opening_from h (first h.rest)) (opening_from k (first k.rest)) (opening_advances_from h (first h.rest)) (λ lt.
    subst (λ o. Same limit (opening_from h (first h.rest)) (opening_from k o)) (sym (alike_first limit h k lt a)) (opening_same_from limit h k (first h.rest) lt a))

-- what follows the opening sign
opened_alike : (limit : ℕ) (unread : Content) (read : Closing → Here → Piece × Here) (r q : Result (Closing × Here) Stop) → Same limit r q → ((close : Closing) (e : Here) → Reaches e (read close e).1) → ((close : Closing) (e g : Here) → Alike limit e g → SamePiece limit (read close e) (read close g)) → SamePiece limit (item_opened unread read r) (item_opened unread read q)
opened_alike limit unread read (Err stop) q s ahead step = record {
  alike = λ lt. (let t = s.alike lt in piece_is limit (unopened unread stop) (item_opened unread read q) t.0 (ap (item_opened unread read) t.1) t.2);
}
opened_alike limit unread read (Ok o) q s ahead step =
    let w = after_white o.1 in
    piece_when limit w (read o.0 w) (item_opened unread read q) (ahead o.0 w) (λ at_w.
    piece_when limit o.1 (read o.0 w) (item_opened unread read q) (reaches_then o.1 w _ (white_reaches o.1) (ahead o.0 w)) (λ at_o.
    let t = s.alike at_o in
    subst (λ z. SamePiece limit (read o.0 w) z) (sym (ap (item_opened unread read) t.1)) (step o.0 w (after_white t.0) (alike_past limit is_white o.1 t.0 t.2 at_w))))

opening_alike : (limit : ℕ) (unread : Content) (read : Closing → Here → Piece × Here) (h k : Here) → Alike limit h k → ((close : Closing) (e : Here) → Reaches e (read close e).1) → ((close : Closing) (e g : Here) → Alike limit e g → SamePiece limit (read close e) (read close g)) → SamePiece limit (item_opened unread read (opening (after_white h))) (item_opened unread read (opening (after_white k)))
opening_alike limit unread read h k a ahead step =
    let w = after_white h in
    piece_when limit w (item_opened unread read (opening w)) (item_opened unread read (opening (after_white k))) (opened_reaches w unread read (opening w) (opening_advances w) ahead) (λ lt.
    opened_alike limit unread read (opening w) (opening (after_white k)) (opening_same limit w (after_white k) (alike_past limit is_white h k a lt)) ahead step)

-- what follows the type
typed_alike : (limit : ℕ) (keyword : Keyword) (kind : List ℕ) (h k : Here) → Alike limit h k → SamePiece limit (item_of_type keyword kind h) (item_of_type keyword kind k)
typed_alike limit keywords.Comment kind h k a = record { alike = λ _. (refl, a) }
typed_alike limit keywords.String kind h k a = opening_alike limit unread_string string_item h k a string_reaches (string_item_alike limit)
typed_alike limit keywords.Preamble kind h k a = opening_alike limit (contents.Preamble None) preamble_item h k a preamble_reaches (preamble_item_alike limit)
typed_alike limit keywords.Entry kind h k a = opening_alike limit (unread_entry (Some kind)) (entry_item kind) h k a (entry_reaches kind) (entry_item_alike limit kind)

type_ended_alike : (limit : ℕ) (kind : List ℕ) (r q : Result Here Stop) → SameFind limit r q → SamePiece limit (type_ended kind r) (type_ended kind q)
type_ended_alike limit kind (Err stop) q s = record {
  alike = λ lt. (let t = s.alike lt in piece_is limit (unopened (unread_entry (Some kind)) stop) (type_ended kind q) t.0 (ap (type_ended kind) t.1) t.2);
}
type_ended_alike limit kind (Ok e) q s =
    piece_when limit e (item_of_type (keyword_of kind) kind e) (type_ended kind q) (typed_reaches (keyword_of kind) kind e) (λ lt.
    let t = s.alike lt in
    subst (λ z. SamePiece limit (item_of_type (keyword_of kind) kind e) z) (sym (ap (type_ended kind) t.1)) (typed_alike limit (keyword_of kind) kind e t.0 t.2))

type_read_alike : (limit : ℕ) (r q : Result (List ℕ × Here) Stop) → Same limit r q → SamePiece limit (type_read r) (type_read q)
type_read_alike limit (Err stop) q s = record {
  alike = λ lt. (let t = s.alike lt in piece_is limit (unopened (unread_entry None) stop) (type_read q) t.0 (ap type_read t.1) t.2);
}
type_read_alike limit (Ok n) q s =
    let signs = codes "{(" in
    let ended_here = name_ended EntryType signs n.1 in
    piece_when limit n.1 (type_ended n.0 ended_here) (type_read q) (type_ended_reaches n.1 n.0 ended_here (ended_moves EntryType signs n.1)) (λ lt.
    let t = s.alike lt in
    subst (λ z. SamePiece limit (type_ended n.0 ended_here) z) (sym (ap type_read t.1)) (type_ended_alike limit n.0 ended_here (name_ended EntryType signs t.0) (ended_same limit EntryType signs n.1 t.0 t.2)))

pub piece_same : (limit : ℕ) (r q : List ℕ) → 0 < limit → Alike limit (item_here r) (item_here q) → SamePiece limit (piece r) (piece q)
unfolding piece
piece_same limit r q lt a =
    let h = item_here r in
    let k = item_here q in
    let w = after_white (after_byte h) in
    let v = after_white (after_byte k) in
    piece_when limit w (type_read (word EntryType w)) (type_read (word EntryType v)) (type_read_reaches w (word EntryType w) (word_advances EntryType w)) (λ at_w.
    type_read_alike limit (word EntryType w) (word EntryType v) (word_same limit EntryType w v (alike_past limit is_white (after_byte h) (after_byte k) (alike_behind limit h k lt a) at_w)))

-- the limit, counted from an item's own `@`
within : (limit : ℕ) (h k : Here) → h.spot.place < limit → Alike limit h k → Alike (limit - h.spot.place) (item_here h.rest) (item_here k.rest)
within limit h k lt a =
    let all : limit - h.spot.place - 0 ≡ limit - h.spot.place = omega arith in
    record { spot = refl; rest = ap (λ n. take n h.rest) all ∙ a.rest ∙ ap (λ n. take n k.rest) (sym all) }

without : (limit : ℕ) (s : Spot) (e g : Here) → s.place < limit → Alike (limit - s.place) e g → Alike limit (here_from s e) (here_from s g)
without limit s e g lt a =
    let count : limit - (e.spot.place + s.place) ≡ limit - s.place - e.spot.place = omega (arith, lt) in
    record { spot = ap (spot_from s) a.spot; rest = ap (λ n. take n e.rest) count ∙ a.rest ∙ ap (λ n. take n g.rest) (sym count) }

next_piece_same_from : (limit : ℕ) (h k : Here) (o : Option ℕ) → h.spot.place < limit → Alike limit h k → Same limit (Ok (next_piece_from h o)) (Ok (next_piece_from k o))
next_piece_same_from limit h k None lt a = same_ok limit None None h k refl (λ _. a)
next_piece_same_from limit h k (Some b) lt a = record {
  alike = λ below.
      (let s = h.spot in
      let x = piece h.rest in
      let y = piece k.rest in
      let t = (piece_same (limit - s.place) h.rest k.rest (omega (arith, lt)) (within limit h k lt a)).alike (omega (arith, below)) in
      let same : Option PlacedPiece → Result (Option PlacedPiece × Here) Stop = λ p. Ok (p, here_from s y.1) in
      (here_from s y.1, ap (λ s. Ok (next_at s y)) a.spot ∙ (λ j. same (Some (record { start = s; end = spot_from s (t.1.spot j); piece = t.0 j }))), without limit s x.1 y.1 lt t.1));
}

pub next_piece_same : (limit : ℕ) (h k : Here) → Alike limit h k → Same limit (next_one h) (next_one k)
unfolding next_piece
next_piece_same limit h k a =
    let e = after_run is_text h in
    let g = after_run is_text k in
    same_when limit e (Ok (next_piece_from e (first e.rest))) (Ok (next_piece_from g (first g.rest))) (record { ahead = next_piece_reaches_from e (first e.rest) }) (λ lt.
    let c = alike_past limit is_text h k a lt in
    subst (λ o. Same limit (Ok (next_piece_from e (first e.rest))) (Ok (next_piece_from g o))) (sym (alike_first limit e g lt c)) (next_piece_same_from limit e g (first e.rest) lt c))
