-- Reading a piece moves forward over bytes of the text, and the piece records where it ends.
use Rattle.std.specs.Prelude.{codes, ◌==◌}
use Rattle.std.proofs.Common.{ℕ, suc, ◌<◌, ◌≤◌, ◌≡◌, ◌∙◌, ap, subst, List, [], ◌∷◌, length, Option, Some, None, Result, Ok, Err, arith}
use Rattle.bt_text.specs.ByteTests.{left_brace}
use Rattle.bt_bib.specs.declared.spot.Spot.{Spot}
use Rattle.bt_bib.specs.declared.fault.ItemFault.TheVariants.{ExpectedOpen, ExpectedEquals, ExpectedCommaOrClose}
use Rattle.bt_bib.specs.declared.fault.NameRole.TheVariants.{EntryType, StringName}
use Rattle.bt_bib.specs.declared.item.Closing.{Closing}
use Rattle.bt_bib.specs.declared.item.Closing.TheVariants.{Brace, Parenthesis}
use Rattle.bt_bib.specs.declared.item.Content.{Content}
use Rattle.bt_bib.specs.declared.item.Content.TheVariants as contents
use Rattle.bt_bib.specs.declared.item.Part.{Part}
use Rattle.bt_bib.specs.declared.item.Piece.{Piece}
use Rattle.bt_bib.specs.declared.keywords.Keyword.{Keyword}
use Rattle.bt_bib.specs.declared.keywords.Keyword.TheVariants as keywords
use Rattle.bt_bib.specs.Spot.{Here, at, item_start, spot_after_byte, after_byte, spot_from, here_from}
use Rattle.bt_bib.specs.Stop.{Stop, ◌>>=◌}
use Rattle.bt_bib.specs.Scan.{first, after_run, after_white, sign, closing_sign, is_key_byte}
use Rattle.bt_bib.specs.Names.{word, name_ended, name}
use Rattle.bt_bib.specs.Many.{all}
use Rattle.bt_bib.specs.Values.{value}
use Rattle.bt_bib.specs.Fields.{next_field, name_ends}
use Rattle.bt_bib.specs.Keywords.{keyword_of}
use Rattle.bt_bib.specs.Pieces.{ended_item, opening, after_closing, entry_item, string_item, preamble_item, unread_entry, unread_string, item_opened, item_of_type, piece, next_piece}
use Rattle.bt_bib.specs.inner.Cases.{next_one, opening_from, entry_read, string_read, preamble_read, type_ended, type_read, is_text, next_piece_from}
use Rattle.bt_bib.proofs.RunLemmas.{same_spot}
use Rattle.bt_bib.proofs.ReachLemmas.{Reaches, reaches_place, reaches_then, reaches_self, reaches_rest, behind_reaches, white_reaches, past_reaches, Advances, advances_ok, advances_err, advances_if, moves_bind, advances_bind, advances_white, Moves, moves_from, sign_moves, word_advances, ended_moves, name_advances, value_advances, next_field_advances, many_moves}
use Rattle.bt_bib.proofs.ManyLemmas.{IsLess}

pub item_reaches : (h : Here) (line : ℕ) (content : Content) (close : Option Closing) (r : Result Here Stop) → Moves h r → Reaches h (ended_item line content close r).1
item_reaches h line content close (Ok e) m = m.ahead
item_reaches h line content close (Err stop) m = m.ahead

pub opening_advances_from : (h : Here) (o : Option ℕ) → Advances h (opening_from h o)
opening_advances_from h None = search (advances_err, reaches_self)
opening_advances_from h (Some b) = advances_if h (b == left_brace) _ _ (advances_ok h (after_byte h) Brace (behind_reaches h)) (advances_if h (b == 40) _ _ (advances_ok h (after_byte h) Parenthesis (behind_reaches h)) (advances_err h h ExpectedOpen (reaches_self h)))

pub opening_advances : (h : Here) → Advances h (opening h)
unfolding opening
opening_advances h = opening_advances_from h (first h.rest)

pub closed_moves : (close : Closing) (h : Here) → Moves h (after_closing close h)
closed_moves close h = sign_moves (closing_sign close) ExpectedCommaOrClose h

-- one reader after another, to a place
pub moves_behind : {A : Type 0} (h : Here) (r : Result (A × Here) Stop) (f : A × Here → Result Here Stop) → Advances h r → ((x : A × Here) → Moves x.1 (f x)) → Moves h (r >>= f)
moves_behind h (Ok x) f a k = moves_from h x.1 (f x) a.ahead (k x)
moves_behind h (Err stop) f a k = record { ahead = a.ahead }

pub entry_moves : (kind : List ℕ) (close : Closing) (h : Here) → Moves h (entry_read kind close h).1
entry_moves kind close h =
    let e = after_run (is_key_byte close) h in
    let w = after_white e in
    let fields = all (next_field close) w in
    moves_from h e fields.1 (past_reaches (is_key_byte close) h) (moves_from e w fields.1 (white_reaches e) (many_moves (next_field close) (next_field_advances close) (suc (length w.rest)) w))

-- `= value`
abbrev pub equalled : Closing → Here → Result (List Part × Here) Stop
equalled close h = sign 61 ExpectedEquals h >>= λ equals. value close (after_white equals)

pub equalled_advances : (close : Closing) (h : Here) → Advances h (equalled close h)
equalled_advances close h = moves_bind h (sign 61 ExpectedEquals h) (λ equals. value close (after_white equals)) (sign_moves 61 ExpectedEquals h) (λ q. advances_white q _ (value_advances close (after_white q)))

-- the value of a string
abbrev pub valued : Closing → Here → Result (List Part × Here) Stop
valued close h = name StringName name_ends h >>= λ n. equalled close (after_white n.1)

pub valued_advances : (close : Closing) (h : Here) → Advances h (valued close h)
valued_advances close h = advances_bind h (name StringName name_ends h) (λ n. equalled close (after_white n.1)) (name_advances StringName name_ends h) (λ n. advances_white n.1 _ (equalled_advances close (after_white n.1)))

pub string_moves : (close : Closing) (h : Here) → Moves h (string_read close h).1
string_moves close h = moves_behind h (valued close h) (λ v. after_closing close v.1) (valued_advances close h) (λ v. closed_moves close v.1)

pub preamble_moves : (close : Closing) (h : Here) → Moves h (preamble_read close h).1
preamble_moves close h = moves_behind h (value close h) (λ v. after_closing close v.1) (value_advances close h) (λ v. closed_moves close v.1)

pub entry_reaches : (kind : List ℕ) (close : Closing) (h : Here) → Reaches h (entry_item kind close h).1
entry_reaches kind close h = (let read = entry_read kind close h in item_reaches h h.spot.line (contents.Entry read.0) (Some close) read.1 (entry_moves kind close h))

pub string_reaches : (close : Closing) (h : Here) → Reaches h (string_item close h).1
string_reaches close h = (let read = string_read close h in item_reaches h _ (contents.Define read.0) (Some close) read.1 (string_moves close h))

pub preamble_reaches : (close : Closing) (h : Here) → Reaches h (preamble_item close h).1
preamble_reaches close h = (let read = preamble_read close h in item_reaches h 0 (contents.Preamble read.0) (Some close) read.1 (preamble_moves close h))

pub opened_reaches : (h : Here) (unread : Content) (read : Closing → Here → Piece × Here) (r : Result (Closing × Here) Stop) → Advances h r → ((close : Closing) (e : Here) → Reaches e (read close e).1) → Reaches h (item_opened unread read r).1
opened_reaches h unread read (Err stop) a k = a.ahead
opened_reaches h unread read (Ok o) a k = reaches_then h o.1 _ a.ahead (reaches_then o.1 (after_white o.1) _ (white_reaches o.1) (k o.0 (after_white o.1)))

-- after the type
pub typed_reaches : (keyword : Keyword) (kind : List ℕ) (h : Here) → Reaches h (item_of_type keyword kind h).1
typed_reaches keywords.Comment kind h = reaches_self h
typed_reaches keywords.String kind h = reaches_then h (after_white h) _ (white_reaches h) (opened_reaches (after_white h) unread_string string_item (opening (after_white h)) (opening_advances (after_white h)) string_reaches)
typed_reaches keywords.Preamble kind h = reaches_then h (after_white h) _ (white_reaches h) (opened_reaches (after_white h) (contents.Preamble None) preamble_item (opening (after_white h)) (opening_advances (after_white h)) preamble_reaches)
typed_reaches keywords.Entry kind h = reaches_then h (after_white h) _ (white_reaches h) (opened_reaches (after_white h) (unread_entry (Some kind)) (entry_item kind) (opening (after_white h)) (opening_advances (after_white h)) (entry_reaches kind))

pub type_ended_reaches : (h : Here) (kind : List ℕ) (r : Result Here Stop) → Moves h r → Reaches h (type_ended kind r).1
type_ended_reaches h kind (Err stop) m = m.ahead
type_ended_reaches h kind (Ok e) m = reaches_then h e _ m.ahead (typed_reaches (keyword_of kind) kind e)

pub type_read_reaches : (h : Here) (r : Result (List ℕ × Here) Stop) → Advances h r → Reaches h (type_read r).1
type_read_reaches h (Err stop) a = a.ahead
type_read_reaches h (Ok w) a = reaches_then h w.1 _ a.ahead (type_ended_reaches w.1 w.0 (name_ended EntryType (codes "{(") w.1) (ended_moves EntryType (codes "{(") w.1))

-- a piece and the next one: a piece is read from its own place 0 on
abbrev pub item_here : List ℕ → Here
item_here text = at item_start text

pub piece_reaches : (text : List ℕ) → Reaches (after_byte (item_here text)) (piece text).1
unfolding piece
piece_reaches text = (let w = after_white (after_byte (item_here text)) in reaches_then (after_byte (item_here text)) w _ (white_reaches (after_byte (item_here text))) (type_read_reaches w (word EntryType w) (word_advances EntryType w)))

-- what is reached from the beginning of the text, at its real place
pub reaches_from : (s : Spot) (h e : Here) → Reaches h e → Reaches (here_from s h) (here_from s e)
reaches_from s h e r = record {
  front = r.front;
  parts = r.parts;
  spot = ap (spot_from s) r.spot ∙ same_spot _ _ _ _ (omega arith) (omega arith);
}

pub from_item : (s : Spot) (text : List ℕ) → here_from s (item_here text) ≡ at s text
from_item s text = ap (λ u. at u text) (same_spot _ _ _ _ (omega arith) (omega arith))

pub placed_reaches : (h e : Here) → Reaches (item_here h.rest) e → Reaches h (here_from h.spot e)
placed_reaches h e r = subst (λ k. Reaches k (here_from h.spot e)) (from_item h.spot h.rest) (reaches_from h.spot (item_here h.rest) e r)

pub piece_ahead : (text : List ℕ) → Reaches (item_here text) (piece text).1
piece_ahead text = reaches_then (item_here text) (after_byte (item_here text)) _ (behind_reaches (item_here text)) (piece_reaches text)

pub next_piece_reaches_from : (h : Here) (o : Option ℕ) → Reaches h (next_piece_from h o).1
next_piece_reaches_from h None = reaches_self h
next_piece_reaches_from h (Some b) = placed_reaches h (piece h.rest).1 (piece_ahead h.rest)

pub next_piece_reaches : (h : Here) → Reaches h (next_piece h).1
unfolding next_piece
next_piece_reaches h = reaches_then h (after_run is_text h) _ (past_reaches is_text h) (next_piece_reaches_from (after_run is_text h) (first (after_run is_text h).rest))

-- a piece has at least one byte
pub piece_less : (b : ℕ) (bs : List ℕ) → length (piece (b ∷ bs)).1.rest ≤ length bs
piece_less b bs = reaches_rest (at (spot_after_byte b item_start) bs) (piece (b ∷ bs)).1 (piece_reaches (b ∷ bs))

pub piece_further : (b : ℕ) (bs : List ℕ) → 0 < (piece (b ∷ bs)).1.spot.place
piece_further b bs = omega (arith, reaches_place (at (spot_after_byte b item_start) bs) (piece (b ∷ bs)).1 (piece_reaches (b ∷ bs)))

next_piece_less_run : (h : Here) (s : Spot) (r : List ℕ) → length r ≤ length h.rest → IsLess h (Ok (next_piece_from (at s r) (first r)))
next_piece_less_run h s [] le = tt
next_piece_less_run h s (b ∷ bs) le = omega (arith, piece_less b bs)

pub next_piece_less : (h : Here) → IsLess h (next_one h)
unfolding next_piece
next_piece_less h = next_piece_less_run h (after_run is_text h).spot (after_run is_text h).rest (reaches_rest h (after_run is_text h) (past_reaches is_text h))
