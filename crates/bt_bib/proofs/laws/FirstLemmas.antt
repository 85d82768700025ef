-- The bytes of a faulty item up to its fault's place begin a well-formed one.
use Rattle.std.specs.Prelude.{codes, ◌==◌, ◌&&◌, ◌||◌, not, map}
use Rattle.std.specs.List.{list_any}
use Rattle.std.specs.Char.{to_ascii_lowercase}
use Rattle.std.proofs.Common.{◌≡◌, ℕ, ◌+◌, ◌-◌, ◌<◌, ◌≤◌, Bool, true, false, cond, List, [], ◌∷◌, ◌++◌, length, take, drop, Some, None, Result, Ok, Err, refl, sym, ap, subst, ◌∙◌, arith}
use Rattle.std.proofs.lemmas.List.{take-append-le, length-take-le, take-take, drop-append-le, drop-take, length-map}
use Rattle.std.proofs.lemmas.Bool.{lt-ltb, le-ltb, false_from_ne_true}
use Rattle.std.proofs.lemmas.Slice.Eq.{bytes_eq-Decides}
use Rattle.bt_text.specs.ByteTests.{is_white, is_digit}
use Rattle.bt_text.specs.NameBytes.{is_name_byte}
use Rattle.bt_text.specs.CaseFolding.{is_same_folded, folded}
use Rattle.bt_bib.specs.declared.spot.Spot.{Spot}
use Rattle.bt_bib.specs.declared.fault.ItemFault.{ItemFault}
use Rattle.bt_bib.specs.declared.fault.ItemFault.TheVariants.{MissingName, BadNameEnd}
use Rattle.bt_bib.specs.declared.fault.NameRole.TheVariants.{EntryType}
use Rattle.bt_bib.specs.declared.item.Item.{Item}
use Rattle.bt_bib.specs.declared.item.Piece.{Piece}
use Rattle.bt_bib.specs.declared.placed_pieces.PlacedPiece.{PlacedPiece}
use Rattle.bt_bib.specs.declared.item.Piece.TheVariants as pieces
use Rattle.bt_bib.specs.declared.keywords.Keyword.TheVariants as keywords
use Rattle.bt_bib.specs.Spot.{Here, at, here, start, item_start, spot_from, here_from, spot_after_byte}
use Rattle.bt_bib.specs.Items.{PlacedItem}
use Rattle.bt_bib.specs.Stop.{Stop}
use Rattle.bt_bib.specs.Scan.{first, run, after_run, after_white}
use Rattle.bt_bib.specs.Names.{word, name_ended}
use Rattle.bt_bib.specs.Keywords.{keyword_of}
use Rattle.bt_bib.specs.Pieces.{opening, item_of_type, piece, placed, next_piece, entry_item, item_opened, unread_entry}
use Rattle.bt_bib.specs.BibText.{pieces_of}
use Rattle.bt_bib.specs.inner.Cases.{pieces_from, word_from, type_ended, type_read, is_text, next_piece_from}
use Rattle.bt_bib.specs.Boundaries.{last_end, Rises}
use Rattle.bt_bib.specs.inner.Boundaries.{end_place, below}
use Rattle.bt_bib.specs.laws.Laws.{as_piece, FaultIsFirst}
use Rattle.bt_bib.proofs.RunLemmas.{past_run}
use Rattle.bt_bib.proofs.ReachLemmas.{Reaches, reaches_then, reaches_place, reaches_sum, past_reaches, white_reaches, word_advances}
use Rattle.bt_bib.proofs.PieceLemmas.{item_here, typed_reaches, type_read_reaches, piece_ahead, piece_further, placed_reaches}
use Rattle.bt_bib.proofs.BoundaryLemmas.{pieces_by, pieces_step, rest_law}
use Rattle.bt_bib.proofs.KeptLemmas.{kept_law}
use Rattle.bt_bib.proofs.RiseLemmas.{spans_rise, rises_le}
use Rattle.bt_bib.proofs.laws.CutLemmas.{cut, cut_here, first_cut, behind_cut, begins_as, Next, past_cut, past_longer}
use Rattle.bt_bib.proofs.laws.FitLemmas.{AreBytes, Is, Never, Fits}
use Rattle.bt_bib.proofs.laws.FitNameLemmas.{Bare, EndsName, word_fits, ended_cut, ended_here, past_behind, past_one, past_none, and_first}
use Rattle.bt_bib.proofs.laws.FitItemLemmas.{NotWhite, IsWhole, Mends, Mended, mended_as, mended_on, mended_past, typed_mended, entry_ends, unwhite}

-- a type that is longer than the format's keywords
unlike : (kind expected : List ℕ) → length expected < length kind → is_same_folded kind expected ≡ false
unlike kind expected lt = false_from_ne_true (is_same_folded kind expected) (λ is.
    let same : map to_ascii_lowercase kind ≡ map to_ascii_lowercase expected = (bytes_eq-Decides (folded kind) (folded expected)).0 is in
    omega (arith, ap length same, length-map kind to_ascii_lowercase, length-map expected to_ascii_lowercase))

long_type : (kind : List ℕ) → 9 ≤ length kind → keyword_of kind ≡ keywords.Entry
long_type kind le =
    let seven : length (codes "comment") ≡ 7 = refl in
    let six : length (codes "string") ≡ 6 = refl in
    let eight : length (codes "preamble") ≡ 8 = refl in
    rw (unlike kind (codes "comment") (omega arith), unlike kind (codes "string") (omega arith), unlike kind (codes "preamble") (omega arith)) refl

-- `{}` after a type
abbrev empty_braces : List ℕ
empty_braces = 123 ∷ 125 ∷ []

entry_typed : (kind : List ℕ) (t : Spot) → IsWhole (item_of_type keywords.Entry kind (at t empty_braces))
unfolding opening
entry_typed kind t = subst (λ k. IsWhole (item_opened (unread_entry (Some kind)) (entry_item kind) (opening k))) (sym (past_none is_white t empty_braces (unwhite 123 (125 ∷ []) refl))) (entry_ends kind (spot_after_byte 123 t))

type_closed : (kind : List ℕ) (t : Spot) → keyword_of kind ≡ keywords.Entry → IsWhole (type_ended kind (name_ended EntryType (codes "{(") (at t empty_braces)))
unfolding name_ended
type_closed kind t is = subst (λ w. IsWhole (item_of_type w kind (at t empty_braces))) (sym is) (entry_typed kind t)

type_missing : (h : Here) → Mends NotWhite h h (λ more. type_read (word EntryType (cut h h more)))
unfolding word
type_missing h =
    let more : List ℕ = 97 ∷ empty_braces in
    let kind : List ℕ = run is_name_byte (at h.spot more) in
    record {
      more = more;
      bytes = refl;
      begins = λ le. unwhite 97 empty_braces refl;
      whole = subst (λ k. IsWhole (type_read (word EntryType k))) (sym (cut_here h h more (omega arith))) (subst (λ k. IsWhole (type_read (Ok (kind, k)))) (sym (past_one is_name_byte h.spot 97 empty_braces refl (record { byte = 123; rest = 125 ∷ []; is = refl; fits = refl }))) (type_closed kind (spot_after_byte 97 h.spot) refl));
    }

-- Nine more letters, and `{}`: a type this long is no keyword of the format, so even `@comment` then begins an entry.
abbrev letters : List ℕ
letters = 97 ∷ 97 ∷ 97 ∷ 97 ∷ 97 ∷ 97 ∷ 97 ∷ 97 ∷ 97 ∷ empty_braces

abbrev nine : Spot → Spot
nine s = spot_after_byte 97 (spot_after_byte 97 (spot_after_byte 97 (spot_after_byte 97 (spot_after_byte 97 (spot_after_byte 97 (spot_after_byte 97 (spot_after_byte 97 (spot_after_byte 97 s))))))))

past_letters : (s : Spot) → past_run is_name_byte s letters ≡ at (nine s) empty_braces
unfolding past_run
past_letters s = refl

type_longer : (u : Spot) (b : ℕ) (bs : List ℕ) → (is_name_byte b && not (is_digit b)) ≡ true → (let h = at u (b ∷ bs) in let k = after_run is_name_byte h in IsWhole (type_read (word EntryType (cut h k letters))))
unfolding word
type_longer u b bs is =
    let h = at u (b ∷ bs) in
    let k = after_run is_name_byte h in
    let way = past_behind is_name_byte u b bs (and_first (is_name_byte b) (not (is_digit b)) is) in
    let lt : u.place < k.spot.place = omega (arith, reaches_place (at (spot_after_byte b u) bs) k way) in
    let longer = cut h k letters in
    let kind : List ℕ = run is_name_byte longer in
    let end : after_run is_name_byte longer ≡ at (nine k.spot) empty_braces = past_longer is_name_byte h letters ∙ past_letters k.spot in
    let found : word EntryType longer ≡ Ok (kind, at (nine k.spot) empty_braces) = ap (word_from EntryType longer) (first_cut h k letters lt (past_reaches is_name_byte h)) ∙ ap (λ v. cond v (Ok (kind, after_run is_name_byte longer)) (Err (MissingName EntryType, longer))) is ∙ ap (λ e. Ok (kind, e)) end in
    let long : 9 ≤ length kind = omega (arith, ap (λ (e : Here). e.spot.place) end) in
    subst (λ r. IsWhole (type_read r)) (sym found) (type_closed kind (nine k.spot) (long_type kind long))

-- the piece that a type begins, once it was read
fits_at : {A : Type 0} (S P : ℕ → Type 0) (h : Here) (x : Result (A × Here) Stop) (y : Here → List ℕ → Result (A × Here) Stop) (a : A) (k : Here) → x ≡ Ok (a, k) → Fits S P h x y → (e : Here) (more : List ℕ) → Reaches k e → Next P k e more → y e more ≡ Ok (a, cut k e more)
fits_at S P h x y a k is f = (subst (λ x. Fits S P h x y) is f).by

abbrev type_signs : List ℕ
type_signs = codes "{("

brace_bare : (b : ℕ) → Is 123 b → Bare b
brace_bare b is = ap is_name_byte is

brace_ends : (b : ℕ) → Is 123 b → EndsName type_signs b
brace_ends b is = subst (EndsName type_signs) (sym is) (record { bare = refl; ends = refl })

goes_on : (h k : Here) (kind : List ℕ) → h.spot.place < k.spot.place → word EntryType h ≡ Ok (kind, k) → ((e : Here) (more : List ℕ) → Reaches k e → Next (EndsName type_signs) k e more → name_ended EntryType type_signs (cut k e more) ≡ Ok (cut k e more)) → Mended NotWhite h (item_of_type (keyword_of kind) kind k) (λ e more. type_read (word EntryType (cut h e more)))
goes_on h k kind lt is stays = mended_on NotWhite (Is 123) h k (item_of_type (keyword_of kind) kind k) (λ e more. type_read (word EntryType (cut h e more))) (λ e more. item_of_type (keyword_of kind) kind (cut k e more)) lt (typed_reaches (keyword_of kind) kind k) (λ e more way next.
    ap (type_read) (fits_at (Is 97) Bare h (word EntryType h) (λ e more. word EntryType (cut h e more)) kind k is (word_fits EntryType h) e more way (λ le. begins_as brace_bare (next le))) ∙ ap (type_ended kind) (stays e more way (λ le. begins_as brace_ends (next le)))) (typed_mended (keyword_of kind) kind k)

ended_mended_by : (h : Here) (kind : List ℕ) (t : Spot) (c : ℕ) (cs : List ℕ) (v : Bool) → (is_white c || list_any (λ sign. sign == c) type_signs) ≡ v → (let k = at t (c ∷ cs) in h.spot.place < t.place → word EntryType h ≡ Ok (kind, k) → IsWhole (type_read (word EntryType (cut h k letters))) → Mended NotWhite h (type_ended kind (cond v (Ok k) (Err (BadNameEnd EntryType c, k)))) (λ e more. type_read (word EntryType (cut h e more))))
ended_mended_by h kind t c cs true ends lt is whole = goes_on h (at t (c ∷ cs)) kind lt is (λ e more way next. ended_cut EntryType type_signs t c cs e more ends way next)
ended_mended_by h kind t c cs false ends lt is whole = record { by = λ f fault. record { more = letters; bytes = refl; begins = λ le. absurd (omega arith); whole = whole } }

ended_mended : (h : Here) (kind : List ℕ) (t : Spot) (r : List ℕ) → (let k = at t r in h.spot.place < t.place → word EntryType h ≡ Ok (kind, k) → IsWhole (type_read (word EntryType (cut h k letters))) → Mended NotWhite h (type_ended kind (name_ended EntryType type_signs k)) (λ e more. type_read (word EntryType (cut h e more))))
unfolding name_ended
ended_mended h kind t [] lt is whole = goes_on h (at t []) kind lt is (λ e more way next. (let le : e.spot.place ≤ t.place = omega (arith, reaches_sum (at t []) e way) in ended_here EntryType type_signs (at t []) e more le (next le)))
ended_mended h kind t (c ∷ cs) lt is whole = ended_mended_by h kind t c cs (is_white c || list_any (λ sign. sign == c) type_signs) refl lt is whole

type_by : (u : Spot) (b : ℕ) (bs : List ℕ) (v : Bool) → (is_name_byte b && not (is_digit b)) ≡ v → (let h = at u (b ∷ bs) in Mended NotWhite h (type_read (cond v (Ok (run is_name_byte h, after_run is_name_byte h)) (Err (MissingName EntryType, h)))) (λ e more. type_read (word EntryType (cut h e more))))
unfolding word
type_by u b bs true is =
    let h = at u (b ∷ bs) in
    let k = after_run is_name_byte h in
    let kind : List ℕ = run is_name_byte h in
    let way = past_behind is_name_byte u b bs (and_first (is_name_byte b) (not (is_digit b)) is) in
    let found : word EntryType h ≡ Ok (kind, k) = ap (λ v. cond v (Ok (kind, k)) (Err (MissingName EntryType, h))) is in
    ended_mended h kind k.spot k.rest (omega (arith, reaches_place (at (spot_after_byte b u) bs) k way)) found (type_longer u b bs is)
type_by u b bs false is = record { by = λ f fault. type_missing (at u (b ∷ bs)) }

type_mended : (u : Spot) (r : List ℕ) → Mended NotWhite (at u r) (type_read (word EntryType (at u r))) (λ e more. type_read (word EntryType (cut (at u r) e more)))
unfolding word
type_mended u [] = record { by = λ f fault. type_missing (at u []) }
type_mended u (b ∷ bs) = type_by u b bs (is_name_byte b && not (is_digit b)) refl

piece_mended : (b : ℕ) (bs : List ℕ) → (let h = item_here (b ∷ bs) in Mended Never h (piece (b ∷ bs)) (λ e more. piece (cut h e more).rest))
unfolding piece
piece_mended b bs =
    let h = item_here (b ∷ bs) in
    let g = at (spot_after_byte b item_start) bs in
    let w = after_white g in
    let read : Here → Piece × Here = λ k. type_read (word EntryType k) in
    let way = type_read_reaches w (word EntryType w) (word_advances EntryType w) in
    mended_as Never NotWhite h g g (piece (b ∷ bs)) (λ e more. piece (cut h e more).rest) (λ e more. read (after_white (cut g e more))) (omega arith) (reaches_then g w (read w).1 (white_reaches g) way) (λ e more way. ap (λ k. read (after_white k)) (behind_cut item_start b bs e more (omega (arith, reaches_place g e way)))) (mended_past NotWhite is_white g (read w) read (λ b is. is) way (type_mended w.spot w.rest))

-- If a faulty item is read from a boundary on, some bytes complete it after a cut at its fault's place.
record Mending (g : Here) (i : PlacedItem) : Type 0 where
  end : Here
  way : Reaches g end
  spot : end.spot ≡ i.end
  more : List ℕ
  bytes : AreBytes more
  whole : PlacedItem
  start : whole.start ≡ i.start
  faultless : whole.item.fault ≡ None
  read : pieces_from (cut g end more) ≡ as_piece whole ∷ []

pieces_none : (s : Spot) → pieces_from (at s []) ≡ []
unfolding next_piece
pieces_none s = pieces_step (at s [])

none_left : (e : Here) → e.rest ≡ [] → pieces_from e ≡ []
none_left e is = ap (λ r. pieces_from (at e.spot r)) is ∙ pieces_none e.spot

mends_item : (S : ℕ → Type 0) (h : Here) (x : Piece × Here) (y : Here → List ℕ → Piece × Here) (i : Item) (f : ItemFault) → x.0 ≡ pieces.Item i → i.fault ≡ Some f → Mended S h x y → Mends S h x.1 (y x.1)
mends_item S h (pieces.Comment, e) y i f is fault m = absurd cc
mends_item S h (pieces.Item j, e) y i f is fault m =
    let same : j ≡ i = cc is in
    m.by f (ap (λ (i : Item). i.fault) same ∙ fault)

record Alone (s : Spot) (x : Piece × Here) : Type 0 where
  whole : PlacedItem
  start : whole.start ≡ s
  faultless : whole.item.fault ≡ None
  read : pieces_by (Some (placed s x).0, (placed s x).1) ≡ as_piece whole ∷ []

alone : (s : Spot) (x : Piece × Here) → IsWhole x → Alone s x
alone s (pieces.Comment, e) whole = absurd whole
alone s (pieces.Item i, e) whole = (let w : PlacedItem = record { start = s; end = spot_from s e.spot; item = i } in record { whole = w; start = refl; faultless = whole.0; read = ap (λ ps. as_piece w ∷ ps) (none_left (here_from s e) whole.1) })

pieces_are : (k : Here) (x : PlacedPiece × Here) (ps : List PlacedPiece) → next_piece k ≡ (Some x.0, x.1) → pieces_by (Some x.0, x.1) ≡ ps → pieces_from k ≡ ps
pieces_are k x ps next is = pieces_step k ∙ ap pieces_by next ∙ is

mending_at : (g : Here) (u : Spot) (r : List ℕ) (i : PlacedItem) (f : ItemFault) (back : List PlacedPiece) → after_run is_text g ≡ at u r → pieces_by (next_piece_from (at u r) (first r)) ≡ as_piece i ∷ back → i.item.fault ≡ Some f → Mending g i
unfolding next_piece
mending_at g u [] i f back at_sign is fault = absurd (cc is)
mending_at g u (b ∷ bs) i f back at_sign is fault =
    let r : List ℕ = b ∷ bs in
    let h = at u r in
    let p = piece r in
    let one : (placed u p).0 ≡ as_piece i = cc is in
    let m = mends_item Never (item_here r) p (λ e more. piece (cut (item_here r) e more).rest) i.item f (ap (λ (q : PlacedPiece). q.piece) one) fault (piece_mended b bs) in
    let e = (placed u p).1 in
    let lt : u.place < e.spot.place = omega (arith, piece_further b bs) in
    let inner = placed_reaches h p.1 (piece_ahead r) in
    let to_sign : Reaches g h = subst (λ k. Reaches g k) at_sign (past_reaches is_text g) in
    let q = cut h e m.more in
    let found : after_run is_text (cut g e m.more) ≡ q = past_cut is_text g e m.more (subst (λ k. Reaches k e) (sym at_sign) inner) (λ le. absurd (omega (arith, ap (λ (k : Here). k.spot.place) at_sign))) ∙ ap (λ k. cut k e m.more) at_sign in
    let next : next_piece (cut g e m.more) ≡ (Some (placed u (piece q.rest)).0, (placed u (piece q.rest)).1) = ap (λ (k : Here). next_piece_from k (first k.rest)) found ∙ ap (next_piece_from q) (first_cut h e m.more lt inner) in
    let count : p.1.spot.place - 0 ≡ e.spot.place - u.place = omega arith in
    let bytes : (cut (item_here r) p.1 m.more).rest ≡ q.rest = ap (λ n. take n r ++ m.more) count in
    let a = alone u (piece q.rest) (subst (λ t. IsWhole (piece t)) bytes m.whole) in
    record {
      end = e;
      way = reaches_then g h e to_sign inner;
      spot = ap (λ (q : PlacedPiece). q.end) one;
      more = m.more;
      bytes = m.bytes;
      whole = a.whole;
      start = a.start ∙ ap (λ (q : PlacedPiece). q.start) one;
      faultless = a.faultless;
      read = pieces_are (cut g e m.more) (placed u (piece q.rest)) (as_piece a.whole ∷ []) next a.read;
    }

mending : (g : Here) (i : PlacedItem) (f : ItemFault) (back : List PlacedPiece) → pieces_from g ≡ as_piece i ∷ back → i.item.fault ≡ Some f → Mending g i
unfolding next_piece
mending g i f back is fault = (let h = after_run is_text g in mending_at g h.spot h.rest i f back refl (sym (pieces_step g) ∙ is) fault)

-- the pieces before one are those that end before the place after its beginning
before : (n place : ℕ) (front : List PlacedPiece) (p : PlacedPiece) (back : List PlacedPiece) → Rises n place (front ++ p ∷ back) → place ≤ p.start.place
before n place [] p back r = r.0
before n place (q ∷ front) p back r = omega (arith, r.0, r.1, before n (end_place q) front p back r.2)

front_kept : (n place : ℕ) (front : List PlacedPiece) (p : PlacedPiece) (back : List PlacedPiece) → Rises n place (front ++ p ∷ back) → below (p.start.place + 1) (front ++ p ∷ back) ≡ front
front_kept n place [] p back r = rw (le-ltb (end_place p) (p.start.place + 1) (omega (arith, r.1))) refl
front_kept n place (q ∷ front) p back r = rw (lt-ltb (end_place q) (p.start.place + 1) (omega (arith, before n (end_place q) front p back r.2))) (ap (λ l. q ∷ l) (front_kept n (end_place q) front p back r.2))

span_of : (n place : ℕ) (front : List PlacedPiece) (p : PlacedPiece) (back : List PlacedPiece) → Rises n place (front ++ p ∷ back) → (p.start.place < end_place p) × (end_place p ≤ n)
span_of n place [] p back r = (r.1, rises_le n (end_place p) back r.2)
span_of n place (q ∷ front) p back r = span_of n (end_place q) front p back r.2

-- the text that is cut, from a place on
here_cut : (text : List ℕ) (a : Spot) (e : Here) (more : List ℕ) → a.place ≤ e.spot.place → e.spot.place ≤ length text → here (take e.spot.place text ++ more) a ≡ cut (here text a) e more
here_cut text a e more le inside =
    let n = e.spot.place in
    let m = n - a.place in
    let sum : a.place + m ≡ n = omega arith in
    ap (at a) (drop-append-le a.place (take n text) more (omega (arith, length-take-le n text inside)) ∙ ap (λ l. l ++ more) (ap (λ k. drop a.place (take k text)) (sym sum) ∙ drop-take a.place m text))

pub fault_is_first : FaultIsFirst
unfolding pieces_of
fault_is_first text front back i f is fault =
    let p = as_piece i in
    let a = last_end start front in
    let g = here text a in
    let m = mending g i f back (sym (rest_law text start front (p ∷ back) is)) fault in
    let rises = subst (Rises (length text) 0) is (spans_rise text) in
    let span = span_of (length text) 0 front p back rises in
    let n = i.end.place in
    let place : m.end.spot.place ≡ n = ap (λ (s : Spot). s.place) m.spot in
    let new = take n text ++ m.more in
    let limit = i.start.place + 1 in
    let all : limit - 0 ≡ limit = omega arith in
    let same : take limit new ≡ take limit text = take-append-le limit (take n text) m.more (omega (arith, length-take-le n text span.1, span.0)) ∙ take-take limit n text (omega (arith, span.0)) in
    let agree : take (limit - 0) text ≡ take (limit - 0) new = ap (λ k. take k text) all ∙ sym same ∙ ap (λ k. take k new) (sym all) in
    let kept : below limit (pieces_of text) ≡ front = ap (below limit) is ∙ front_kept (length text) 0 front p back rises in
    let after_byte : here new a ≡ cut g m.end m.more = ap (λ k. here (take k text ++ m.more) a) (sym place) ∙ here_cut text a m.end m.more (reaches_place g m.end m.way) (omega (arith, span.1)) in
    record {
      rest = m.more;
      bytes = m.bytes;
      whole = m.whole;
      start = m.start;
      faultless = m.faultless;
      read = kept_law text new start limit agree ∙ ap (λ ps. ps ++ pieces_from (here new (last_end start ps))) kept ∙ ap (λ k. front ++ pieces_from k) after_byte ∙ ap (λ ps. front ++ ps) m.read;
    }
