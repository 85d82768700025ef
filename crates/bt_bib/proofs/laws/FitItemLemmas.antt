-- Items on a text that is cut: some bytes complete a faulty one.
use Rattle.std.specs.Prelude.{◌==◌}
use Rattle.std.proofs.Common.{◌≡◌, ℕ, ◌<◌, ◌≤◌, Bool, true, false, cond, List, [], ◌∷◌, ◌++◌, Option, Some, None, Result, Ok, Err, refl, sym, ap, subst, ◌∙◌, arith}
use Rattle.bt_text.specs.ByteTests.{is_white, left_brace}
use Rattle.bt_bib.specs.declared.spot.Spot.{Spot}
use Rattle.bt_bib.specs.declared.fault.ItemFault.{ItemFault}
use Rattle.bt_bib.specs.declared.fault.ItemFault.TheVariants.{EndOfFile, ExpectedOpen}
use Rattle.bt_bib.specs.declared.fault.NameRole.TheVariants.{StringName}
use Rattle.bt_bib.specs.declared.item.Closing.{Closing}
use Rattle.bt_bib.specs.declared.item.Closing.TheVariants.{Brace, Parenthesis}
use Rattle.bt_bib.specs.declared.item.Content.{Content}
use Rattle.bt_bib.specs.declared.item.Content.TheVariants as contents
use Rattle.bt_bib.specs.declared.item.Piece.{Piece}
use Rattle.bt_bib.specs.declared.item.Piece.TheVariants as pieces
use Rattle.bt_bib.specs.declared.keywords.Keyword.{Keyword}
use Rattle.bt_bib.specs.declared.keywords.Keyword.TheVariants as keywords
use Rattle.bt_bib.specs.Spot.{Here, at, spot_after_byte, after_byte}
use Rattle.bt_bib.specs.Stop.{Stop, ◌>>=◌}
use Rattle.bt_bib.specs.Scan.{after_run, after_white, sign, closing_sign, is_key_byte}
use Rattle.bt_bib.specs.Enclosure.{enclosed}
use Rattle.bt_bib.specs.Names.{word, name_ended, name}
use Rattle.bt_bib.specs.Many.{many}
use Rattle.bt_bib.specs.Values.{part, next_part, value}
use Rattle.bt_bib.specs.Fields.{field, next_field}
use Rattle.bt_bib.specs.Pieces.{ended_item, opening, after_closing, entry_item, string_item, preamble_item, unread_entry, unread_string, item_opened, item_of_type}
use Rattle.bt_bib.specs.inner.Cases.{opening_from, entry_read, string_read, name_line, preamble_read}
use Rattle.bt_bib.proofs.ReachLemmas.{Reaches, reaches_self, reaches_then, reaches_place, past_reaches, white_reaches}
use Rattle.bt_bib.proofs.PieceLemmas.{valued, opening_advances, opened_reaches, entry_reaches, string_reaches, preamble_reaches}
use Rattle.bt_bib.proofs.laws.CutLemmas.{cut, cut_here, first_cut, behind_cut, Begins, begins_as, Next, past_cut}
use Rattle.bt_bib.proofs.laws.FitLemmas.{AreBytes, bytes_append, Is, Fits}
use Rattle.bt_bib.proofs.laws.FitNameLemmas.{past_none, one_on}
use Rattle.bt_bib.proofs.laws.FitPartLemmas.{Quiet, quiet_close}
use Rattle.bt_bib.proofs.laws.FitValueLemmas.{value_fits, named_fits, white_right}
use Rattle.bt_bib.proofs.laws.FitFieldLemmas.{close_bytes, fields_end, end_at, closes}

abbrev pub NotWhite : ℕ → Type 0
NotWhite b = is_white b ≡ false

-- an item without a fault that ends with its text
abbrev pub IsWhole : Piece × Here → Type 0
IsWhole (pieces.Comment, e) = ⊥
IsWhole (pieces.Item i, e) = (i.fault ≡ None) × (e.rest ≡ [])

-- After a cut at e some bytes complete an item that is read from h on. If nothing of it was read, they begin with S.
pub record Mends (S : ℕ → Type 0) (h e : Here) (y : List ℕ → Piece × Here) : Type 0 where
  pub more : List ℕ
  pub bytes : AreBytes more
  pub begins : e.spot.place ≤ h.spot.place → Begins S more
  pub whole : IsWhole (y more)

abbrev pub MendsBy : (ℕ → Type 0) → Here → Piece × Here → (Here → List ℕ → Piece × Here) → Type 0
MendsBy S h (pieces.Comment, e) y = Unit {0}
MendsBy S h (pieces.Item i, e) y = (f : ItemFault) → i.fault ≡ Some f → Mends S h e (y e)

-- a piece that is read from h on, and y if the text is cut
pub record Mended (S : ℕ → Type 0) (h : Here) (x : Piece × Here) (y : Here → List ℕ → Piece × Here) : Type 0 where
  pub by : MendsBy S h x y

pub mended_as : (S T : ℕ → Type 0) (h g k : Here) (x : Piece × Here) (y z : Here → List ℕ → Piece × Here) → h.spot.place < g.spot.place → Reaches g x.1 → ((e : Here) (more : List ℕ) → Reaches g e → y e more ≡ z e more) → Mended T k x z → Mended S h x y
mended_as S T h g k (pieces.Comment, e) y z lt way same m = record { by = tt }
mended_as S T h g k (pieces.Item i, e) y z lt way same m = record {
  by = λ f is.
      let c = m.by f is in
      record { more = c.more; bytes = c.bytes; begins = λ le. absurd (omega (arith, reaches_place g e way)); whole = subst IsWhole (sym (same e c.more way)) c.whole };
}

-- the same if the text may be cut at k
pub mended_on : (S T : ℕ → Type 0) (h k : Here) (x : Piece × Here) (y z : Here → List ℕ → Piece × Here) → h.spot.place < k.spot.place → Reaches k x.1 → ((e : Here) (more : List ℕ) → Reaches k e → Next T k e more → y e more ≡ z e more) → Mended T k x z → Mended S h x y
mended_on S T h k (pieces.Comment, e) y z lt way same m = record { by = tt }
mended_on S T h k (pieces.Item i, e) y z lt way same m = record {
  by = λ f is.
      let c = m.by f is in
      record { more = c.more; bytes = c.bytes; begins = λ le. absurd (omega (arith, reaches_place k e way)); whole = subst IsWhole (sym (same e c.more way c.begins)) c.whole };
}

pub mended_past : (S : ℕ → Type 0) (test : ℕ → Bool) (h : Here) (x : Piece × Here) (f : Here → Piece × Here) → ((b : ℕ) → S b → test b ≡ false) → Reaches (after_run test h) x.1 → Mended S (after_run test h) x (λ e more. f (cut (after_run test h) e more)) → Mended S h x (λ e more. f (after_run test (cut h e more)))
mended_past S test h (pieces.Comment, e) f apart way m = record { by = tt }
mended_past S test h (pieces.Item i, e) f apart way m = record {
  by = λ fault is.
      let c = m.by fault is in
      record {
        more = c.more;
        bytes = c.bytes;
        begins = λ le. c.begins (omega (arith, reaches_place h (after_run test h) (past_reaches test h)));
        whole = subst (λ k. IsWhole (f k)) (sym (past_cut test h e c.more way (λ le. begins_as apart (c.begins le)))) c.whole;
      };
}

-- Some bytes complete what is read up to an item's end.
record Finishes (h e : Here) (y : List ℕ → Result Here Stop) : Type 0 where
  more : List ℕ
  bytes : AreBytes more
  begins : e.spot.place ≤ h.spot.place → Begins NotWhite more
  spot : Spot
  is : y more ≡ Ok (at spot [])

item_mended : (line : ℕ) (content : Content) (close : Option Closing) (h : Here) (r : Result Here Stop) (lines : Here → List ℕ → ℕ) (contents : Here → List ℕ → Content) (z : Here → List ℕ → Result Here Stop) → ((f : ItemFault) (e : Here) → r ≡ Err (f, e) → Finishes h e (z e)) → Mended NotWhite h (ended_item line content close r) (λ e more. ended_item (lines e more) (contents e more) close (z e more))
item_mended line content close h (Ok e) lines contents z k = record { by = λ f is. absurd cc }
item_mended line content close h (Err stop) lines contents z k = record {
  by = λ f is.
      let c = k stop.0 stop.1 refl in
      record {
        more = c.more;
        bytes = c.bytes;
        begins = c.begins;
        whole = subst (λ r. IsWhole (ended_item (lines stop.1 c.more) (contents stop.1 c.more) close r)) (sym c.is) (refl, refl);
      };
}

-- entries
comma_apart : (close : Closing) (b : ℕ) → Is 44 b → is_key_byte close b ≡ false
comma_apart Brace b is = ap (is_key_byte Brace) is
comma_apart Parenthesis b is = ap (is_key_byte Parenthesis) is

entry_finishes : (kind : List ℕ) (close : Closing) (h e : Here) (f : ItemFault) → (entry_read kind close h).1 ≡ Err (f, e) → Finishes h e (λ more. (entry_read kind close (cut h e more)).1)
entry_finishes kind close h e f is =
    let k = after_run (is_key_byte close) h in
    let w = after_white k in
    let c = closes close w e f is in
    let way = end_at close w e f is in
    let first = past_cut (is_key_byte close) h e c.more (reaches_then k w e (white_reaches k) way) (λ le. begins_as (comma_apart close) (c.begins (omega (arith, reaches_place k w (white_reaches k))))) in
    let then = past_cut is_white k e c.more way (λ le. begins_as (λ b is. ap is_white is) (c.begins le)) in
    record {
      more = c.more;
      bytes = c.bytes;
      begins = λ le. begins_as (λ b is. ap is_white is) (c.begins (omega (arith, reaches_place h k (past_reaches (is_key_byte close) h), reaches_place k w (white_reaches k))));
      spot = c.spot;
      is = ap (λ k. fields_end close (after_white k)) first ∙ ap (fields_end close) then ∙ c.is;
    }

entry_mended : (kind : List ℕ) (close : Closing) (h : Here) → Mended NotWhite h (entry_item kind close h) (λ e more. entry_item kind close (cut h e more))
entry_mended kind close h = item_mended h.spot.line (contents.Entry (entry_read kind close h).0) (Some close) h (entry_read kind close h).1 (λ e more. h.spot.line) (λ e more. contents.Entry (entry_read kind close (cut h e more)).0) (λ e more. (entry_read kind close (cut h e more)).1) (λ f e is. entry_finishes kind close h e f is)

-- strings and preambles
closes_last : (close : Closing) (s : Spot) → after_closing close (at s (closing_sign close ∷ [])) ≡ Ok (at (spot_after_byte (closing_sign close) s) [])
unfolding sign
closes_last Brace s = refl
closes_last Parenthesis s = refl

closed_by : (close : Closing) (s : Spot) (b : ℕ) (bs : List ℕ) (v : Bool) (fault f : ItemFault) (e : Here) → cond {A = Result Here Stop} v (Ok (at (spot_after_byte b s) bs)) (Err (fault, at s (b ∷ bs))) ≡ Err (f, e) → e ≡ at s (b ∷ bs)
closed_by close s b bs true fault f e is = absurd (cc is)
closed_by close s b bs false fault f e is = (let one : Stop = (fault, at s (b ∷ bs)) in let same : one ≡ (f, e) = cc is in sym (ap (λ (x : Stop). x.1) same))

stays_unclosed : (close : Closing) (s : Spot) (r : List ℕ) (f : ItemFault) (e : Here) → after_closing close (at s r) ≡ Err (f, e) → e ≡ at s r
unfolding sign
stays_unclosed close s [] f e is = (let one : Stop = (EndOfFile, at s []) in let same : one ≡ (f, e) = cc is in sym (ap (λ (x : Stop). x.1) same))
stays_unclosed close s (b ∷ bs) f e is = closed_by close s b bs (b == closing_sign close) _ f e is

finishes_closed : {A : Type 0} (S : ℕ → Type 0) (close : Closing) (h : Here) (x : Result (A × Here) Stop) (y : Here → List ℕ → Result (A × Here) Stop) → ((b : ℕ) → S b → NotWhite b) → Fits S (Quiet close) h x y → (f : ItemFault) (e : Here) → (x >>= λ v. after_closing close v.1) ≡ Err (f, e) → Finishes h e (λ more. y e more >>= λ v. after_closing close v.1)
finishes_closed S close h (Err stop) y sub fits f e is =
    let same : stop ≡ (f, e) = cc is in
    let c = fits.by in
    let last : List ℕ = closing_sign close ∷ [] in
    let quiet : Begins (Quiet close) last = record { byte = closing_sign close; rest = []; is = refl; fits = quiet_close close } in
    let r = c.reads last quiet in
    subst (λ (s : Stop). Finishes h s.1 (λ more. y s.1 more >>= λ v. after_closing close v.1)) same (record {
      more = c.more ++ last;
      bytes = bytes_append c.more last c.bytes (close_bytes close);
      begins = λ le. begins_as sub (c.begins last quiet le);
      spot = spot_after_byte (closing_sign close) r.spot;
      is = ap (λ r. r >>= λ v. after_closing close v.1) r.is ∙ closes_last close r.spot;
    })
finishes_closed S close h (Ok x) y sub fits f e is =
    let k = x.1 in
    let same : e ≡ k = stays_unclosed close k.spot k.rest f e is in
    let last : List ℕ = closing_sign close ∷ [] in
    let quiet : Begins (Quiet close) last = record { byte = closing_sign close; rest = []; is = refl; fits = quiet_close close } in
    subst (λ e. Finishes h e (λ more. y e more >>= λ v. after_closing close v.1)) (sym same) (record {
      more = last;
      bytes = close_bytes close;
      begins = λ le. begins_as (λ b q. q.after_white) quiet;
      spot = spot_after_byte (closing_sign close) k.spot;
      is = ap (λ r. r >>= λ v. after_closing close v.1) (fits.by k last (reaches_self k) (λ le. quiet)) ∙ ap (after_closing close) (cut_here k k last (omega arith)) ∙ closes_last close k.spot;
    })

one_not_white : (c : ℕ) → is_white c ≡ false → (b : ℕ) → Is c b → NotWhite b
one_not_white c not b is = ap is_white is ∙ not

string_mended : (close : Closing) (h : Here) → Mended NotWhite h (string_item close h) (λ e more. string_item close (cut h e more))
string_mended close h =
    let read = string_read close h in
    item_mended (name_line h.spot.line read.0.name) (contents.Define read.0) (Some close) h read.1 (λ e more. name_line h.spot.line (string_read close (cut h e more)).0.name) (λ e more. contents.Define (string_read close (cut h e more)).0) (λ e more. (string_read close (cut h e more)).1) (finishes_closed (Is 97) close h (valued close h) (λ e more. valued close (cut h e more)) (one_not_white 97 refl) (named_fits close StringName (λ n q. value close (after_white q)) h (λ n. white_right close)))

preamble_mended : (close : Closing) (h : Here) → Mended NotWhite h (preamble_item close h) (λ e more. preamble_item close (cut h e more))
preamble_mended close h =
    let read = preamble_read close h in
    item_mended 0 (contents.Preamble read.0) (Some close) h read.1 (λ e more. 0) (λ e more. contents.Preamble (preamble_read close (cut h e more)).0) (λ e more. (preamble_read close (cut h e more)).1) (finishes_closed (Is 49) close h (value close h) (λ e more. value close (cut h e more)) (one_not_white 49 refl) (value_fits close h))

-- some bytes that are an item's rest after the left brace that opens it
record Rest (read : Closing → Here → Piece × Here) : Type 0 where
  word : List ℕ
  bytes : AreBytes word
  whole : (s : Spot) → IsWhole (read Brace (after_white (at s word)))

pub unwhite : (c : ℕ) (tail : List ℕ) → is_white c ≡ false → Begins NotWhite (c ∷ tail)
unwhite c tail is = record { byte = c; rest = tail; is = refl; fits = is }

pub entry_ends : (kind : List ℕ) (s : Spot) → IsWhole (entry_item kind Brace (after_white (at s (125 ∷ []))))
unfolding sign enclosed word name_ended name many part next_part value field next_field
entry_ends kind s = subst (λ k. IsWhole (entry_item kind Brace k)) (sym (past_none is_white s (125 ∷ []) (unwhite 125 [] refl))) (refl, refl)

entry_rest : (kind : List ℕ) → Rest (entry_item kind)
entry_rest kind = record { word = 125 ∷ []; bytes = refl; whole = entry_ends kind }

string_rest : Rest string_item
unfolding sign enclosed word name_ended name many part next_part value field next_field
string_rest = record { word = 97 ∷ 61 ∷ 49 ∷ 125 ∷ []; bytes = refl; whole = λ s. subst (λ k. IsWhole (string_item Brace k)) (sym (past_none is_white s (97 ∷ 61 ∷ 49 ∷ 125 ∷ []) (unwhite 97 (61 ∷ 49 ∷ 125 ∷ []) refl))) (refl, refl) }

preamble_rest : Rest preamble_item
unfolding sign enclosed word name_ended name many part next_part value field next_field
preamble_rest = record { word = 49 ∷ 125 ∷ []; bytes = refl; whole = λ s. subst (λ k. IsWhole (preamble_item Brace k)) (sym (past_none is_white s (49 ∷ 125 ∷ []) (unwhite 49 (125 ∷ []) refl))) (refl, refl) }

-- what an opening sign begins
unopened_mends : (unread : Content) (read : Closing → Here → Piece × Here) (h : Here) → Rest read → Mends (Is 123) h h (λ more. item_opened unread read (opening (cut h h more)))
unfolding opening
unopened_mends unread read h rest = record {
  more = 123 ∷ rest.word;
  bytes = rest.bytes;
  begins = λ le. record { byte = 123; rest = rest.word; is = refl; fits = refl };
  whole = subst (λ k. IsWhole (item_opened unread read (opening k))) (sym (cut_here h h (123 ∷ rest.word) (omega arith))) (rest.whole (spot_after_byte 123 h.spot));
}

opened_by : (unread : Content) (read : Closing → Here → Piece × Here) (s : Spot) (b : ℕ) (bs : List ℕ) (close : Closing) → (let h = at s (b ∷ bs) in let g = at (spot_after_byte b s) bs in
    ((e : Here) (more : List ℕ) → Reaches g e → opening (cut h e more) ≡ Ok (close, cut g e more)) → ((e : Here) → Reaches e (read close e).1) → Mended NotWhite (after_white g) (read close (after_white g)) (λ e more. read close (cut (after_white g) e more)) → Mended (Is 123) h (read close (after_white g)) (λ e more. item_opened unread read (opening (cut h e more))))
opened_by unread read s b bs close same ahead m =
    let h = at s (b ∷ bs) in
    let g = at (spot_after_byte b s) bs in
    mended_as (Is 123) NotWhite h g g (read close (after_white g)) (λ e more. item_opened unread read (opening (cut h e more))) (λ e more. read close (after_white (cut g e more))) (omega arith) (reaches_then g (after_white g) (read close (after_white g)).1 (white_reaches g) (ahead (after_white g))) (λ e more way. ap (item_opened unread read) (same e more way)) (mended_past NotWhite is_white g (read close (after_white g)) (read close) (λ b is. is) (ahead (after_white g)) m)

opening_by : (unread : Content) (read : Closing → Here → Piece × Here) (s : Spot) (b : ℕ) (bs : List ℕ) (v u : Bool) → (b == left_brace) ≡ v → (b == 40) ≡ u → ((close : Closing) (e : Here) → Reaches e (read close e).1) → ((close : Closing) (k : Here) → Mended NotWhite k (read close k) (λ e more. read close (cut k e more))) → Rest read → (let h = at s (b ∷ bs) in let g = at (spot_after_byte b s) bs in
    Mended (Is 123) h (item_opened unread read (cond v (Ok (Brace, g)) (cond u (Ok (Parenthesis, g)) (Err (ExpectedOpen, h))))) (λ e more. item_opened unread read (opening (cut h e more))))
unfolding opening
opening_by unread read s b bs true u left round ahead m rest =
    let h = at s (b ∷ bs) in
    let g = at (spot_after_byte b s) bs in
    let two : Here → Result (Closing × Here) Stop = λ k. cond (b == 40) (Ok (Parenthesis, after_byte k)) (Err (ExpectedOpen, k)) in
    opened_by unread read s b bs Brace (λ e more way.
    let lt : s.place < e.spot.place = omega (arith, reaches_place g e way) in
    ap (opening_from (cut h e more)) (first_cut h e more lt (reaches_then h g e (one_on s b bs) way)) ∙ ap (λ v. cond v (Ok (Brace, after_byte (cut h e more))) (two (cut h e more))) left ∙ ap (λ k. Ok (Brace, k)) (behind_cut s b bs e more lt)) (ahead Brace) (m Brace (after_white g))
opening_by unread read s b bs false true left round ahead m rest =
    let h = at s (b ∷ bs) in
    let g = at (spot_after_byte b s) bs in
    let two : Here → Result (Closing × Here) Stop = λ k. cond (b == 40) (Ok (Parenthesis, after_byte k)) (Err (ExpectedOpen, k)) in
    opened_by unread read s b bs Parenthesis (λ e more way.
    let lt : s.place < e.spot.place = omega (arith, reaches_place g e way) in
    ap (opening_from (cut h e more)) (first_cut h e more lt (reaches_then h g e (one_on s b bs) way)) ∙ ap (λ v. cond v (Ok (Brace, after_byte (cut h e more))) (two (cut h e more))) left ∙ ap (λ v. cond v (Ok (Parenthesis, after_byte (cut h e more))) (Err (ExpectedOpen, cut h e more))) round ∙ ap (λ k. Ok (Parenthesis, k)) (behind_cut s b bs e more lt)) (ahead Parenthesis) (m Parenthesis (after_white g))
opening_by unread read s b bs false false left round ahead m rest = record { by = λ f is. unopened_mends unread read (at s (b ∷ bs)) rest }

opened_mended : (unread : Content) (read : Closing → Here → Piece × Here) (s : Spot) (r : List ℕ) → ((close : Closing) (e : Here) → Reaches e (read close e).1) → ((close : Closing) (k : Here) → Mended NotWhite k (read close k) (λ e more. read close (cut k e more))) → Rest read → Mended (Is 123) (at s r) (item_opened unread read (opening (at s r))) (λ e more. item_opened unread read (opening (cut (at s r) e more)))
unfolding opening
opened_mended unread read s [] ahead m rest = record { by = λ f is. unopened_mends unread read (at s []) rest }
opened_mended unread read s (b ∷ bs) ahead m rest = opening_by unread read s b bs (b == left_brace) (b == 40) refl refl ahead m rest

-- the piece that a type begins
opened_reach : (unread : Content) (read : Closing → Here → Piece × Here) (w : Here) → ((close : Closing) (e : Here) → Reaches e (read close e).1) → Reaches w (item_opened unread read (opening w)).1
opened_reach unread read w ahead = opened_reaches w unread read (opening w) (opening_advances w) ahead

behind_type : (unread : Content) (read : Closing → Here → Piece × Here) (h : Here) → ((close : Closing) (e : Here) → Reaches e (read close e).1) → ((close : Closing) (k : Here) → Mended NotWhite k (read close k) (λ e more. read close (cut k e more))) → Rest read → Mended (Is 123) h (item_opened unread read (opening (after_white h))) (λ e more. item_opened unread read (opening (after_white (cut h e more))))
behind_type unread read h ahead m rest = (let w = after_white h in mended_past (Is 123) is_white h (item_opened unread read (opening w)) (λ k. item_opened unread read (opening k)) (one_not_white 123 refl) (opened_reach unread read w ahead) (opened_mended unread read w.spot w.rest ahead m rest))

pub typed_mended : (keyword : Keyword) (kind : List ℕ) (h : Here) → Mended (Is 123) h (item_of_type keyword kind h) (λ e more. item_of_type keyword kind (cut h e more))
typed_mended keywords.Comment kind h = record { by = tt }
typed_mended keywords.String kind h = behind_type unread_string string_item h string_reaches string_mended string_rest
typed_mended keywords.Preamble kind h = behind_type (contents.Preamble None) preamble_item h preamble_reaches preamble_mended preamble_rest
typed_mended keywords.Entry kind h = behind_type (unread_entry (Some kind)) (entry_item kind) h (entry_reaches kind) (entry_mended kind) (entry_rest kind)
