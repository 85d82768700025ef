-- Closed texts can be joined, and an edit inside a part that stays closed changes no other part.
use Rattle.std.specs.Prelude.{nat_lt, ◌==◌, ◌||◌, ◌&&◌}
use Rattle.std.specs.List.{list_all}
use Rattle.std.proofs.Common.{append_assoc, ◌≡◌, ℕ, zero, suc, ◌+◌, ◌-◌, ◌<◌, ◌≤◌, Bool, true, false, cond, List, [], ◌∷◌, ◌++◌, length, take, drop, map, Option, Some, None, Ok, refl, sym, ap, subst, ◌∙◌, arith, inl, inr, length-append}
use Rattle.std.proofs.Math.Seq.{take-append-add, drop-append-add, take-append_seam, drop-append_seam, take-length}
use Rattle.std.proofs.lemmas.List.{append-nil, take-append-le, drop-append-le}
use Rattle.std.proofs.lemmas.Bool.{ltb-true, eqb-true, false≢true, and_parts, and_from, or_cases, or_left, or_right, lt-ltb, eq-eqb}
use Rattle.bt_bib.specs.declared.spot.Spot.{Spot}
use Rattle.bt_bib.specs.declared.item.Item.{Item}
use Rattle.bt_bib.specs.declared.item.Piece.{Piece}
use Rattle.bt_bib.specs.declared.item.Piece.TheVariants as pieces
use Rattle.bt_bib.specs.declared.placed_pieces.PlacedPiece.{PlacedPiece}
use Rattle.bt_bib.specs.Spot.{Here, at, start, spot_after, spot_after_byte}
use Rattle.bt_bib.specs.Scan.{first, after_run}
use Rattle.bt_bib.specs.Pieces.{piece, placed, next_piece}
use Rattle.bt_bib.specs.Boundaries.{moved_piece}
use Rattle.bt_bib.specs.BibText.{pieces_of}
use Rattle.bt_bib.specs.inner.Cases.{next_one, next_at, pieces_from, is_text}
use Rattle.bt_bib.specs.laws.Laws.{offset}
use Rattle.bt_bib.specs.Splice.{IsSplice}
use Rattle.bt_bib.specs.Parts.{is_whole, lies_before, is_closed}
use Rattle.bt_bib.specs.laws.Parts.{pieces_at, joined, AreClosed, pieces_in_turn, ClosedPartsJoin, is_empty, PartEditStays}
use Rattle.bt_bib.proofs.RunLemmas.{past_run, past_is_run, passed-nil, passed-cons}
use Rattle.bt_bib.proofs.ReachLemmas.{Reaches, reaches_sum, passed-append}
use Rattle.bt_bib.proofs.ManyLemmas.{IsLess}
use Rattle.bt_bib.proofs.laws.SpellingLemmas.{Stops}
use Rattle.bt_bib.proofs.laws.SpelledItemLemmas.{spelled_items_are_read}
use Rattle.bt_bib.proofs.laws.FaultlessItemLemmas.{past_stops, read_piece}
use Rattle.bt_bib.proofs.laws.FaultlessDatabaseLemmas.{at_sign, item_stands}
use Rattle.bt_bib.proofs.PieceLemmas.{next_piece_reaches, next_piece_less}
use Rattle.bt_bib.proofs.AlikeLemmas.{Alike}
use Rattle.bt_bib.proofs.SameLemmas.{Same}
use Rattle.bt_bib.proofs.SamePieceLemmas.{next_piece_same}
use Rattle.bt_bib.proofs.BoundaryLemmas.{pieces_by, pieces_step}
use Rattle.bt_bib.proofs.laws.PartLemmas.{run_nil, run_cons, none_from, same_from, step_from, stands_moved, no_fault}

-- ---- closed texts

abbrev with_rest : Here → List ℕ → Here
with_rest h rest = at h.spot (h.rest ++ rest)

-- reading a text with more after it is reading the text, and then what follows
abbrev IsJoined : List ℕ → Here → Type 0
IsJoined rest h = pieces_from (with_rest h rest) ≡ pieces_from h ++ pieces_from (at (spot_after h.rest h.spot) rest)

through_by : (v : Bool) (rest : List ℕ) (s : Spot) (b : ℕ) (bs : List ℕ) → is_text b ≡ v → (cond v (past_run is_text (spot_after_byte b s) bs) (at s (b ∷ bs))).rest ≡ [] → ((past_run is_text (spot_after_byte b s) bs).rest ≡ [] → past_run is_text (spot_after_byte b s) (bs ++ rest) ≡ past_run is_text (spot_after bs (spot_after_byte b s)) rest) → past_run is_text s (b ∷ (bs ++ rest)) ≡ past_run is_text (spot_after (b ∷ bs) s) rest
through_by false rest s b bs is none step = absurd (cc none)
through_by true rest s b bs is none step =
    run_cons s b (bs ++ rest) ∙ ap (λ v. cond v (past_run is_text (spot_after_byte b s) (bs ++ rest)) (at s (b ∷ (bs ++ rest)))) is ∙ step none ∙ ap (λ u. past_run is_text u rest) (sym (passed-cons b bs s))

through : (rest : List ℕ) (s : Spot) (r : List ℕ) → (past_run is_text s r).rest ≡ [] → past_run is_text s (r ++ rest) ≡ past_run is_text (spot_after r s) rest
through rest s [] none = ap (λ u. past_run is_text u rest) (sym (passed-nil s))
through rest s (b ∷ bs) none = through_by (is_text b) rest s b bs refl (ap (λ (h : Here). h.rest) (sym (run_cons s b bs)) ∙ none) (through rest (spot_after_byte b s) bs)

joined_none : (rest : List ℕ) (h : Here) (s : Spot) → after_run is_text h ≡ at s [] → IsJoined rest h
joined_none rest h s is =
    let walked = past_is_run is_text in
    let none : (past_run is_text h.spot h.rest).rest ≡ [] = ap (λ (k : Here). k.rest) (sym (walked h.spot h.rest) ∙ is) in
    let same : pieces_from (with_rest h rest) ≡ pieces_from (at (spot_after h.rest h.spot) rest) = same_from (with_rest h rest) (at (spot_after h.rest h.spot) rest) (walked h.spot (h.rest ++ rest) ∙ through rest h.spot h.rest none ∙ sym (walked (spot_after h.rest h.spot) rest)) in
    same ∙ ap (λ ps. ps ++ pieces_from (at (spot_after h.rest h.spot) rest)) (sym (none_from h (at s []) is refl))

-- after what is read
joined_then : (rest : List ℕ) (h e : Here) (p : PlacedPiece) → next_piece h ≡ (Some p, e) → next_piece (with_rest h rest) ≡ (Some p, with_rest e rest) → IsJoined rest e → IsJoined rest h
joined_then rest h e p is next later =
    let x : Reaches h e = subst (λ (x : Option PlacedPiece × Here). Reaches h x.1) is (next_piece_reaches h) in
    let spot : spot_after h.rest h.spot ≡ spot_after e.rest e.spot = ap (λ r. spot_after r h.spot) x.parts ∙ passed-append x.front e.rest h.spot ∙ ap (spot_after e.rest) (sym x.spot) in
    pieces_step (with_rest h rest) ∙ ap pieces_by next ∙ ap (λ ps. p ∷ ps) later
    ∙ ap (λ u. p ∷ (pieces_from e ++ pieces_from (at u rest))) (sym spot)
    ∙ ap (λ ps. ps ++ pieces_from (at (spot_after h.rest h.spot) rest)) (sym (pieces_step h ∙ ap pieces_by is))

joined_below : (rest : List ℕ) (h e : Here) (p : PlacedPiece) → next_piece h ≡ (Some p, e) → e.spot.place < h.spot.place + length h.rest → next_piece (with_rest h rest) ≡ (Some p, with_rest e rest)
joined_below rest h e p is lt =
    let s = h.spot in
    let r = h.rest in
    let k = with_rest h rest in
    let limit = s.place + length r in
    let less : limit - s.place ≡ length r = omega arith in
    let alike : Alike limit h k = record { spot = refl; rest = ap (λ j. take j r) less ∙ take-length r ∙ sym (take-append_seam r rest) ∙ ap (λ j. take j (r ++ rest)) (sym less) } in
    let same : Same limit (Ok (Some p, e)) (next_one k) = subst (λ (x : Option PlacedPiece × Here). Same limit (Ok x) (next_one k)) is (next_piece_same limit h k alike) in
    let t = same.alike lt in
    let g = t.0 in
    let one : next_piece k ≡ (Some p, g) = cc t.1 in
    let to_e : Reaches h e = subst (λ (x : Option PlacedPiece × Here). Reaches h x.1) is (next_piece_reaches h) in
    let to_g : Reaches k g = subst (λ (x : Option PlacedPiece × Here). Reaches k x.1) one (next_piece_reaches k) in
    let spot : g.spot ≡ e.spot = t.2.spot in
    let f = to_e.front in
    let count : length to_g.front ≡ length f = omega (arith, ap (λ (s : Spot). s.place) to_g.spot, ap (λ (s : Spot). s.place) to_e.spot, ap (λ (s : Spot). s.place) spot) in
    let bytes : drop (length f) (r ++ rest) ≡ e.rest ++ rest = ap (λ l. drop (length f) (l ++ rest)) to_e.parts ∙ ap (drop (length f)) (append_assoc f e.rest rest) ∙ drop-append_seam f (e.rest ++ rest) in
    let left : g.rest ≡ e.rest ++ rest = sym (drop-append_seam to_g.front g.rest) ∙ ap (drop (length to_g.front)) (sym to_g.parts) ∙ ap (λ j. drop j (r ++ rest)) count ∙ bytes in
    one ∙ ap (λ u. (Some p, at u g.rest)) spot ∙ ap (λ l. (Some p, at e.spot l)) left

run_on_by : (v : Bool) (rest : List ℕ) (s : Spot) (b : ℕ) (bs : List ℕ) → is_text b ≡ v → (let c = cond v (past_run is_text (spot_after_byte b s) bs) (at s (b ∷ bs)) in 0 < length c.rest → (0 < length (past_run is_text (spot_after_byte b s) bs).rest → past_run is_text (spot_after_byte b s) (bs ++ rest) ≡ with_rest (past_run is_text (spot_after_byte b s) bs) rest) → past_run is_text s (b ∷ (bs ++ rest)) ≡ with_rest c rest)
run_on_by false rest s b bs is lt step = run_cons s b (bs ++ rest) ∙ ap (λ v. cond v (past_run is_text (spot_after_byte b s) (bs ++ rest)) (at s (b ∷ (bs ++ rest)))) is
run_on_by true rest s b bs is lt step = run_cons s b (bs ++ rest) ∙ ap (λ v. cond v (past_run is_text (spot_after_byte b s) (bs ++ rest)) (at s (b ∷ (bs ++ rest)))) is ∙ step lt

-- a run that ends inside a text ends at the same place if the text goes on
run_on : (rest : List ℕ) (s : Spot) (r : List ℕ) → 0 < length (past_run is_text s r).rest → past_run is_text s (r ++ rest) ≡ with_rest (past_run is_text s r) rest
unfolding past_run
run_on rest s [] lt = absurd (omega arith)
run_on rest s (b ∷ bs) lt = run_on_by (is_text b) rest s b bs refl lt (run_on rest (spot_after_byte b s) bs)

joined_at : (rest : List ℕ) (h a : Here) (b : ℕ) (bs : List ℕ) (i : Item) → after_run is_text h ≡ a → a.rest ≡ b ∷ bs → first a.rest ≡ Some 64 → (piece a.rest).0 ≡ pieces.Item i → i.fault ≡ None → (piece a.rest).1.rest ≡ [] → (let p = placed a.spot (piece a.rest) in next_piece (with_rest h rest) ≡ (Some p.0, with_rest p.1 rest))
joined_at rest h a b bs i is starts sign item faultless ends =
    let q = (piece a.rest).1 in
    let p = placed a.spot (piece a.rest) in
    let x = item_stands a.rest (piece a.rest) i item faultless (read_piece a.rest sign) in
    let t = x.text in
    let bytes : a.rest ≡ t = x.rest ∙ ap (λ l. t ++ l) ends ∙ append-nil t in
    let walked = past_is_run is_text in
    let way : past_run is_text h.spot h.rest ≡ a = sym (walked h.spot h.rest) ∙ is in
    let long : 0 < length (past_run is_text h.spot h.rest).rest = omega (arith, ap (λ (k : Here). length k.rest) way, ap length starts) in
    let found : after_run is_text (with_rest h rest) ≡ with_rest a rest = walked h.spot (h.rest ++ rest) ∙ run_on rest h.spot h.rest long ∙ ap (λ k. with_rest k rest) way in
    let step = step_from (with_rest h rest) (with_rest a rest) b (bs ++ rest) found (ap (λ l. l ++ rest) starts) in
    let read : piece (a.rest ++ rest) ≡ ((piece a.rest).0, at q.spot rest) = ap (λ l. piece (l ++ rest)) bytes ∙ spelled_items_are_read i t rest x.spelled ∙ ap (λ u. (pieces.Item i, at u rest)) (sym x.spot) ∙ ap (λ y. (y, at q.spot rest)) (sym item) in
    step ∙ ap (next_at a.spot) read ∙ ap (λ l. (Some p.0, at p.1.spot (l ++ rest))) (sym ends)

whole_end : (rest : List ℕ) (h a : Here) (b : ℕ) (bs : List ℕ) → after_run is_text h ≡ a → a.rest ≡ b ∷ bs → first a.rest ≡ Some 64 → (x : Piece × Here) → piece a.rest ≡ x → is_whole x.0 ≡ true → x.1.rest ≡ [] → next_piece (with_rest h rest) ≡ (Some (placed a.spot x).0, with_rest (placed a.spot x).1 rest)
whole_end rest h a b bs is starts sign (pieces.Comment, k) reads whole ends = absurd (false≢true whole)
whole_end rest h a b bs is starts sign (pieces.Item i, k) reads whole ends =
    joined_at rest h a b bs i is starts sign (ap (λ (x : Piece × Here). x.0) reads) (no_fault i.fault whole) (ap (λ (x : Piece × Here). x.1.rest) reads ∙ ends) ∙ ap (λ x. (Some (placed a.spot x).0, with_rest (placed a.spot x).1 rest)) reads

nothing_left : (r : List ℕ) → length r ≡ 0 → r ≡ []
nothing_left [] is = refl
nothing_left (b ∷ bs) is = absurd (omega (arith, is))

joined_by : (rest : List ℕ) (h : Here) (s : Spot) (r : List ℕ) → after_run is_text h ≡ at s r → Stops is_text r → list_all (lies_before (h.spot.place + length h.rest)) (pieces_from h) ≡ true → ((e : Here) → length e.rest < length h.rest → list_all (lies_before (e.spot.place + length e.rest)) (pieces_from e) ≡ true → IsJoined rest e) → IsJoined rest h
joined_by rest h s [] is stop all later = joined_none rest h s is
joined_by rest h s (b ∷ bs) is stop all later =
    let a = at s (b ∷ bs) in
    let x = piece a.rest in
    let e = (placed s x).1 in
    let p = (placed s x).0 in
    let limit = h.spot.place + length h.rest in
    let step = step_from h a b bs is refl in
    let less : length e.rest < length h.rest = subst (λ (x : Option PlacedPiece × Here). IsLess h (Ok x)) step (next_piece_less h) in
    let ahead : Reaches h e = subst (λ (x : Option PlacedPiece × Here). Reaches h x.1) step (next_piece_reaches h) in
    let sum = reaches_sum h e ahead in
    let these : pieces_from h ≡ p ∷ pieces_from e = pieces_step h ∙ ap pieces_by step in
    let both = and_parts (lies_before limit p) (list_all (lies_before limit) (pieces_from e)) (subst (λ ps. list_all (lies_before limit) ps ≡ true) these all) in
    let after : IsJoined rest e = later e less (subst (λ n. list_all (lies_before n) (pieces_from e) ≡ true) (sym sum) both.1) in
    elim (or_cases (nat_lt p.end.place limit) (is_whole p.piece && p.end.place == limit) both.0) [
      | inl v ↦ joined_then rest h e p step (joined_below rest h e p step (ltb-true p.end.place limit v)) after
      | inr v ↦
          (let two = and_parts (is_whole p.piece) (p.end.place == limit) v in
          let none : e.rest ≡ [] = nothing_left e.rest (omega (arith, sum, eqb-true p.end.place limit two.1)) in
          joined_then rest h e p step (whole_end rest h a b bs is refl (ap (λ b. Some b) (at_sign b stop)) x refl two.0 none) after)
    ]

joined_fuel : (fuel : ℕ) (rest : List ℕ) (h : Here) → length h.rest < fuel → list_all (lies_before (h.spot.place + length h.rest)) (pieces_from h) ≡ true → IsJoined rest h
joined_fuel zero rest h lt all = absurd (omega arith)
joined_fuel (suc fuel) rest h lt all =
    let a = after_run is_text h in
    joined_by rest h a.spot a.rest refl (past_stops is_text h) all (λ e less there. joined_fuel fuel rest e (omega arith) there)

-- a closed text at its place
closed_moved : (limit : ℕ) (m : Spot) (ps : List PlacedPiece) → list_all (lies_before limit) ps ≡ true → list_all (lies_before (limit + m.place)) (map (moved_piece m) ps) ≡ true
closed_moved limit m [] all = refl
closed_moved limit m (p ∷ ps) all =
    let both = and_parts (lies_before limit p) (list_all (lies_before limit) ps) all in
    and_from (lies_before (limit + m.place) (moved_piece m p)) (list_all (lies_before (limit + m.place)) (map (moved_piece m) ps)) (ended p.end (is_whole p.piece) both.0) (closed_moved limit m ps both.1)
  where
    ended : (end : Spot) (whole : Bool) → (nat_lt end.place limit || (whole && end.place == limit)) ≡ true → (nat_lt (end.place + m.place) (limit + m.place) || (whole && (end.place + m.place) == (limit + m.place))) ≡ true
    ended end whole h = elim (or_cases (nat_lt end.place limit) (whole && end.place == limit) h) [
      | inl v ↦ or_left (nat_lt (end.place + m.place) (limit + m.place)) (whole && (end.place + m.place) == (limit + m.place)) (lt-ltb (end.place + m.place) (limit + m.place) (omega (arith, ltb-true end.place limit v)))
      | inr v ↦
          (let two = and_parts whole (end.place == limit) v in
          or_right (nat_lt (end.place + m.place) (limit + m.place)) (whole && (end.place + m.place) == (limit + m.place)) (and_from whole ((end.place + m.place) == (limit + m.place)) two.0 (eq-eqb (end.place + m.place) (limit + m.place) (omega (arith, eqb-true end.place limit two.1)))))
    ]

joined_here : (s : Spot) (front rest : List ℕ) → start.line ≤ s.line → is_closed front ≡ true → pieces_from (at s (front ++ rest)) ≡ pieces_at s front ++ pieces_from (at (spot_after front s) rest)
unfolding pieces_of
joined_here s front rest le closed =
    let there = stands_moved s front le in
    let limit : length front + s.place ≡ s.place + length front = omega arith in
    let all = subst (λ n. list_all (lies_before n) (pieces_from (at s front)) ≡ true) limit (subst (λ ps. list_all (lies_before (length front + s.place)) ps ≡ true) there (closed_moved (length front) (offset s) (pieces_of front) closed)) in
    joined_fuel (suc (length front)) rest (at s front) (omega arith) all ∙ ap (λ ps. ps ++ pieces_from (at (spot_after front s) rest)) (sym there)

parts_join : (s : Spot) (parts : List (List ℕ)) → start.line ≤ s.line → AreClosed parts → pieces_from (at s (joined parts)) ≡ pieces_in_turn s parts
parts_join s [] le a = pieces_step (at s []) ∙ empty
  where
    empty : pieces_by (next_piece (at s [])) ≡ []
    empty = sym (pieces_step (at s [])) ∙ none_from (at s []) (at s []) (past_is_run is_text s [] ∙ run_nil s) refl
parts_join s (part ∷ []) le a = ap (λ l. pieces_from (at s l)) (append-nil part) ∙ sym (stands_moved s part le) ∙ sym (append-nil (pieces_at s part))
parts_join s (part ∷ next ∷ parts) le a =
    joined_here s part (joined (next ∷ parts)) le a.0 ∙ ap (λ ps. pieces_at s part ++ ps) (parts_join (spot_after part s) (next ∷ parts) (omega (arith, le)) a.1)

pub closed_parts_join : ClosedPartsJoin
unfolding pieces_of
closed_parts_join parts a = parts_join start parts (omega arith) a

-- ---- an edit inside a part

joined_apart : (before : List (List ℕ)) (part : List ℕ) (after : List (List ℕ)) → joined (before ++ part ∷ after) ≡ joined before ++ (part ++ joined after)
joined_apart [] part after = refl
joined_apart (p ∷ before) part after = ap (λ l. p ++ l) (joined_apart before part after) ∙ sym (append_assoc p (joined before) (part ++ joined after))

closed_with : (part other : List ℕ) (after : List (List ℕ)) → AreClosed (part ∷ after) → (is_closed other || is_empty after) ≡ true → AreClosed (other ∷ after)
closed_with part other [] a h = tt
closed_with part other (next ∷ after) a h = elim (or_cases (is_closed other) false h) [ inl is ↦ (is, a.1) | inr no_more ↦ absurd (false≢true no_more) ]

closed_still : (before : List (List ℕ)) (part other : List ℕ) (after : List (List ℕ)) → AreClosed (before ++ part ∷ after) → (is_closed other || is_empty after) ≡ true → AreClosed (before ++ other ∷ after)
closed_still [] part other after a h = closed_with part other after a h
closed_still (p ∷ []) part other after a h = (a.0, closed_with part other after a.1 h)
closed_still (p ∷ q ∷ before) part other after a h = (a.0, closed_still (q ∷ before) part other after a.1 h)

spliced : (front part other back : List ℕ) (begin end inserted : ℕ) → IsSplice part other begin end inserted → IsSplice (front ++ (part ++ back)) (front ++ (other ++ back)) (length front + begin) (length front + end) inserted
spliced front part other back begin end inserted x =
    let kept : take (length front + begin) (front ++ (part ++ back)) ≡ front ++ take begin part = take-append-add front (part ++ back) begin ∙ ap (λ l. front ++ l) (take-append-le begin part back (omega (arith, x.order, x.inside))) in
    let left : drop (length front + end) (front ++ (part ++ back)) ≡ drop end part ++ back = drop-append-add front (part ++ back) end ∙ drop-append-le end part back x.inside in
    record {
      order = omega (arith, x.order);
      inside = omega (arith, x.inside, length-append front (part ++ back), length-append part back);
      bytes = x.bytes;
      count = x.count;
      text =
          ap (λ l. front ++ (l ++ back)) x.text
          ∙ ap (λ l. front ++ l) (append_assoc (take begin part ++ x.bytes) (drop end part) back)
          ∙ sym (append_assoc front (take begin part ++ x.bytes) (drop end part ++ back))
          ∙ ap (λ l. l ++ (drop end part ++ back)) (sym (append_assoc front (take begin part) x.bytes))
          ∙ (λ j. (sym kept j ++ x.bytes) ++ sym left j);
    }

pub part_edit_stays : PartEditStays
part_edit_stays before part other after begin end inserted x a h =
    let closed = closed_still before part other after a h in
    record {
      splice = subst (λ l. IsSplice (joined (before ++ part ∷ after)) l (length (joined before) + begin) (length (joined before) + end) inserted) (sym (joined_apart before other after))
          (subst (λ l. IsSplice l (joined before ++ (other ++ joined after)) (length (joined before) + begin) (length (joined before) + end) inserted) (sym (joined_apart before part after))
          (spliced (joined before) part other (joined after) begin end inserted x));
      closed = closed;
      read = closed_parts_join (before ++ other ∷ after) closed;
    }
