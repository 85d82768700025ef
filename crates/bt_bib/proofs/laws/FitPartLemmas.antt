-- Enclosed text, parts and values on a text that is cut.
use Rattle.std.specs.Prelude.{◌==◌}
use Rattle.std.proofs.Common.{◌≡◌, ℕ, zero, suc, ◌+◌, ◌-◌, ◌<◌, false, cond, List, [], ◌∷◌, ◌++◌, Some, Result, Ok, Err, refl, sym, ap, subst, ◌∙◌, append_assoc, arith}
use Rattle.bt_text.specs.ByteTests.{is_white, is_digit, left_brace}
use Rattle.bt_text.specs.NameBytes.{is_name_byte}
use Rattle.bt_bib.specs.declared.spot.Spot.{Spot}
use Rattle.bt_bib.specs.declared.enclosure.Turn.{Turn}
use Rattle.bt_bib.specs.declared.enclosure.Turn.TheVariants as turns
use Rattle.bt_bib.specs.declared.fault.NameRole.TheVariants.{FieldPart}
use Rattle.bt_bib.specs.declared.fault.ItemFault.TheVariants.{UnbalancedBraces, MissingPart}
use Rattle.bt_bib.specs.declared.item.Closing.{Closing}
use Rattle.bt_bib.specs.declared.item.Closing.TheVariants.{Brace, Parenthesis}
use Rattle.bt_bib.specs.declared.item.Part.{Part}
use Rattle.bt_bib.specs.declared.item.Part.TheVariants.{Text, Macro}
use Rattle.bt_bib.specs.Spot.{Here, at, spot_after_byte, after_byte}
use Rattle.bt_bib.specs.Stop.{Stop, ◌>>=◌}
use Rattle.bt_bib.specs.Scan.{first, run, after_run, after_white, closing_sign}
use Rattle.bt_bib.specs.Enclosure.{enclosed}
use Rattle.bt_bib.specs.inner.Enclosure.{turn}
use Rattle.bt_bib.specs.Names.{name}
use Rattle.bt_bib.specs.Values.{part, part_ends}
use Rattle.bt_bib.specs.inner.Cases.{raw_part, part_from}
use Rattle.bt_bib.proofs.EnclosedLemmas.{between, taken, enclosed_run, enclosed_is_run, enclosed_cons}
use Rattle.bt_bib.proofs.ReachLemmas.{Reaches, reaches_self, reaches_then, reaches_place, behind_reaches, white_reaches, Moves, advances_ok, advances_bind, name_advances, enclosed_moves_run, enclosed_advances, raw_part_advances_from}
use Rattle.bt_bib.proofs.laws.CutLemmas.{cut, cut_here, cut_cons, first_cut, behind_cut, Begins, begins_as, past_cut, between_cut}
use Rattle.bt_bib.proofs.laws.FitLemmas.{AreBytes, bytes_append, Is, Any, Never, Reads, Completes, Fits, fits_ok, fits_if, fits_as, fits_bind}
use Rattle.bt_bib.proofs.laws.FitNameLemmas.{EndsName, past_one, past_none, past_behind, one_on, run_fits, name_fits, name_ahead}
use Rattle.bt_bib.proofs.laws.SpelledTextLemmas.{not_none}

-- The byte closes what is enclosed, and a right brace closes a brace in it.
pub record IsShut (c : ℕ) : Type 0 where
  pub byte : AreBytes (c ∷ [])
  pub shuts : turn c 0 c ≡ turns.Closes
  pub rises : (d : ℕ) → turn c (suc d) 125 ≡ turns.Goes d

one_up : (d : ℕ) → turns.Goes (suc d - 1) ≡ turns.Goes d
one_up d = let e : suc d - 1 ≡ d = omega arith in ap (λ n. turns.Goes n) e

pub braces_shut : IsShut 125
braces_shut = record { byte = refl; shuts = refl; rises = λ d. ap (λ v. cond v turns.Closes (cond v turns.Breaks (turns.Goes (suc d - 1)))) (not_none d) ∙ one_up d }

pub quotes_shut : IsShut 34
quotes_shut = record { byte = refl; shuts = refl; rises = λ d. ap (λ v. cond v turns.Breaks (turns.Goes (suc d - 1))) (not_none d) ∙ one_up d }

-- this many right braces
rights : ℕ → List ℕ
rights zero = []
rights (suc d) = 125 ∷ rights d

rights_bytes : (d : ℕ) → AreBytes (rights d)
unfolding rights
rights_bytes zero = refl
rights_bytes (suc d) = rights_bytes d

unwind : (c d : ℕ) (s : Spot) (tail : List ℕ) → IsShut c → (t : Spot) × (enclosed_run c d s (rights d ++ c ∷ tail) ≡ Ok (at t (c ∷ tail)))
unfolding rights
unwind c zero s tail shut = (s, enclosed_cons c 0 s c tail turns.Closes (sym shut.shuts))
unwind c (suc d) s tail shut =
    let u = unwind c d (spot_after_byte 125 s) tail shut in
    (u.0, enclosed_cons c (suc d) s 125 (rights d ++ c ∷ tail) (turns.Goes d) (sym (shut.rises d)) ∙ u.1)

abbrev EnclosesBy : ℕ → Result Here Stop → (Here → List ℕ → Result Here Stop) → Type 0
EnclosesBy c (Ok k) y = (e : Here) (more : List ℕ) → Reaches (after_byte k) e → (y e more ≡ Ok (cut k e more)) × (after_byte (cut k e more) ≡ cut (after_byte k) e more)
EnclosesBy c (Err x) y = (more : List ℕ) × AreBytes (more ++ c ∷ []) × ((tail : List ℕ) → (t : Spot) × (y x.1 (more ++ c ∷ tail) ≡ Ok (at t (c ∷ tail))))

-- The closing sign is found where it was, or some bytes before it complete the enclosed text.
pub record Encloses (c : ℕ) (x : Result Here Stop) (y : Here → List ℕ → Result Here Stop) : Type 0 where
  pub by : EnclosesBy c x y

encloses_as : (c : ℕ) (s : Spot) (g : Here) (x : Result Here Stop) (y z : Here → List ℕ → Result Here Stop) → s.place < g.spot.place → Moves g x → ((e : Here) (more : List ℕ) → s.place < e.spot.place → y e more ≡ z e more) → Encloses c x z → Encloses c x y
encloses_as c s g (Ok k) y z lt m same f = record {
  by = λ e more way.
      let r = f.by e more way in
      (same e more (omega (arith, reaches_place g k m.ahead, reaches_place k (after_byte k) (behind_reaches k), reaches_place (after_byte k) e way)) ∙ r.0, r.1);
}
encloses_as c s g (Err x) y z lt m same f = record {
  by = (f.by.0, f.by.1, λ tail. (let r = f.by.2 tail in (r.0, same x.1 (f.by.0 ++ c ∷ tail) (omega (arith, reaches_place g x.1 m.ahead)) ∙ r.1)));
}

encloses_none : (c d : ℕ) (s : Spot) (r : List ℕ) → IsShut c → (more : List ℕ) × AreBytes (more ++ c ∷ []) × ((tail : List ℕ) → (t : Spot) × (enclosed_run c d s (cut (at s r) (at s r) (more ++ c ∷ tail)).rest ≡ Ok (at t (c ∷ tail))))
encloses_none c d s r shut = (rights d, bytes_append (rights d) (c ∷ []) (rights_bytes d) shut.byte, λ tail. (let u = unwind c d s tail shut in (u.0, ap (λ (k : Here). enclosed_run c d s k.rest) (cut_here (at s r) (at s r) (rights d ++ c ∷ tail) (omega arith)) ∙ u.1)))

encloses_by : (c d : ℕ) (s : Spot) (b : ℕ) (bs : List ℕ) (t : Turn) → IsShut c → t ≡ turn c d b → ((n : ℕ) → Encloses c (enclosed_run c n (spot_after_byte b s) bs) (λ e more. enclosed_run c n (spot_after_byte b s) (cut (at (spot_after_byte b s) bs) e more).rest)) → Encloses c (elim t [
  | turns.Closes ↦ Ok (at s (b ∷ bs))
  | turns.Breaks ↦ Err (UnbalancedBraces, at s (b ∷ bs))
  | turns.Goes n ↦ enclosed_run c n (spot_after_byte b s) bs
]) (λ e more. enclosed_run c d s (cut (at s (b ∷ bs)) e more).rest)
encloses_by c d s b bs turns.Closes shut is step = record {
  by = λ e more way.
      let lt : s.place < e.spot.place = omega (arith, reaches_place (at (spot_after_byte b s) bs) e way) in
      let one = cut_cons s b bs e more lt in
      (ap (λ (k : Here). enclosed_run c d s k.rest) one ∙ enclosed_cons c d s b (cut (at (spot_after_byte b s) bs) e more).rest turns.Closes is ∙ ap (λ k. Ok k) (sym one), behind_cut s b bs e more lt);
}
encloses_by c d s b bs turns.Breaks shut is step = record { by = encloses_none c d s (b ∷ bs) shut }
encloses_by c d s b bs (turns.Goes n) shut is step = encloses_as c s (at (spot_after_byte b s) bs) (enclosed_run c n (spot_after_byte b s) bs) (λ e more. enclosed_run c d s (cut (at s (b ∷ bs)) e more).rest) (λ e more. enclosed_run c n (spot_after_byte b s) (cut (at (spot_after_byte b s) bs) e more).rest) (omega arith) (enclosed_moves_run c n (spot_after_byte b s) bs) (λ e more lt.
    ap (λ (k : Here). enclosed_run c d s k.rest) (cut_cons s b bs e more lt) ∙ enclosed_cons c d s b (cut (at (spot_after_byte b s) bs) e more).rest (turns.Goes n) is) (step n)

enclosed_fits : (c d : ℕ) (s : Spot) (r : List ℕ) → IsShut c → Encloses c (enclosed_run c d s r) (λ e more. enclosed_run c d s (cut (at s r) e more).rest)
unfolding enclosed_run
enclosed_fits c d s [] shut = record { by = encloses_none c d s [] shut }
enclosed_fits c d s (b ∷ bs) shut = encloses_by c d s b bs (turn c d b) shut refl (λ n. enclosed_fits c n (spot_after_byte b s) bs shut)

-- after a brace or quote, what it encloses and the closing sign
abbrev pub shut : ℕ → Here → Result (Part × Here) Stop
shut c h = enclosed c h >>= λ x. Ok (Text x.0, after_byte x.1)

abbrev shut_from : Here → Result Here Stop → Result (Part × Here) Stop
shut_from h r = taken h r >>= λ x. Ok (Text x.0, after_byte x.1)

shut_is : (c : ℕ) (h : Here) → shut c h ≡ shut_from h (enclosed_run c 0 h.spot h.rest)
shut_is c h = ap (λ (r : Result (List ℕ × Here) Stop). r >>= λ x. Ok (Text x.0, after_byte x.1)) (enclosed_is_run c h)

begins_any : (front : List ℕ) (c : ℕ) (tail : List ℕ) → Begins Any ((front ++ c ∷ []) ++ tail)
begins_any [] c tail = record { byte = c; rest = tail; is = refl; fits = tt }
begins_any (b ∷ front) c tail = record { byte = b; rest = (front ++ c ∷ []) ++ tail; is = refl; fits = tt }

shut_fits_by : (P : ℕ → Type 0) (c : ℕ) (h : Here) (r : Result Here Stop) (y : Here → List ℕ → Result Here Stop) → Moves h r → Encloses c r y → Fits Any P h (shut_from h r) (λ e more. shut_from (cut h e more) (y e more))
shut_fits_by P c h (Ok k) y m f = record {
  by = λ e more way next.
      let r = f.by e more way in
      ap (shut_from (cut h e more)) r.0 ∙ ap (λ t. Ok (Text t, after_byte (cut k e more))) (between_cut h k e more m.ahead (reaches_then k (after_byte k) e (behind_reaches k) way)) ∙ ap (λ u. Ok (Text (between h k), u)) r.1;
}
shut_fits_by P c h (Err x) y m f = record {
  by = record {
    more = f.by.0 ++ c ∷ [];
    bytes = f.by.1;
    begins = λ tail b le. begins_any f.by.0 c tail;
    reads = λ tail b.
        let r = f.by.2 tail in
        let all : List ℕ = f.by.0 ++ c ∷ tail in
        record {
          value = Text (between (cut h x.1 all) (at r.0 (c ∷ tail)));
          spot = spot_after_byte c r.0;
          is = ap (λ m. shut_from (cut h x.1 m) (y x.1 m)) (append_assoc f.by.0 (c ∷ []) tail) ∙ ap (shut_from (cut h x.1 all)) r.1;
        };
  };
}

shut_fits : (P : ℕ → Type 0) (c : ℕ) (h : Here) → IsShut c → Fits Any P h (shut c h) (λ e more. shut c (cut h e more))
shut_fits P c h is =
    let y : Here → List ℕ → Result (Part × Here) Stop = λ e more. shut_from (cut h e more) (enclosed_run c 0 h.spot (cut h e more).rest) in
    let one = shut_fits_by P c h (enclosed_run c 0 h.spot h.rest) (λ e more. enclosed_run c 0 h.spot (cut h e more).rest) (enclosed_moves_run c 0 h.spot h.rest) (enclosed_fits c 0 h.spot h.rest is) in
    let same : y ≡ (λ e more. shut c (cut h e more)) = λ i e more. sym (shut_is c (cut h e more)) i in
    subst (λ x. Fits Any P h x (λ e more. shut c (cut h e more))) (sym (shut_is c h)) (subst (λ z. Fits Any P h (shut_from h (enclosed_run c 0 h.spot h.rest)) z) same one)

-- a byte that ends a value: a comma or the sign that closes the item
pub record Quiet (close : Closing) (b : ℕ) : Type 0 where
  pub after_white : is_white b ≡ false
  pub digit : is_digit b ≡ false
  pub sharp : (b == 35) ≡ false
  pub name : EndsName (part_ends close) b

pub quiet_comma : (close : Closing) → Quiet close 44
quiet_comma close = record { after_white = refl; digit = refl; sharp = refl; name = record { bare = refl; ends = refl } }

pub quiet_close : (close : Closing) → Quiet close (closing_sign close)
quiet_close Brace = record { after_white = refl; digit = refl; sharp = refl; name = record { bare = refl; ends = refl } }
quiet_close Parenthesis = record { after_white = refl; digit = refl; sharp = refl; name = record { bare = refl; ends = refl } }

pub digit_reads : (close : Closing) (s : Spot) (tail : List ℕ) → Begins (Quiet close) tail → Reads tail (raw_part close (at s (49 ∷ tail)))
digit_reads close s tail b = record { value = Text (run is_digit (at s (49 ∷ tail))); spot = spot_after_byte 49 s; is = ap (λ k. Ok (Text (run is_digit (at s (49 ∷ tail))), k)) (past_one is_digit s 49 tail refl (begins_as (λ c q. q.digit) b)) }

part_missing : (close : Closing) (h : Here) → Completes (Is 49) (Quiet close) h h (λ more. raw_part close (cut h h more))
part_missing close h = record {
  more = 49 ∷ [];
  bytes = refl;
  begins = λ tail b le. record { byte = 49; rest = tail; is = refl; fits = refl };
  reads = λ tail b.
      let r = digit_reads close h.spot tail b in
      record { value = r.value; spot = r.spot; is = ap (raw_part close) (cut_here h h (49 ∷ tail) (omega arith)) ∙ r.is };
}

abbrev macro : Closing → Here → Result (Part × Here) Stop
macro close h = name FieldPart (part_ends close) h >>= λ n. Ok (Macro n.0 h.spot.line, n.1)

macro_fits : (close : Closing) (h : Here) → Fits (Is 97) (Quiet close) h (macro close h) (λ e more. macro close (cut h e more))
macro_fits close h =
    let signs = part_ends close in
    let make : List ℕ × Here → Result (Part × Here) Stop = λ n. Ok (Macro n.0 h.spot.line, n.1) in
    fits_bind (Is 97) (EndsName signs) Never (Quiet close) h (name FieldPart signs h) (λ e more. name FieldPart signs (cut h e more)) make (name_advances FieldPart signs h) (λ n. advances_ok n.1 n.1 (Macro n.0 h.spot.line) (reaches_self n.1)) (λ a k is le b t. absurd t) (λ b t. absurd t) (λ a b g is le c q. q.name)
    (record { word = []; bytes = refl; begins = λ tail b. begins_as (λ c q. q.name) b; reads = λ a s tail b. record { value = Macro a h.spot.line; spot = s; is = refl } }) (name_fits FieldPart signs h) (λ a k. fits_ok Never (Quiet close) k k (Macro a h.spot.line) _ (λ e more way next. refl))

raw_part_fits_run : (close : Closing) (s : Spot) (r : List ℕ) → Fits (Is 49) (Quiet close) (at s r) (raw_part close (at s r)) (λ e more. raw_part close (cut (at s r) e more))
raw_part_fits_run close s [] = record { by = part_missing close (at s []) }
raw_part_fits_run close s (b ∷ bs) =
    let S = Is 49 in
    let P = Quiet close in
    let h = at s (b ∷ bs) in
    let g = at (spot_after_byte b s) bs in
    let y : Here → List ℕ → Result (Part × Here) Stop = λ e more. raw_part close (cut h e more) in
    let lt : s.place < s.place + 1 = omega arith in
    let peek : (e : Here) (more : List ℕ) → Reaches g e → y e more ≡ part_from close (cut h e more) (Some b) = λ e more way. ap (part_from close (cut h e more)) (first_cut h e more (omega (arith, reaches_place g e way)) (reaches_then h g e (one_on s b bs) way)) in
    let digits : Here → Result (Part × Here) Stop = λ k. Ok (Text (run is_digit k), after_run is_digit k) in
    let shut_at : (c : ℕ) → IsShut c → ((e : Here) (more : List ℕ) → Reaches g e → y e more ≡ shut c (after_byte (cut h e more))) → Fits S P h (shut c g) y = λ c is same.
    fits_as S Any P h g g (shut c g) y (λ e more. shut c (cut g e more)) lt (advances_bind g (enclosed c g) (λ x. Ok (Text x.0, after_byte x.1)) (enclosed_advances c g) (λ x. advances_ok x.1 (after_byte x.1) (Text x.0) (behind_reaches x.1))) (λ e more way. same e more way ∙ ap (shut c) (behind_cut s b bs e more (omega (arith, reaches_place g e way)))) (shut_fits P c g is) in
    fits_if S P h (b == left_brace) (shut 125 g) _ y (λ is. shut_at 125 braces_shut (λ e more way. peek e more way ∙ rw is refl)) (λ not_left.
    fits_if S P h (b == 34) (shut 34 g) _ y (λ is. shut_at 34 quotes_shut (λ e more way. peek e more way ∙ rw (not_left, is) refl)) (λ not_quote.
    fits_if S P h (is_digit b) (digits h) _ y (λ is.
    fits_as S Never P h g h (digits h) y (λ e more. digits (cut h e more)) lt (advances_ok g (after_run is_digit h) (Text (run is_digit h)) (past_behind is_digit s b bs is)) (λ e more way. peek e more way ∙ rw (not_left, not_quote, is) refl) (run_fits is_digit P (λ n. Text n) h (λ c q. q.digit))) (λ not_digit.
    fits_if S P h (is_name_byte b) (macro close h) (Err (MissingPart, h)) y (λ is.
    fits_as S (Is 97) P h g h (macro close h) y (λ e more. macro close (cut h e more)) lt (advances_bind g (name FieldPart (part_ends close) h) (λ n. Ok (Macro n.0 h.spot.line, n.1)) (name_ahead FieldPart (part_ends close) s b bs is not_digit) (λ n. advances_ok n.1 n.1 (Macro n.0 h.spot.line) (reaches_self n.1))) (λ e more way. peek e more way ∙ rw (not_left, not_quote, not_digit, is) refl) (macro_fits close h)) (λ not_name. record { by = part_missing close h }))))

pub part_fits : (close : Closing) (h : Here) → Fits (Is 49) (Quiet close) h (part close h) (λ e more. part close (cut h e more))
unfolding part
part_fits close h =
    let Q = Quiet close in
    fits_bind (Is 49) Q Never Q h (raw_part close h) (λ e more. raw_part close (cut h e more)) (λ x. Ok (x.0, after_white x.1)) (raw_part_advances_from close h (first h.rest)) (λ x. advances_ok x.1 (after_white x.1) x.0 (white_reaches x.1)) (λ a k is le b t. absurd t) (λ b t. absurd t) (λ a b g is le c q. q)
    (record { word = []; bytes = refl; begins = λ tail b. b; reads = λ a s tail b. record { value = a; spot = s; is = ap (λ k. Ok (a, k)) (past_none is_white s tail (begins_as (λ c q. q.after_white) b)) } }) (raw_part_fits_run close h.spot h.rest) (λ a k. fits_ok Never Q k (after_white k) a _ (λ e more way next. ap (λ w. Ok (a, w)) (past_cut is_white k e more way (λ le. begins_as (λ c q. q.after_white) (next le)))))
