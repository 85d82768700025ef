-- The fields of an entry on a text that is cut.
use Rattle.std.specs.Prelude.{◌==◌}
use Rattle.std.proofs.Common.{◌≡◌, ℕ, zero, suc, ◌<◌, ◌≤◌, Bool, true, false, cond, List, [], ◌∷◌, ◌++◌, length, Option, Some, None, Result, Ok, Err, refl, sym, ap, subst, ◌∙◌, arith, inl, inr}
use Rattle.std.proofs.lemmas.Bool.{cases_lt, eq-eqb}
use Rattle.bt_text.specs.ByteTests.{is_white}
use Rattle.bt_bib.specs.declared.spot.Spot.{Spot}
use Rattle.bt_bib.specs.declared.fault.ItemFault.{ItemFault}
use Rattle.bt_bib.specs.declared.fault.ItemFault.TheVariants.{ExpectedCommaOrClose}
use Rattle.bt_bib.specs.declared.item.Closing.{Closing}
use Rattle.bt_bib.specs.declared.item.Closing.TheVariants.{Brace, Parenthesis}
use Rattle.bt_bib.specs.declared.item.Field.{Field}
use Rattle.bt_bib.specs.Spot.{Here, at, spot_after_byte, after_byte}
use Rattle.bt_bib.specs.Stop.{Stop, ◌>>=◌}
use Rattle.bt_bib.specs.Scan.{first, after_white, closing_sign}
use Rattle.bt_bib.specs.Many.{all}
use Rattle.bt_bib.specs.Fields.{field, next_field}
use Rattle.bt_bib.specs.inner.Cases.{field_or_close, next_field_from}
use Rattle.bt_bib.proofs.ReachLemmas.{Reaches, reaches_self, reaches_then, reaches_place, white_reaches, Advances, Moves, field_advances, next_field_advances, many_moves}
use Rattle.bt_bib.proofs.ManyLemmas.{IsLess, gathers_more, gathers_none, gathers_err}
use Rattle.bt_bib.proofs.FieldLemmas.{next_field_less}
use Rattle.bt_bib.proofs.laws.CutLemmas.{cut, cut_here, first_cut, behind_cut, Begins, begins_as, Next, Fails, past_cut}
use Rattle.bt_bib.proofs.laws.FitLemmas.{AreBytes, bytes_append, Is, Fits}
use Rattle.bt_bib.proofs.laws.FitNameLemmas.{past_none, one_on, Later}
use Rattle.bt_bib.proofs.laws.FitPartLemmas.{Quiet, quiet_comma, quiet_close}
use Rattle.bt_bib.proofs.laws.FitValueLemmas.{field_fits, field_later}

-- the fields up to the entry's end
abbrev pub fields_end : Closing → Here → Result Here Stop
fields_end close h = (all (next_field close) h).1

end_none : (close : Closing) (h k : Here) → next_field close h ≡ Ok (None, k) → fields_end close h ≡ Ok k
end_none close h k is = ap (λ (x : List Field × Result Here Stop). x.1) (gathers_none (next_field close) (next_field_less close) [] h k is)

end_more : (close : Closing) (f : Field) (h k : Here) → next_field close h ≡ Ok (Some f, k) → fields_end close h ≡ fields_end close k
end_more close f h k is = ap (λ (x : List Field × Result Here Stop). x.1) (sym (gathers_more (next_field close) (next_field_less close) [] f h k is))

end_err : (close : Closing) (h : Here) (stop : Stop) → next_field close h ≡ Err stop → fields_end close h ≡ Err stop
end_err close h stop is = ap (λ (x : List Field × Result Here Stop). x.1) (gathers_err (next_field close) (next_field_less close) [] h stop is)

-- After a cut at e some bytes complete the fields and close the entry.
pub record Closes (close : Closing) (h e : Here) : Type 0 where
  pub more : List ℕ
  pub bytes : AreBytes more
  pub begins : e.spot.place ≤ h.spot.place → Begins (Is 44) more
  pub spot : Spot
  pub is : fields_end close (cut h e more) ≡ Ok (at spot [])

not_white : (close : Closing) → is_white (closing_sign close) ≡ false
not_white close = (quiet_close close).after_white

same_byte : (c : ℕ) → (c == c) ≡ true
same_byte c = eq-eqb c c refl

closes_field : (close : Closing) (s : Spot) → next_field close (at s (closing_sign close ∷ [])) ≡ Ok (None, at (spot_after_byte (closing_sign close) s) [])
unfolding next_field
closes_field Brace s = refl
closes_field Parenthesis s = refl

closes_comma : (close : Closing) (s : Spot) → next_field close (at s (44 ∷ closing_sign close ∷ [])) ≡ Ok (None, at (spot_after_byte (closing_sign close) (spot_after_byte 44 s)) [])
unfolding next_field
closes_comma Brace s = ap (λ w. field_or_close Brace w (first w.rest)) (past_none is_white (spot_after_byte 44 s) (125 ∷ []) (record { byte = 125; rest = []; is = refl; fits = refl }))
closes_comma Parenthesis s = ap (λ w. field_or_close Parenthesis w (first w.rest)) (past_none is_white (spot_after_byte 44 s) (41 ∷ []) (record { byte = 41; rest = []; is = refl; fits = refl }))

pub close_bytes : (close : Closing) → AreBytes (closing_sign close ∷ [])
close_bytes Brace = refl
close_bytes Parenthesis = refl

closes_here : (close : Closing) (h : Here) → Closes close h h
closes_here close h =
    let more : List ℕ = 44 ∷ closing_sign close ∷ [] in
    let end = at (spot_after_byte (closing_sign close) (spot_after_byte 44 h.spot)) [] in
    record {
      more = more;
      bytes = close_bytes close;
      begins = λ le. record { byte = 44; rest = closing_sign close ∷ []; is = refl; fits = refl };
      spot = end.spot;
      is = end_none close (cut h h more) end (ap (next_field close) (cut_here h h more (omega arith)) ∙ closes_comma close h.spot);
    }

-- after a comma and white space
enter : (close : Closing) (s : Spot) (b : ℕ) (bs : List ℕ) (e : Here) (more : List ℕ) → (b == closing_sign close) ≡ false → (b == 44) ≡ true → (let w = after_white (at (spot_after_byte b s) bs) in Reaches w e → Next (Fails is_white) w e more → next_field close (cut (at s (b ∷ bs)) e more) ≡ field_or_close close (cut w e more) (first (cut w e more).rest))
unfolding next_field
enter close s b bs e more other comma way next =
    let h = at s (b ∷ bs) in
    let g = at (spot_after_byte b s) bs in
    let w = after_white g in
    let lt : s.place < e.spot.place = omega (arith, reaches_place g w (white_reaches g), reaches_place w e way) in
    let all_way = reaches_then h g e (one_on s b bs) (reaches_then g w e (white_reaches g) way) in
    let inner : Here → Result (Option Field × Here) Stop = λ k. field_or_close close k (first k.rest) in
    ap (next_field_from close (cut h e more)) (first_cut h e more lt all_way)
    ∙ ap (λ v. cond v (Ok (None, after_byte (cut h e more))) (cond (b == 44) (inner (after_white (after_byte (cut h e more)))) (Err (ExpectedCommaOrClose, cut h e more)))) other
    ∙ ap (λ v. cond v (inner (after_white (after_byte (cut h e more)))) (Err (ExpectedCommaOrClose, cut h e more))) comma
    ∙ ap (λ k. inner (after_white k)) (behind_cut s b bs e more lt) ∙ ap inner (past_cut is_white g e more way next)

abbrev StepBy : Closing → Here → Result (Option Field × Here) Stop → Type 0
StepBy close h (Ok (None, k)) = Unit {0}
StepBy close h (Ok (Some f, k)) = (e : Here) (more : List ℕ) → Reaches k e → Next (Quiet close) k e more → next_field close (cut h e more) ≡ Ok (Some f, cut k e more)
StepBy close h (Err x) = Closes close h x.1

-- the next field is read before a cut, and the entry closed after one
record Step (close : Closing) (h : Here) (x : Result (Option Field × Here) Stop) : Type 0 where
  pub by : StepBy close h x

step_if : (close : Closing) (h : Here) (v : Bool) (x y : Result (Option Field × Here) Stop) → (v ≡ true → Step close h x) → (v ≡ false → Step close h y) → Step close h (cond v x y)
step_if close h true x y a b = a refl
step_if close h false x y a b = b refl

-- the first byte at a place in a text that is cut there or later
first_by : (w e : Here) (more : List ℕ) (test : ℕ → Bool) (c : ℕ) → first w.rest ≡ Some c → test c ≡ false → Reaches w e → (e.spot.place ≤ w.spot.place → Begins (Fails test) more) → (b : ℕ) × (first (cut w e more).rest ≡ Some b) × (test b ≡ false)
first_by w e more test c is fails way next = elim (cases_lt w.spot.place e.spot.place) [
  | inl lt ↦ (c, first_cut w e more lt way ∙ is, fails)
  | inr le ↦
      let b = next le in
      (b.byte, ap (λ (k : Here). first k.rest) (cut_here w e more le) ∙ ap first b.is, b.fits)
]

letter_apart : (close : Closing) → (97 == closing_sign close) ≡ false
letter_apart Brace = refl
letter_apart Parenthesis = refl

abbrev one_field : Closing → Here → Result (Option Field × Here) Stop
one_field close w = field close w >>= λ x. Ok (Some x.0, x.1)

-- no closing sign: a field
field_there : (close : Closing) (w e : Here) (more : List ℕ) (c : ℕ) → first w.rest ≡ Some c → (c == closing_sign close) ≡ false → Reaches w e → Next (Is 97) w e more → field_or_close close (cut w e more) (first (cut w e more).rest) ≡ one_field close (cut w e more)
field_there close w e more c is fails way next =
    let f = first_by w e more (λ b. b == closing_sign close) c is fails way (λ le. begins_as (λ b one. ap (λ n. n == closing_sign close) one ∙ letter_apart close) (next le)) in
    ap (field_or_close close (cut w e more)) f.1 ∙ ap (λ v. cond v (Ok (None, after_byte (cut w e more))) (one_field close (cut w e more))) f.2

letter_bare : (b : ℕ) → Is 97 b → is_white b ≡ false
letter_bare b is = ap is_white is

field_step : (close : Closing) (s : Spot) (b : ℕ) (bs : List ℕ) (c : ℕ) → (let h = at s (b ∷ bs) in let w = after_white (at (spot_after_byte b s) bs) in
    (b == closing_sign close) ≡ false → (b == 44) ≡ true → first w.rest ≡ Some c → (c == closing_sign close) ≡ false → (x : Result (Field × Here) Stop) → Advances w x → Later w x → Fits (Is 97) (Quiet close) w x (λ e more. field close (cut w e more)) → Step close h (x >>= λ x. Ok (Some x.0, x.1)))
field_step close s b bs c other comma is fails (Ok x) adv later fits =
    let h = at s (b ∷ bs) in
    let w = after_white (at (spot_after_byte b s) bs) in
    record {
      by = λ e more way next.
          let whole = reaches_then w x.1 e adv.ahead way in
          let lt : w.spot.place < e.spot.place = omega (arith, reaches_place x.1 e way) in
          enter close s b bs e more other comma whole (λ le. absurd (omega arith)) ∙ field_there close w e more c is fails whole (λ le. absurd (omega arith)) ∙ ap (λ (r : Result (Field × Here) Stop). r >>= λ x. Ok (Some x.0, x.1)) (fits.by e more way next);
    }
field_step close s b bs c other comma is fails (Err x) adv later fits =
    let h = at s (b ∷ bs) in
    let g = at (spot_after_byte b s) bs in
    let w = after_white g in
    let e = x.1 in
    let f = fits.by in
    let last : List ℕ = closing_sign close ∷ [] in
    let quiet : Begins (Quiet close) last = record { byte = closing_sign close; rest = []; is = refl; fits = quiet_close close } in
    let more = f.more ++ last in
    let r = f.reads last quiet in
    let end = at (spot_after_byte (closing_sign close) r.spot) [] in
    let begins : Next (Is 97) w e more = f.begins last quiet in
    let read : next_field close (cut h e more) ≡ Ok (Some r.value, at r.spot last) = enter close s b bs e more other comma adv.ahead (λ le. begins_as letter_bare (begins le)) ∙ field_there close w e more c is fails adv.ahead begins ∙ ap (λ (r : Result (Field × Here) Stop). r >>= λ x. Ok (Some x.0, x.1)) r.is in
    record {
      by = record {
        more = more;
        bytes = bytes_append f.more last f.bytes (close_bytes close);
        begins = λ le. absurd (omega (arith, reaches_place g w (white_reaches g), reaches_place w e adv.ahead));
        spot = end.spot;
        is = end_more close r.value (cut h e more) (at r.spot last) read ∙ end_none close (at r.spot last) end (closes_field close r.spot);
      };
    }

close_behind : (close : Closing) (w : Here) → field_or_close close (cut w w (closing_sign close ∷ [])) (first (cut w w (closing_sign close ∷ [])).rest) ≡ Ok (None, at (spot_after_byte (closing_sign close) w.spot) [])
close_behind close w =
    ap (λ (k : Here). field_or_close close k (first k.rest)) (cut_here w w (closing_sign close ∷ []) (omega arith)) ∙ ap (λ v. cond v (Ok (None, at (spot_after_byte (closing_sign close) w.spot) [])) (one_field close (at w.spot (closing_sign close ∷ [])))) (same_byte (closing_sign close))

comma_step : (close : Closing) (s : Spot) (b : ℕ) (bs : List ℕ) (o : Option ℕ) → (let h = at s (b ∷ bs) in let w = after_white (at (spot_after_byte b s) bs) in
    (b == closing_sign close) ≡ false → (b == 44) ≡ true → first w.rest ≡ o → Step close h (field_or_close close w o))
comma_step close s b bs None other comma is =
    let h = at s (b ∷ bs) in
    let g = at (spot_after_byte b s) bs in
    let w = after_white g in
    let more : List ℕ = closing_sign close ∷ [] in
    let end = at (spot_after_byte (closing_sign close) w.spot) [] in
    record {
      by = record {
        more = more;
        bytes = close_bytes close;
        begins = λ le. absurd (omega (arith, reaches_place g w (white_reaches g)));
        spot = end.spot;
        is = end_none close (cut h w more) end (enter close s b bs w more other comma (reaches_self w) (λ le. record { byte = closing_sign close; rest = []; is = refl; fits = not_white close }) ∙ close_behind close w);
      };
    }
comma_step close s b bs (Some c) other comma is =
    let h = at s (b ∷ bs) in
    let w = after_white (at (spot_after_byte b s) bs) in
    step_if close h (c == closing_sign close) (Ok (None, after_byte w)) (one_field close w) (λ _. record { by = tt }) (λ fails. field_step close s b bs c other comma is fails (field close w) (field_advances close w) (field_later close w) (field_fits close w))

next_step : (close : Closing) (s : Spot) (r : List ℕ) → Step close (at s r) (next_field close (at s r))
unfolding next_field
next_step close s [] = record { by = closes_here close (at s []) }
next_step close s (b ∷ bs) =
    let h = at s (b ∷ bs) in
    let w = after_white (at (spot_after_byte b s) bs) in
    step_if close h (b == closing_sign close) (Ok (None, at (spot_after_byte b s) bs)) _ (λ _. record { by = tt }) (λ other.
    step_if close h (b == 44) (field_or_close close w (first w.rest)) (Err (ExpectedCommaOrClose, h)) (λ comma. comma_step close s b bs (first w.rest) other comma refl) (λ _. record { by = closes_here close h }))

pub end_at : (close : Closing) (h e : Here) (f : ItemFault) → fields_end close h ≡ Err (f, e) → Reaches h e
end_at close h e f is =
    let m : Moves h (fields_end close h) = many_moves (next_field close) (next_field_advances close) (suc (length h.rest)) h in
    (subst (λ r. Moves h r) is m).ahead

closes_by : (close : Closing) (h e : Here) (f : ItemFault) (x : Result (Option Field × Here) Stop) → next_field close h ≡ x → fields_end close h ≡ Err (f, e) → Advances h x → IsLess h x → Step close h x → ((k : Here) → length k.rest < length h.rest → fields_end close k ≡ Err (f, e) → Closes close k e) → Closes close h e
closes_by close h e f (Err stop) is ends adv less step rest =
    let same : stop ≡ (f, e) = cc (sym (end_err close h stop is) ∙ ends) in
    subst (λ (s : Stop). Closes close h s.1) same step.by
closes_by close h e f (Ok (None, k)) is ends adv less step rest = absurd (cc (sym (end_none close h k is) ∙ ends))
closes_by close h e f (Ok (Some a, k)) is ends adv less step rest =
    let later = sym (end_more close a h k is) ∙ ends in
    let c = rest k less later in
    let read = step.by e c.more (end_at close k e f later) (λ le. begins_as (λ b comma. subst (Quiet close) (sym comma) (quiet_comma close)) (c.begins le)) in
    record { more = c.more; bytes = c.bytes; begins = λ le. c.begins (omega (arith, reaches_place h k adv.ahead)); spot = c.spot; is = end_more close a (cut h e c.more) (cut k e c.more) read ∙ c.is }

closes_below : (n : ℕ) (close : Closing) (h e : Here) (f : ItemFault) → length h.rest < n → fields_end close h ≡ Err (f, e) → Closes close h e
closes_below zero close h e f lt ends = absurd (omega arith)
closes_below (suc n) close h e f lt ends = closes_by close h e f (next_field close h) refl ends (next_field_advances close h) (next_field_less close h) (next_step close h.spot h.rest) (λ k less later. closes_below n close k e f (omega arith) later)

pub closes : (close : Closing) (h e : Here) (f : ItemFault) → fields_end close h ≡ Err (f, e) → Closes close h e
closes close h e f ends = closes_below (suc (length h.rest)) close h e f (omega arith) ends
