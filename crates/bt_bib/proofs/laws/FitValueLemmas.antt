-- Values, and names with a value after them, on a text that is cut.
use Rattle.std.specs.Prelude.{◌==◌}
use Rattle.std.proofs.Common.{◌≡◌, ℕ, zero, suc, ◌<◌, ◌≤◌, Bool, true, false, cond, List, [], ◌∷◌, ◌++◌, length, Option, Some, None, Result, Ok, Err, refl, sym, ap, subst, ◌∙◌, arith, inl, inr}
use Rattle.std.proofs.lemmas.Bool.{cases_lt}
use Rattle.bt_text.specs.ByteTests.{is_white}
use Rattle.bt_bib.specs.declared.spot.Spot.{Spot}
use Rattle.bt_bib.specs.declared.fault.NameRole.{NameRole}
use Rattle.bt_bib.specs.declared.fault.NameRole.TheVariants.{FieldName}
use Rattle.bt_bib.specs.declared.fault.ItemFault.TheVariants.{ExpectedEquals}
use Rattle.bt_bib.specs.declared.item.Closing.{Closing}
use Rattle.bt_bib.specs.declared.item.Part.{Part}
use Rattle.bt_bib.specs.declared.item.Field.{Field}
use Rattle.bt_bib.specs.Spot.{Here, at, spot_after_byte, after_byte}
use Rattle.bt_bib.specs.Stop.{Stop, ◌>>=◌}
use Rattle.bt_bib.specs.Scan.{after_white, sign}
use Rattle.bt_bib.specs.inner.Cases.{sign_from, joined_from}
use Rattle.bt_bib.specs.Names.{name}
use Rattle.bt_bib.specs.Many.{all, collected}
use Rattle.bt_bib.specs.Values.{part, next_part, value}
use Rattle.bt_bib.specs.Fields.{field, name_ends}
use Rattle.bt_bib.proofs.ReachLemmas.{reaches_self, reaches_then, reaches_place, white_reaches, Advances, advances_ok, advances_bind, advances_white, moves_bind, name_advances, part_advances, joined_advances, value_advances, sign_moves, many_moves}
use Rattle.bt_bib.proofs.ManyLemmas.{IsLess, gathers_more, gathers_none, gathers_err}
use Rattle.bt_bib.proofs.LoopLemmas.{read_out}
use Rattle.bt_bib.proofs.FieldLemmas.{joined_less}
use Rattle.bt_bib.proofs.laws.CutLemmas.{cut, cut_here, first_cut, behind_cut, no_further, Begins, begins_as}
use Rattle.bt_bib.proofs.laws.FitLemmas.{Is, Never, Reads, Completes, Fits, fits_ok, fits_if, fits_as, fits_past, fits_step, fits_bind}
use Rattle.bt_bib.proofs.laws.FitNameLemmas.{EndsName, past_none, one_on, Later, later_is, later_ahead, later_then, name_later, name_fits}
use Rattle.bt_bib.proofs.laws.FitPartLemmas.{Quiet, digit_reads, part_fits}

-- another part
abbrev another : Closing → Here → Result (Option Part × Here) Stop
another close w = part close w >>= λ x. Ok (Some x.0, x.1)

another_fits : (close : Closing) (w : Here) → Fits (Is 49) (Quiet close) w (another close w) (λ e more. another close (cut w e more))
another_fits close w =
    let Q = Quiet close in
    let some : Part × Here → Result (Option Part × Here) Stop = λ x. Ok (Some x.0, x.1) in
    fits_bind (Is 49) Q Never Q w (part close w) (λ e more. part close (cut w e more)) some (part_advances close w) (λ x. advances_ok x.1 x.1 (Some x.0) (reaches_self x.1)) (λ a k is le b t. absurd t) (λ b t. absurd t) (λ a b g is le c q. q)
    (record { word = []; bytes = refl; begins = λ tail b. b; reads = λ a s tail b. record { value = Some a; spot = s; is = refl } }) (part_fits close w) (λ a k. fits_ok Never Q k k (Some a) _ (λ e more way next. refl))

another_advances : (close : Closing) (w : Here) → Advances w (another close w)
another_advances close w = advances_bind w (part close w) (λ x. Ok (Some x.0, x.1)) (part_advances close w) (λ x. advances_ok x.1 x.1 (Some x.0) (reaches_self x.1))

joined_none : (close : Closing) (s : Spot) (more : List ℕ) → Begins (Quiet close) more → next_part close (at s more) ≡ Ok (None, at s more)
unfolding next_part
joined_none close s more b = subst (λ m. next_part close (at s m) ≡ Ok (None, at s m)) (sym b.is) (ap (λ v. cond v (another close (after_white (at (spot_after_byte b.byte s) b.rest))) (Ok (None, at s (b.byte ∷ b.rest)))) b.fits.sharp)

joined_here : (close : Closing) (h e : Here) (more : List ℕ) → e.spot.place ≤ h.spot.place → Begins (Quiet close) more → next_part close (cut h e more) ≡ Ok (None, cut h e more)
joined_here close h e more le b =
    let one = cut_here h e more le in
    ap (next_part close) one ∙ joined_none close h.spot more b ∙ ap (λ k. Ok (None, k)) (sym one)

joined_fits_run : (close : Closing) (s : Spot) (r : List ℕ) → Fits Never (Quiet close) (at s r) (next_part close (at s r)) (λ e more. next_part close (cut (at s r) e more))
unfolding next_part
joined_fits_run close s [] = fits_ok Never (Quiet close) (at s []) (at s []) None _ (λ e more way next. (let le = no_further s e way in joined_here close (at s []) e more le (next le)))
joined_fits_run close s (b ∷ bs) =
    let Q = Quiet close in
    let h = at s (b ∷ bs) in
    let g = at (spot_after_byte b s) bs in
    let y : Here → List ℕ → Result (Option Part × Here) Stop = λ e more. next_part close (cut h e more) in
    let ahead : Advances g (another close (after_white g)) = advances_white g (another close (after_white g)) (another_advances close (after_white g)) in
    fits_if Never Q h (b == 35) (another close (after_white g)) (Ok (None, h)) y (λ is.
    fits_as Never (Is 49) Q h g g (another close (after_white g)) y (λ e more. another close (after_white (cut g e more))) (omega arith) ahead (λ e more way.
    let lt : s.place < e.spot.place = omega (arith, reaches_place g e way) in
    ap (joined_from close (cut h e more)) (first_cut h e more lt (reaches_then h g e (one_on s b bs) way)) ∙ ap (λ v. cond v (another close (after_white (after_byte (cut h e more)))) (Ok (None, cut h e more))) is ∙ ap (λ k. another close (after_white k)) (behind_cut s b bs e more lt))
    (fits_past (Is 49) Q is_white g (another close (after_white g)) (another close) (λ c is. ap is_white is) (λ c q. q.after_white) (another_advances close (after_white g)) (another_fits close (after_white g)))) (λ is.
    fits_ok Never Q h h None y (λ e more way next. elim (cases_lt s.place e.spot.place) [
      | inl lt ↦ ap (joined_from close (cut h e more)) (first_cut h e more lt way) ∙ ap (λ v. cond v (another close (after_white (after_byte (cut h e more)))) (Ok (None, cut h e more))) is
      | inr le ↦ joined_here close h e more le (next le)
    ]))

-- some parts, and the parts joined to them
abbrev parts : Closing → List Part → Here → Result (List Part × Here) Stop
parts close front h = collected front (all (next_part close) h)

parts_advances : (close : Closing) (front : List Part) (h : Here) → Advances h (parts close front h)
parts_advances close front h = moves_bind h (all (next_part close) h).1 (λ e. Ok (front ++ (all (next_part close) h).0, e)) (many_moves (next_part close) (joined_advances close) (suc (length h.rest)) h) (λ e. advances_ok e e _ (reaches_self e))

parts_none : (close : Closing) (front : List Part) (h k : Here) → next_part close h ≡ Ok (None, k) → parts close front h ≡ Ok (front, k)
parts_none close front h k is = ap read_out (gathers_none (next_part close) (joined_less close) front h k is)

parts_more : (close : Closing) (front : List Part) (p : Part) (h k : Here) → next_part close h ≡ Ok (Some p, k) → parts close front h ≡ parts close (front ++ p ∷ []) k
parts_more close front p h k is = ap read_out (sym (gathers_more (next_part close) (joined_less close) front p h k is))

parts_err : (close : Closing) (front : List Part) (h : Here) (stop : Stop) → next_part close h ≡ Err stop → parts close front h ≡ Err stop
parts_err close front h stop is = ap read_out (gathers_err (next_part close) (joined_less close) front h stop is)

parts_read : (close : Closing) (front : List Part) (k : Here) (s : Spot) (tail : List ℕ) (o : Option Part) → Begins (Quiet close) tail → next_part close k ≡ Ok (o, at s tail) → Reads tail (parts close front k)
parts_read close front k s tail None b is = record { value = front; spot = s; is = parts_none close front k (at s tail) is }
parts_read close front k s tail (Some p) b is = record { value = front ++ p ∷ []; spot = s; is = parts_more close front p k (at s tail) is ∙ parts_none close (front ++ p ∷ []) (at s tail) (at s tail) (joined_none close s tail b) }

parts_fits_by : (close : Closing) (front : List Part) (h : Here) (x : Result (Option Part × Here) Stop) → next_part close h ≡ x → Advances h x → IsLess h x → Fits Never (Quiet close) h x (λ e more. next_part close (cut h e more)) → ((longer : List Part) (k : Here) → length k.rest < length h.rest → Fits Never (Quiet close) k (parts close longer k) (λ e more. parts close longer (cut k e more))) → Fits Never (Quiet close) h (parts close front h) (λ e more. parts close front (cut h e more))
parts_fits_by close front h (Err stop) is adv less f step =
    let c = f.by in
    let y : Here → List ℕ → Result (List Part × Here) Stop = λ e more. parts close front (cut h e more) in
    subst (λ r. Fits Never (Quiet close) h r y) (sym (parts_err close front h stop is)) (record {
      by = record {
        more = c.more;
        bytes = c.bytes;
        begins = c.begins;
        reads = λ tail b. (let r = c.reads tail b in parts_read close front (cut h stop.1 (c.more ++ tail)) r.spot tail r.value b r.is);
      };
    })
parts_fits_by close front h (Ok (None, k)) is adv less f step =
    let y : Here → List ℕ → Result (List Part × Here) Stop = λ e more. parts close front (cut h e more) in
    subst (λ r. Fits Never (Quiet close) h r y) (sym (parts_none close front h k is)) (fits_ok Never (Quiet close) h k front y (λ e more way next. parts_none close front (cut h e more) (cut k e more) (f.by e more way next)))
parts_fits_by close front h (Ok (Some p, k)) is adv less f step =
    let y : Here → List ℕ → Result (List Part × Here) Stop = λ e more. parts close front (cut h e more) in
    let longer = front ++ p ∷ [] in
    subst (λ r. Fits Never (Quiet close) h r y) (sym (parts_more close front p h k is)) (fits_step (Quiet close) h k (parts close longer k) y (λ e more. parts close longer (cut k e more)) adv.ahead (parts_advances close longer k) (λ e more way next. parts_more close front p (cut h e more) (cut k e more) (f.by e more way next)) (step longer k less))

parts_fits_below : (n : ℕ) (close : Closing) (front : List Part) (h : Here) → length h.rest < n → Fits Never (Quiet close) h (parts close front h) (λ e more. parts close front (cut h e more))
parts_fits_below zero close front h lt = absurd (omega arith)
parts_fits_below (suc n) close front h lt = parts_fits_by close front h (next_part close h) refl (joined_advances close h) (joined_less close h) (joined_fits_run close h.spot h.rest) (λ longer k less. parts_fits_below n close longer k (omega arith))

pub value_fits : (close : Closing) (h : Here) → Fits (Is 49) (Quiet close) h (value close h) (λ e more. value close (cut h e more))
unfolding value
value_fits close h =
    let Q = Quiet close in
    fits_bind (Is 49) Q Never Q h (part close h) (λ e more. part close (cut h e more)) (λ x. parts close (x.0 ∷ []) x.1) (part_advances close h) (λ x. parts_advances close (x.0 ∷ []) x.1) (λ a k is le b t. absurd t) (λ b t. absurd t) (λ a b g is le c q. q)
    (record { word = []; bytes = refl; begins = λ tail b. b; reads = λ a s tail b. record { value = a ∷ []; spot = s; is = parts_none close (a ∷ []) (at s tail) (at s tail) (joined_none close s tail b) } }) (part_fits close h) (λ a k. parts_fits_below (suc (length k.rest)) close (a ∷ []) k (omega arith))

-- the value `1`
value_one : (close : Closing) (s : Spot) (tail : List ℕ) → Begins (Quiet close) tail → Reads tail (value close (at s (49 ∷ tail)))
unfolding value part
value_one close s tail b =
    let r = digit_reads close s tail b in
    let clear = past_none is_white r.spot tail (begins_as (λ c q. q.after_white) b) in
    let clean : Result (Part × Here) Stop → Result (Part × Here) Stop = λ x. x >>= λ x. Ok (x.0, after_white x.1) in
    let last : Part → Here → Result (List Part × Here) Stop = λ p k. parts close (p ∷ []) k in
    record {
      value = r.value ∷ [];
      spot = r.spot;
      is = ap (λ (x : Result (Part × Here) Stop). clean x >>= λ x. last x.0 x.1) r.is ∙ ap (last r.value) clear ∙ parts_none close (r.value ∷ []) (at r.spot tail) (at r.spot tail) (joined_none close r.spot tail b);
    }

-- a value after white space
abbrev behind_white : Closing → Here → Result (List Part × Here) Stop
behind_white close q = value close (after_white q)

white_advances : (close : Closing) (q : Here) → Advances q (behind_white close q)
white_advances close q = advances_white q (value close (after_white q)) (value_advances close (after_white q))

white_fits : (close : Closing) (q : Here) → Fits (Is 49) (Quiet close) q (behind_white close q) (λ e more. behind_white close (cut q e more))
white_fits close q = fits_past (Is 49) (Quiet close) is_white q (value close (after_white q)) (value close) (λ c is. ap is_white is) (λ c q. q.after_white) (value_advances close (after_white q)) (value_fits close (after_white q))

white_one : (close : Closing) (s : Spot) (tail : List ℕ) → Begins (Quiet close) tail → Reads tail (behind_white close (at s (49 ∷ tail)))
white_one close s tail b =
    let r = value_one close s tail b in
    record { value = r.value; spot = r.spot; is = ap (value close) (past_none is_white s (49 ∷ tail) (record { byte = 49; rest = tail; is = refl; fits = refl })) ∙ r.is }

-- What follows a `=`: it goes forward, reads a `1`, and fits.
pub record IsRight {A : Type 0} (close : Closing) (f : Here → Result (A × Here) Stop) : Type 0 where
  pub ahead : (q : Here) → Advances q (f q)
  pub one : (s : Spot) (tail : List ℕ) → Begins (Quiet close) tail → Reads tail (f (at s (49 ∷ tail)))
  pub fits : (q : Here) → Fits (Is 49) (Quiet close) q (f q) (λ e more. f (cut q e more))

pub white_right : (close : Closing) → IsRight close (behind_white close)
white_right close = record { ahead = white_advances close; one = white_one close; fits = white_fits close }

abbrev equals : {A : Type 0} → (Here → Result (A × Here) Stop) → Here → Result (A × Here) Stop
equals f h = sign 61 ExpectedEquals h >>= f

equals_advances : {A : Type 0} (close : Closing) (f : Here → Result (A × Here) Stop) (h : Here) → IsRight close f → Advances h (equals f h)
equals_advances close f h right = moves_bind h (sign 61 ExpectedEquals h) f (sign_moves 61 ExpectedEquals h) right.ahead

equals_reads : {A : Type 0} (close : Closing) (f : Here → Result (A × Here) Stop) (s : Spot) (tail : List ℕ) → IsRight close f → Begins (Quiet close) tail → Reads tail (equals f (at s (61 ∷ 49 ∷ tail)))
unfolding sign
equals_reads close f s tail right b =
    let r = right.one (spot_after_byte 61 s) tail b in
    record { value = r.value; spot = r.spot; is = r.is }

equals_missing : {A : Type 0} (close : Closing) (f : Here → Result (A × Here) Stop) (h : Here) → IsRight close f → Completes (Is 61) (Quiet close) h h (λ more. equals f (cut h h more))
equals_missing close f h right = record {
  more = 61 ∷ 49 ∷ [];
  bytes = refl;
  begins = λ tail b le. record { byte = 61; rest = 49 ∷ tail; is = refl; fits = refl };
  reads = λ tail b.
      let r = equals_reads close f h.spot tail right b in
      record { value = r.value; spot = r.spot; is = ap (equals f) (cut_here h h (61 ∷ 49 ∷ tail) (omega arith)) ∙ r.is };
}

equals_by : {A : Type 0} (close : Closing) (f : Here → Result (A × Here) Stop) (s : Spot) (b : ℕ) (bs : List ℕ) (v : Bool) → (b == 61) ≡ v → IsRight close f → (let h = at s (b ∷ bs) in Fits (Is 61) (Quiet close) h (cond v (Ok (at (spot_after_byte b s) bs)) (Err (ExpectedEquals, h)) >>= f) (λ e more. equals f (cut h e more)))
unfolding sign
equals_by close f s b bs true is right =
    let h = at s (b ∷ bs) in
    let g = at (spot_after_byte b s) bs in
    fits_as (Is 61) (Is 49) (Quiet close) h g g (f g) (λ e more. equals f (cut h e more)) (λ e more. f (cut g e more)) (omega arith) (right.ahead g) (λ e more way.
    let lt : s.place < e.spot.place = omega (arith, reaches_place g e way) in
    ap (λ o. sign_from 61 ExpectedEquals (cut h e more) o >>= f) (first_cut h e more lt (reaches_then h g e (one_on s b bs) way)) ∙ ap (λ v. cond v (Ok (after_byte (cut h e more))) (Err (ExpectedEquals, cut h e more)) >>= f) is ∙ ap f (behind_cut s b bs e more lt)) (right.fits g)
equals_by close f s b bs false is right = record { by = equals_missing close f (at s (b ∷ bs)) right }

equals_fits_run : {A : Type 0} (close : Closing) (f : Here → Result (A × Here) Stop) (s : Spot) (r : List ℕ) → IsRight close f → Fits (Is 61) (Quiet close) (at s r) (equals f (at s r)) (λ e more. equals f (cut (at s r) e more))
unfolding sign
equals_fits_run close f s [] right = record { by = equals_missing close f (at s []) right }
equals_fits_run close f s (b ∷ bs) right = equals_by close f s b bs (b == 61) refl right

equals_later_by : {A : Type 0} (close : Closing) (f : Here → Result (A × Here) Stop) (s : Spot) (b : ℕ) (bs : List ℕ) (v : Bool) → IsRight close f → Later (at s (b ∷ bs)) (cond v (Ok (at (spot_after_byte b s) bs)) (Err (ExpectedEquals, at s (b ∷ bs))) >>= f)
equals_later_by close f s b bs true right = later_ahead (at s (b ∷ bs)) (at (spot_after_byte b s) bs) (f (at (spot_after_byte b s) bs)) (omega arith) (right.ahead (at (spot_after_byte b s) bs))
equals_later_by close f s b bs false right = tt

equals_later : {A : Type 0} (close : Closing) (f : Here → Result (A × Here) Stop) (s : Spot) (r : List ℕ) → IsRight close f → Later (at s r) (equals f (at s r))
unfolding sign
equals_later close f s [] right = tt
equals_later close f s (b ∷ bs) right = equals_later_by close f s b bs (b == 61) right

-- `name = ..`
abbrev pub named : {A : Type 0} → NameRole → (List ℕ → Here → Result (A × Here) Stop) → Here → Result (A × Here) Stop
named what f h = name what name_ends h >>= λ n. sign 61 ExpectedEquals (after_white n.1) >>= f n.0

sign_ends : (b : ℕ) → Is 61 b → EndsName name_ends b
sign_ends b is = subst (EndsName name_ends) (sym is) (record { bare = refl; ends = refl })

pub named_fits : {A : Type 0} (close : Closing) (what : NameRole) (f : List ℕ → Here → Result (A × Here) Stop) (h : Here) → ((n : List ℕ) → IsRight close (f n)) → Fits (Is 97) (Quiet close) h (named what f h) (λ e more. named what f (cut h e more))
named_fits {A = A} close what f h right =
    let P = EndsName name_ends in
    let Q = Quiet close in
    let on : List ℕ × Here → Result (A × Here) Stop = λ n. sign 61 ExpectedEquals (after_white n.1) >>= f n.0 in
    let ahead : (n : List ℕ × Here) → Advances (after_white n.1) (on n) = λ n. equals_advances close (f n.0) (after_white n.1) (right n.0) in
    fits_bind (Is 97) P (Is 61) Q h (name what name_ends h) (λ e more. name what name_ends (cut h e more)) on (name_advances what name_ends h) (λ n. advances_white n.1 (on n) (ahead n)) (λ a k is le b t. absurd (omega (arith, later_is h (name what name_ends h) a k (name_later what name_ends h) is))) sign_ends
    (λ n b g is le c q. absurd (omega (arith, reaches_place n.1 (after_white n.1) (white_reaches n.1), later_is (after_white n.1) (on n) b g (equals_later close (f n.0) (after_white n.1).spot (after_white n.1).rest (right n.0)) is)))
    (record {
      word = 61 ∷ 49 ∷ [];
      bytes = refl;
      begins = λ tail b. record { byte = 61; rest = 49 ∷ tail; is = refl; fits = record { bare = refl; ends = refl } };
      reads = λ a s tail b.
          let r = equals_reads close (f a) s tail (right a) b in
          record { value = r.value; spot = r.spot; is = ap (equals (f a)) (past_none is_white s (61 ∷ 49 ∷ tail) (record { byte = 61; rest = 49 ∷ tail; is = refl; fits = refl })) ∙ r.is };
    }) (name_fits what name_ends h) (λ a k. fits_past (Is 61) Q is_white k (equals (f a) (after_white k)) (equals (f a)) (λ c is. ap is_white is) (λ c q. q.after_white) (ahead (a, k)) (equals_fits_run close (f a) (after_white k).spot (after_white k).rest (right a)))

named_later : {A : Type 0} (close : Closing) (what : NameRole) (f : List ℕ → Here → Result (A × Here) Stop) (h : Here) → ((n : List ℕ) → IsRight close (f n)) → Later h (named what f h)
named_later close what f h right = later_then h (name what name_ends h) (λ n. sign 61 ExpectedEquals (after_white n.1) >>= f n.0) (name_later what name_ends h) (λ n. advances_white n.1 (equals (f n.0) (after_white n.1)) (equals_advances close (f n.0) (after_white n.1) (right n.0)))

-- the value of a field, and the field with it
abbrev to_field : Closing → ℕ → List ℕ → Here → Result (Field × Here) Stop
to_field close line n q = value close (after_white q) >>= λ v. Ok (record { name = n; line = line; value = v.0 }, v.1)

field_right : (close : Closing) (line : ℕ) (n : List ℕ) → IsRight close (to_field close line n)
field_right close line n =
    let Q = Quiet close in
    let make : List Part × Here → Result (Field × Here) Stop = λ v. Ok (record { name = n; line = line; value = v.0 }, v.1) in
    record {
      ahead = λ q. advances_bind q (behind_white close q) make (white_advances close q) (λ v. advances_ok v.1 v.1 (record { name = n; line = line; value = v.0 }) (reaches_self v.1));
      one = λ s tail b.
          let r = white_one close s tail b in
          record { value = record { name = n; line = line; value = r.value }; spot = r.spot; is = ap (λ (x : Result (List Part × Here) Stop). x >>= make) r.is };
      fits = λ q. fits_bind (Is 49) Q Never Q q (behind_white close q) (λ e more. behind_white close (cut q e more)) make (white_advances close q) (λ v. advances_ok v.1 v.1 (record { name = n; line = line; value = v.0 }) (reaches_self v.1)) (λ a k is le b t. absurd t) (λ b t. absurd t) (λ a b g is le c q. q)
          (record { word = []; bytes = refl; begins = λ tail b. b; reads = λ a s tail b. record { value = record { name = n; line = line; value = a }; spot = s; is = refl } }) (white_fits close q) (λ a k. fits_ok Never Q k k (record { name = n; line = line; value = a }) _ (λ e more way next. refl));
    }

pub field_fits : (close : Closing) (h : Here) → Fits (Is 97) (Quiet close) h (field close h) (λ e more. field close (cut h e more))
unfolding field
field_fits close h = named_fits close FieldName (to_field close h.spot.line) h (field_right close h.spot.line)

pub field_later : (close : Closing) (h : Here) → Later h (field close h)
unfolding field
field_later close h = named_later close FieldName (to_field close h.spot.line) h (field_right close h.spot.line)
