-- Values and fields are read alike, too.
use Rattle.std.specs.Prelude.{◌==◌}
use Rattle.std.proofs.Common.{◌≡◌, ℕ, zero, suc, ◌<◌, List, [], ◌∷◌, ◌++◌, length, Option, Some, None, Result, Ok, Err, refl, sym, ap, subst, arith}
use Rattle.bt_bib.specs.declared.spot.Spot.{Spot}
use Rattle.bt_bib.specs.declared.fault.NameRole.TheVariants.{FieldName}
use Rattle.bt_bib.specs.declared.fault.ItemFault.TheVariants.{EndOfFile, ExpectedEquals, ExpectedCommaOrClose}
use Rattle.bt_bib.specs.declared.item.Closing.{Closing}
use Rattle.bt_bib.specs.declared.item.Part.{Part}
use Rattle.bt_bib.specs.declared.item.Field.{Field}
use Rattle.bt_bib.specs.Spot.{Here, after_byte}
use Rattle.bt_bib.specs.Stop.{Stop, ◌>>=◌}
use Rattle.bt_bib.specs.Scan.{first, after_white, sign, closing_sign}
use Rattle.bt_bib.specs.Names.{name}
use Rattle.bt_bib.specs.Many.{all, collected}
use Rattle.bt_bib.specs.Values.{part, next_part, value}
use Rattle.bt_bib.specs.Fields.{field, next_field, name_ends}
use Rattle.bt_bib.specs.inner.Cases.{field_or_close, next_field_from, many_by, joined_from}
use Rattle.bt_bib.proofs.ReachLemmas.{reaches_self, reaches_place, Advances, Moves, advances_bind, advances_ok, advances_white, moves_bind, sign_moves, part_advances, joined_advances, joined_advances_from, value_advances, field_or_close_advances, next_field_advances_from, many_moves}
use Rattle.bt_bib.proofs.ManyLemmas.{IsLess, all_is}
use Rattle.bt_bib.proofs.FieldLemmas.{joined_less}
use Rattle.bt_bib.proofs.AlikeLemmas.{Alike, alike_behind, alike_first, alike_past}
use Rattle.bt_bib.proofs.SameLemmas.{Same, same_ok, same_err, same_when, same_if, same_bind, find_bind, name_same, sign_same, part_same}

-- what was read up to an end is read alike
abbrev pub ReadsAlike : {X : Type 0} → ℕ → X × Result Here Stop → X × Result Here Stop → Type 0
ReadsAlike limit (x, Ok e) y = e.spot.place < limit → (k : Here) × (y ≡ (x, Ok k)) × Alike limit e k
ReadsAlike limit (x, Err s) y = s.1.spot.place < limit → (k : Here) × (y ≡ (x, Err (s.0, k))) × Alike limit s.1 k

pub record SameRead {X : Type 0} (limit : ℕ) (x y : X × Result Here Stop) : Type 0 where
  pub alike : ReadsAlike limit x y

pub read_when : {X : Type 0} (limit : ℕ) (h : Here) (x y : X × Result Here Stop) → Moves h x.1 → (h.spot.place < limit → SameRead limit x y) → SameRead limit x y
read_when limit h (xs, Ok e) y r s = record { alike = λ lt. (s (omega (arith, reaches_place h e r.ahead))).alike lt }
read_when limit h (xs, Err e) y r s = record { alike = λ lt. (s (omega (arith, reaches_place h e.1 r.ahead))).alike lt }

all_cons : {A : Type 0} (limit : ℕ) (a : A) (x y : List A × Result Here Stop) → SameRead limit x y → SameRead limit (a ∷ x.0, x.1) (a ∷ y.0, y.1)
all_cons {A = A} limit a (xs, Ok e) y s = record { alike = λ lt. (let t = s.alike lt in (t.0, ap (λ (z : List A × Result Here Stop). (a ∷ z.0, z.1)) t.1, t.2)) }
all_cons {A = A} limit a (xs, Err e) y s = record { alike = λ lt. (let t = s.alike lt in (t.0, ap (λ (z : List A × Result Here Stop). (a ∷ z.0, z.1)) t.1, t.2)) }

by_alike : {A : Type 0} (limit : ℕ) (later : Here → List A × Result Here Stop) (h : Here) (r q : Result (Option A × Here) Stop) → Same limit r q → IsLess h r → ((e : Here) → Moves e (later e).1) → ((e k : Here) → length e.rest < length h.rest → Alike limit e k → SameRead limit (later e) (later k)) → SameRead limit (many_by later r) (many_by later q)
by_alike limit later h (Err x) q s less ahead step = record { alike = λ lt. (let t = s.alike lt in (t.0, ap (many_by later) t.1, t.2)) }
by_alike limit later h (Ok (None, e)) q s less ahead step = record { alike = λ lt. (let t = s.alike lt in (t.0, ap (many_by later) t.1, t.2)) }
by_alike limit later h (Ok (Some a, e)) q s less ahead step =
    read_when limit e (a ∷ (later e).0, (later e).1) (many_by later q) (ahead e) (λ lt.
    let t = s.alike lt in
    subst (λ z. SameRead limit (a ∷ (later e).0, (later e).1) z) (sym (ap (many_by later) t.1)) (all_cons limit a (later e) (later t.0) (step e t.0 less t.2)))

all_alike_below : {A : Type 0} (limit : ℕ) (next : Here → Result (Option A × Here) Stop) → ((h : Here) → IsLess h (next h)) → ((h : Here) → Advances h (next h)) → ((h k : Here) → Alike limit h k → Same limit (next h) (next k)) → (n : ℕ) (h k : Here) → length h.rest < n → Alike limit h k → SameRead limit (all next h) (all next k)
all_alike_below limit next less adv same zero h k lt a = absurd (omega arith)
all_alike_below limit next less adv same (suc n) h k lt a =
    let one = by_alike limit (all next) h (next h) (next k) (same h k a) (less h) (λ e. many_moves next adv (suc (length e.rest)) e) (λ e g below b. all_alike_below limit next less adv same n e g (omega arith) b) in
    subst (λ z. SameRead limit z (all next k)) (sym (all_is next less h)) (subst (λ z. SameRead limit (many_by (all next) (next h)) z) (sym (all_is next less k)) one)

pub all_alike : {A : Type 0} (limit : ℕ) (next : Here → Result (Option A × Here) Stop) → ((h : Here) → IsLess h (next h)) → ((h : Here) → Advances h (next h)) → ((h k : Here) → Alike limit h k → Same limit (next h) (next k)) → (h k : Here) → Alike limit h k → SameRead limit (all next h) (all next k)
all_alike limit next less adv same h k a = all_alike_below limit next less adv same (suc (length h.rest)) h k (omega arith) a

collected_alike : {A : Type 0} (limit : ℕ) (front : List A) (x y : List A × Result Here Stop) → SameRead limit x y → Same limit (collected front x) (collected front y)
collected_alike limit front (xs, Ok e) y s = record { alike = λ lt. (let t = s.alike lt in (t.0, ap (collected front) t.1, t.2)) }
collected_alike limit front (xs, Err e) y s = record { alike = λ lt. (let t = s.alike lt in (t.0, ap (collected front) t.1, t.2)) }

-- after one byte, white space and one after the other
white_alike : {A : Type 0} (limit : ℕ) (h k : Here) (r : Here → Result (A × Here) Stop) → Alike limit h k → ((e : Here) → Advances e (r e)) → ((e g : Here) → Alike limit e g → Same limit (r e) (r g)) → Same limit (r (after_white h)) (r (after_white k))
white_alike limit h k r a adv same = same_when limit (after_white h) (r (after_white h)) (r (after_white k)) (adv (after_white h)) (λ lt. same (after_white h) (after_white k) (alike_past limit _ h k a lt))

joined_same_from : (limit : ℕ) (close : Closing) (h k : Here) (o : Option ℕ) → h.spot.place < limit → Alike limit h k → Same limit (joined_from close h o) (joined_from close k o)
joined_same_from limit close h k None lt a = same_ok limit None None h k refl (λ _. a)
joined_same_from limit close h k (Some b) lt a =
    let read : Here → Result (Option Part × Here) Stop = λ e. part close e >>= λ x. Ok (Some x.0, x.1) in
    let adv : (e : Here) → Advances e (read e) = λ e. advances_bind e (part close e) (λ x. Ok (Some x.0, x.1)) (part_advances close e) (λ x. advances_ok x.1 x.1 (Some x.0) (reaches_self x.1)) in
    let next = white_alike limit (after_byte h) (after_byte k) read (alike_behind limit h k lt a) adv (λ e g c. same_bind limit (part close e) (part close g) (λ x. Ok (Some x.0, x.1)) (λ x. Ok (Some x.0, x.1)) (part_same limit close e g c) (λ x. advances_ok x.1 x.1 (Some x.0) (reaches_self x.1)) (λ x p q d is. same_ok limit (Some x) (Some x) p q refl (λ _. d))) in
    same_if limit (b == 35) _ _ _ _ next (same_ok limit None None h k refl (λ _. a))

pub joined_same : (limit : ℕ) (close : Closing) (h k : Here) → Alike limit h k → Same limit (next_part close h) (next_part close k)
unfolding next_part
joined_same limit close h k a = same_when limit h (joined_from close h (first h.rest)) (joined_from close k (first k.rest)) (joined_advances_from close h (first h.rest)) (λ lt.
    subst (λ o. Same limit (joined_from close h (first h.rest)) (joined_from close k o)) (sym (alike_first limit h k lt a)) (joined_same_from limit close h k (first h.rest) lt a))

value_rest_advances : (close : Closing) (x : Part × Here) → Advances x.1 (collected (x.0 ∷ []) (all (next_part close) x.1))
value_rest_advances close x = moves_bind x.1 (all (next_part close) x.1).1 (λ e. Ok ((x.0 ∷ []) ++ (all (next_part close) x.1).0, e)) (many_moves (next_part close) (joined_advances close) (suc (length x.1.rest)) x.1) (λ e. advances_ok e e ((x.0 ∷ []) ++ (all (next_part close) x.1).0) (reaches_self e))

pub value_same : (limit : ℕ) (close : Closing) (h k : Here) → Alike limit h k → Same limit (value close h) (value close k)
unfolding value
value_same limit close h k a = same_bind limit (part close h) (part close k) (λ x. collected (x.0 ∷ []) (all (next_part close) x.1)) (λ x. collected (x.0 ∷ []) (all (next_part close) x.1)) (part_same limit close h k a) (value_rest_advances close) (λ x e g c is.
    collected_alike limit (x ∷ []) (all (next_part close) e) (all (next_part close) g) (all_alike limit (next_part close) (joined_less close) (joined_advances close) (joined_same limit close) e g c))

-- the parts of a field's reading
abbrev valued : Closing → List ℕ → ℕ → Here → Result (Field × Here) Stop
valued close n line e = value close e >>= λ v. Ok (record { name = n; line = line; value = v.0 }, v.1)

abbrev equalled : Closing → List ℕ → ℕ → Here → Result (Field × Here) Stop
equalled close n line e = sign 61 ExpectedEquals e >>= λ q. valued close n line (after_white q)

valued_advances : (close : Closing) (n : List ℕ) (line : ℕ) (e : Here) → Advances e (valued close n line e)
valued_advances close n line e = advances_bind e (value close e) (λ v. Ok (record { name = n; line = line; value = v.0 }, v.1)) (value_advances close e) (λ v. advances_ok v.1 v.1 _ (reaches_self v.1))

equalled_advances : (close : Closing) (n : List ℕ) (line : ℕ) (e : Here) → Advances e (equalled close n line e)
equalled_advances close n line e = moves_bind e (sign 61 ExpectedEquals e) (λ q. valued close n line (after_white q)) (sign_moves 61 ExpectedEquals e) (λ q. advances_white q _ (valued_advances close n line (after_white q)))

valued_same : (limit : ℕ) (close : Closing) (n : List ℕ) (line : ℕ) (h k : Here) → Alike limit h k → Same limit (valued close n line h) (valued close n line k)
valued_same limit close n line h k a = same_bind limit (value close h) (value close k) (λ v. Ok (record { name = n; line = line; value = v.0 }, v.1)) (λ v. Ok (record { name = n; line = line; value = v.0 }, v.1)) (value_same limit close h k a) (λ v. advances_ok v.1 v.1 _ (reaches_self v.1)) (λ v e g c is.
    same_ok limit (record { name = n; line = line; value = v }) (record { name = n; line = line; value = v }) e g refl (λ _. c))

equalled_same : (limit : ℕ) (close : Closing) (n : List ℕ) (line : ℕ) (h k : Here) → Alike limit h k → Same limit (equalled close n line h) (equalled close n line k)
equalled_same limit close n line h k a = find_bind limit (sign 61 ExpectedEquals h) (sign 61 ExpectedEquals k) (λ q. valued close n line (after_white q)) (λ q. valued close n line (after_white q)) (sign_same limit 61 ExpectedEquals h k a) (λ q. advances_white q _ (valued_advances close n line (after_white q))) (λ q g c is.
    same_when limit (after_white q) (valued close n line (after_white q)) (valued close n line (after_white g)) (valued_advances close n line (after_white q)) (λ lt. valued_same limit close n line (after_white q) (after_white g) (alike_past limit _ q g c lt)))

pub field_same : (limit : ℕ) (close : Closing) (h k : Here) → Alike limit h k → Same limit (field close h) (field close k)
unfolding field
field_same limit close h k a = same_bind limit (name FieldName name_ends h) (name FieldName name_ends k) (λ n. equalled close n.0 h.spot.line (after_white n.1)) (λ n. equalled close n.0 k.spot.line (after_white n.1)) (name_same limit FieldName name_ends h k a) (λ n. advances_white n.1 _ (equalled_advances close n.0 h.spot.line (after_white n.1))) (λ n e g c is.
    subst (λ line. Same limit (equalled close n h.spot.line (after_white e)) (equalled close n line (after_white g))) (sym (ap (λ (s : Spot). s.line) a.spot)) (same_when limit (after_white e) (equalled close n h.spot.line (after_white e)) (equalled close n h.spot.line (after_white g)) (equalled_advances close n h.spot.line (after_white e)) (λ lt. equalled_same limit close n h.spot.line (after_white e) (after_white g) (alike_past limit _ e g c lt))))

field_or_close_same : (limit : ℕ) (close : Closing) (h k : Here) (o : Option ℕ) → h.spot.place < limit → Alike limit h k → Same limit (field_or_close close h o) (field_or_close close k o)
field_or_close_same limit close h k None lt a = same_err limit EndOfFile h k (λ _. a)
field_or_close_same limit close h k (Some b) lt a =
    let next = same_bind limit (field close h) (field close k) (λ x. Ok (Some x.0, x.1)) (λ x. Ok (Some x.0, x.1)) (field_same limit close h k a) (λ x. advances_ok x.1 x.1 (Some x.0) (reaches_self x.1)) (λ x e g c is. same_ok limit (Some x) (Some x) e g refl (λ _. c)) in
    same_if limit (b == closing_sign close) _ _ _ _ (same_ok limit None None (after_byte h) (after_byte k) refl (λ _. alike_behind limit h k lt a)) next

next_field_same_from : (limit : ℕ) (close : Closing) (h k : Here) (o : Option ℕ) → h.spot.place < limit → Alike limit h k → Same limit (next_field_from close h o) (next_field_from close k o)
next_field_same_from limit close h k None lt a = same_err limit EndOfFile h k (λ _. a)
next_field_same_from limit close h k (Some b) lt a =
    let w = after_white (after_byte h) in
    let v = after_white (after_byte k) in
    let comma = same_when limit w (field_or_close close w (first w.rest)) (field_or_close close v (first v.rest)) (field_or_close_advances close w (first w.rest)) (λ below.
    let c = alike_past limit _ (after_byte h) (after_byte k) (alike_behind limit h k lt a) below in
    subst (λ o. Same limit (field_or_close close w (first w.rest)) (field_or_close close v o)) (sym (alike_first limit w v below c)) (field_or_close_same limit close w v (first w.rest) below c)) in
    same_if limit (b == closing_sign close) _ _ _ _ (same_ok limit None None (after_byte h) (after_byte k) refl (λ _. alike_behind limit h k lt a)) (same_if limit (b == 44) _ _ _ _ comma (same_err limit ExpectedCommaOrClose h k (λ _. a)))

pub next_field_same : (limit : ℕ) (close : Closing) (h k : Here) → Alike limit h k → Same limit (next_field close h) (next_field close k)
unfolding next_field
next_field_same limit close h k a = same_when limit h (next_field_from close h (first h.rest)) (next_field_from close k (first k.rest)) (next_field_advances_from close h (first h.rest)) (λ lt.
    subst (λ o. Same limit (next_field_from close h (first h.rest)) (next_field_from close k o)) (sym (alike_first limit h k lt a)) (next_field_same_from limit close h k (first h.rest) lt a))
