-- Words and names on a text that is cut.
use Rattle.std.specs.Prelude.{◌==◌, ◌&&◌, ◌||◌, not}
use Rattle.std.specs.List.{list_any}
use Rattle.std.proofs.Common.{◌≡◌, ℕ, ◌<◌, ◌≤◌, Bool, true, false, cond, List, [], ◌∷◌, Result, Ok, Err, refl, sym, ap, subst, ◌∙◌, arith, inl, inr}
use Rattle.std.proofs.lemmas.Bool.{cases_lt, false≢true}
use Rattle.bt_text.specs.ByteTests.{is_white, is_digit}
use Rattle.bt_text.specs.NameBytes.{is_name_byte}
use Rattle.bt_bib.specs.declared.spot.Spot.{Spot}
use Rattle.bt_bib.specs.declared.fault.NameRole.{NameRole}
use Rattle.bt_bib.specs.declared.fault.ItemFault.TheVariants.{MissingName, BadNameEnd}
use Rattle.bt_bib.specs.Spot.{Here, at, spot_after_byte}
use Rattle.bt_bib.specs.Stop.{Stop, ◌>>=◌}
use Rattle.bt_bib.specs.Scan.{run, after_run}
use Rattle.bt_bib.specs.Names.{word, name_ended, name}
use Rattle.bt_bib.specs.inner.Cases.{word_from, ended_from}
use Rattle.bt_bib.proofs.RunLemmas.{past_is_run, run_more}
use Rattle.bt_bib.proofs.ReachLemmas.{Reaches, reaches_self, reaches_then, reaches_place, behind_reaches, past_reaches, Advances, advances_ok, advances_bind, moves_bind, word_advances, ended_moves}
use Rattle.bt_bib.proofs.laws.CutLemmas.{cut, cut_here, first_cut, no_further, Begins, begins_as, Next, Fails, stops, past_cut, run_cut}
use Rattle.bt_bib.proofs.laws.FitLemmas.{Is, Never, Reads, Completes, Fits, fits_ok, fits_if, fits_as, fits_bind}

-- a byte that ends the word before it
abbrev pub Bare : ℕ → Type 0
Bare b = is_name_byte b ≡ false

pub and_first : (a b : Bool) → (a && b) ≡ true → a ≡ true
and_first true b h = refl
and_first false b h = absurd (false≢true h)

pub one_on : (s : Spot) (b : ℕ) (bs : List ℕ) → Reaches (at s (b ∷ bs)) (at (spot_after_byte b s) bs)
one_on s b bs = behind_reaches (at s (b ∷ bs))

pub past_behind : (test : ℕ → Bool) (s : Spot) (b : ℕ) (bs : List ℕ) → test b ≡ true → Reaches (at (spot_after_byte b s) bs) (after_run test (at s (b ∷ bs)))
past_behind test s b bs is = subst (λ e. Reaches (at (spot_after_byte b s) bs) e) (sym (past_is_run test s (b ∷ bs) ∙ run_more test s b bs is ∙ sym (past_is_run test (spot_after_byte b s) bs))) (past_reaches test (at (spot_after_byte b s) bs))

-- a run that one byte makes
pub past_one : (test : ℕ → Bool) (s : Spot) (b : ℕ) (tail : List ℕ) → test b ≡ true → Begins (Fails test) tail → after_run test (at s (b ∷ tail)) ≡ at (spot_after_byte b s) tail
past_one test s b tail is begins = past_is_run test s (b ∷ tail) ∙ run_more test s b tail is ∙ stops test (spot_after_byte b s) tail begins

pub past_none : (test : ℕ → Bool) (s : Spot) (tail : List ℕ) → Begins (Fails test) tail → after_run test (at s tail) ≡ at s tail
past_none test s tail begins = past_is_run test s tail ∙ stops test s tail begins

-- words
word_reads : (what : NameRole) (s : Spot) (tail : List ℕ) → Begins Bare tail → Reads tail (word what (at s (97 ∷ tail)))
unfolding word
word_reads what s tail b = record { value = run is_name_byte (at s (97 ∷ tail)); spot = spot_after_byte 97 s; is = ap (λ k. Ok (run is_name_byte (at s (97 ∷ tail)), k)) (past_one is_name_byte s 97 tail refl b) }

word_missing : (what : NameRole) (h : Here) → Completes (Is 97) Bare h h (λ more. word what (cut h h more))
word_missing what h = record {
  more = 97 ∷ [];
  bytes = refl;
  begins = λ tail b le. record { byte = 97; rest = tail; is = refl; fits = refl };
  reads = λ tail b.
      let r = word_reads what h.spot tail b in
      record { value = r.value; spot = r.spot; is = ap (word what) (cut_here h h (97 ∷ tail) (omega arith)) ∙ r.is };
}

pub run_fits : {A : Type 0} (test : ℕ → Bool) (P : ℕ → Type 0) (make : List ℕ → A) (h : Here) → ((b : ℕ) → P b → test b ≡ false) → Fits Never P h (Ok (make (run test h), after_run test h)) (λ e more. Ok (make (run test (cut h e more)), after_run test (cut h e more)))
run_fits test P make h sub = fits_ok Never P h (after_run test h) (make (run test h)) _ (λ e more way next.
    let stop : Next (Fails test) (after_run test h) e more = λ le. begins_as sub (next le) in
    ap (λ n. Ok (make n, after_run test (cut h e more))) (run_cut test h e more way stop) ∙ ap (λ k. Ok (make (run test h), k)) (past_cut test h e more way stop))

word_fits_run : (what : NameRole) (s : Spot) (r : List ℕ) → Fits (Is 97) Bare (at s r) (word what (at s r)) (λ e more. word what (cut (at s r) e more))
unfolding word
word_fits_run what s [] = record { by = word_missing what (at s []) }
word_fits_run what s (b ∷ bs) =
    let h = at s (b ∷ bs) in
    let g = at (spot_after_byte b s) bs in
    let found : List ℕ × Here = (run is_name_byte h, after_run is_name_byte h) in
    fits_if (Is 97) Bare h (is_name_byte b && not (is_digit b)) (Ok found) (Err (MissingName what, h)) (λ e more. word what (cut h e more)) (λ is.
    fits_as (Is 97) Never Bare h g h (Ok found) (λ e more. word what (cut h e more)) (λ e more. Ok (run is_name_byte (cut h e more), after_run is_name_byte (cut h e more))) (omega arith) (advances_ok g (after_run is_name_byte h) (run is_name_byte h) (past_behind is_name_byte s b bs (and_first (is_name_byte b) (not (is_digit b)) is))) (λ e more way.
    ap (word_from what (cut h e more)) (first_cut h e more (omega (arith, reaches_place g e way)) (reaches_then h g e (one_on s b bs) way)) ∙ ap (λ v. cond v (Ok (run is_name_byte (cut h e more), after_run is_name_byte (cut h e more))) (Err (MissingName what, cut h e more))) is) (run_fits is_name_byte Bare (λ n. n) h (λ b p. p))) (λ is. record { by = word_missing what h })

pub word_fits : (what : NameRole) (h : Here) → Fits (Is 97) Bare h (word what h) (λ e more. word what (cut h e more))
word_fits what h = word_fits_run what h.spot h.rest

-- what was read has at least one byte
abbrev pub Later : {A : Type 0} → Here → Result (A × Here) Stop → Type 0
Later h (Ok x) = h.spot.place < x.1.spot.place
Later h (Err x) = Unit {0}

pub later_is : {A : Type 0} (h : Here) (x : Result (A × Here) Stop) (a : A) (k : Here) → Later h x → x ≡ Ok (a, k) → h.spot.place < k.spot.place
later_is h x a k later is = subst (Later h) is later

pub later_ahead : {A : Type 0} (h g : Here) (x : Result (A × Here) Stop) → h.spot.place < g.spot.place → Advances g x → Later h x
later_ahead h g (Ok x) lt a = omega (arith, reaches_place g x.1 a.ahead)
later_ahead h g (Err x) lt a = tt

word_later_by : (what : NameRole) (s : Spot) (b : ℕ) (bs : List ℕ) (v : Bool) → (is_name_byte b && not (is_digit b)) ≡ v → Later (at s (b ∷ bs)) (cond v (Ok (run is_name_byte (at s (b ∷ bs)), after_run is_name_byte (at s (b ∷ bs)))) (Err (MissingName what, at s (b ∷ bs))))
word_later_by what s b bs true is = omega (arith, reaches_place (at (spot_after_byte b s) bs) (after_run is_name_byte (at s (b ∷ bs))) (past_behind is_name_byte s b bs (and_first (is_name_byte b) (not (is_digit b)) is)))
word_later_by what s b bs false is = tt

word_later : (what : NameRole) (s : Spot) (r : List ℕ) → Later (at s r) (word what (at s r))
unfolding word
word_later what s [] = tt
word_later what s (b ∷ bs) = word_later_by what s b bs (is_name_byte b && not (is_digit b)) refl

-- a byte that may follow a name
pub record EndsName (signs : List ℕ) (b : ℕ) : Type 0 where
  pub bare : is_name_byte b ≡ false
  pub ends : (is_white b || list_any (λ sign. sign == b) signs) ≡ true

pub ended_begins : (what : NameRole) (signs : List ℕ) (s : Spot) (more : List ℕ) → Begins (EndsName signs) more → name_ended what signs (at s more) ≡ Ok (at s more)
unfolding name_ended
ended_begins what signs s more b = subst (λ m. name_ended what signs (at s m) ≡ Ok (at s m)) (sym b.is) (ap (λ v. cond v (Ok (at s (b.byte ∷ b.rest))) (Err (BadNameEnd what b.byte, at s (b.byte ∷ b.rest)))) b.fits.ends)

pub ended_here : (what : NameRole) (signs : List ℕ) (h e : Here) (more : List ℕ) → e.spot.place ≤ h.spot.place → Begins (EndsName signs) more → name_ended what signs (cut h e more) ≡ Ok (cut h e more)
ended_here what signs h e more le b =
    let one = cut_here h e more le in
    ap (name_ended what signs) one ∙ ended_begins what signs h.spot more b ∙ ap (λ k. Ok k) (sym one)

pub ended_cut : (what : NameRole) (signs : List ℕ) (s : Spot) (b : ℕ) (bs : List ℕ) (e : Here) (more : List ℕ) → (is_white b || list_any (λ sign. sign == b) signs) ≡ true → Reaches (at s (b ∷ bs)) e → Next (EndsName signs) (at s (b ∷ bs)) e more → name_ended what signs (cut (at s (b ∷ bs)) e more) ≡ Ok (cut (at s (b ∷ bs)) e more)
unfolding name_ended
ended_cut what signs s b bs e more is way next =
    let h = at s (b ∷ bs) in
    elim (cases_lt s.place e.spot.place) [
      | inl lt ↦ ap (ended_from what signs (cut h e more)) (first_cut h e more lt way) ∙ ap (λ v. cond v (Ok (cut h e more)) (Err (BadNameEnd what b, cut h e more))) is
      | inr le ↦ ended_here what signs h e more le (next le)
    ]

ended_by : (what : NameRole) (signs a : List ℕ) (s : Spot) (b : ℕ) (bs : List ℕ) (v : Bool) → (is_white b || list_any (λ sign. sign == b) signs) ≡ v → (let h = at s (b ∷ bs) in Fits (EndsName signs) (EndsName signs) h (cond v (Ok h) (Err (BadNameEnd what b, h)) >>= λ end. Ok (a, end)) (λ e more. name_ended what signs (cut h e more) >>= λ end. Ok (a, end)))
ended_by what signs a s b bs true is = (let h = at s (b ∷ bs) in fits_ok (EndsName signs) (EndsName signs) h h a _ (λ e more way next. ap (λ r. r >>= λ end. Ok (a, end)) (ended_cut what signs s b bs e more is way next)))
ended_by what signs a s b bs false is =
    let h = at s (b ∷ bs) in
    record {
      by = record {
        more = [];
        bytes = refl;
        begins = λ tail b le. b;
        reads = λ tail b. record { value = a; spot = s; is = ap (λ k. name_ended what signs k >>= λ end. Ok (a, end)) (cut_here h h tail (omega arith)) ∙ ap (λ r. r >>= λ end. Ok (a, end)) (ended_begins what signs s tail b) };
      };
    }

ended_fits : (what : NameRole) (signs a : List ℕ) (s : Spot) (r : List ℕ) → Fits (EndsName signs) (EndsName signs) (at s r) (name_ended what signs (at s r) >>= λ end. Ok (a, end)) (λ e more. name_ended what signs (cut (at s r) e more) >>= λ end. Ok (a, end))
unfolding name_ended
ended_fits what signs a s [] = fits_ok (EndsName signs) (EndsName signs) (at s []) (at s []) a _ (λ e more way next. (let le = no_further s e way in ap (λ r. r >>= λ end. Ok (a, end)) (ended_here what signs (at s []) e more le (next le))))
ended_fits what signs a s (b ∷ bs) = ended_by what signs a s b bs (is_white b || list_any (λ sign. sign == b) signs) refl

ended_moves_on : (what : NameRole) (signs : List ℕ) (w : List ℕ × Here) → Advances w.1 (name_ended what signs w.1 >>= λ end. Ok (w.0, end))
ended_moves_on what signs w = moves_bind w.1 (name_ended what signs w.1) (λ end. Ok (w.0, end)) (ended_moves what signs w.1) (λ e. advances_ok e e w.0 (reaches_self e))

pub name_fits : (what : NameRole) (signs : List ℕ) (h : Here) → Fits (Is 97) (EndsName signs) h (name what signs h) (λ e more. name what signs (cut h e more))
unfolding name
name_fits what signs h =
    let Q = EndsName signs in
    let f : List ℕ × Here → Result (List ℕ × Here) Stop = λ w. name_ended what signs w.1 >>= λ end. Ok (w.0, end) in
    fits_bind (Is 97) Bare Q Q h (word what h) (λ e more. word what (cut h e more)) f (word_advances what h) (ended_moves_on what signs) (λ a k is le b t. absurd (omega (arith, later_is h (word what h) a k (word_later what h.spot h.rest) is))) (λ b q. q.bare) (λ a b g is le c q. q.bare)
    (record { word = []; bytes = refl; begins = λ tail b. begins_as (λ c q. q.bare) b; reads = λ a s tail b. record { value = a; spot = s; is = ap (λ r. r >>= λ end. Ok (a, end)) (ended_begins what signs s tail b) } }) (word_fits what h) (λ a k. ended_fits what signs a k.spot k.rest)

pub later_then : {A B : Type 0} (h : Here) (x : Result (A × Here) Stop) (f : A × Here → Result (B × Here) Stop) → Later h x → ((a : A × Here) → Advances a.1 (f a)) → Later h (x >>= f)
later_then h (Ok x) f later ahead = later_ahead h x.1 (f x) later (ahead x)
later_then h (Err x) f later ahead = tt

pub name_later : (what : NameRole) (signs : List ℕ) (h : Here) → Later h (name what signs h)
unfolding name
name_later what signs h = later_then h (word what h) (λ w. name_ended what signs w.1 >>= λ end. Ok (w.0, end)) (word_later what h.spot h.rest) (ended_moves_on what signs)

pub name_ahead : (what : NameRole) (signs : List ℕ) (s : Spot) (b : ℕ) (bs : List ℕ) → is_name_byte b ≡ true → is_digit b ≡ false → Advances (at (spot_after_byte b s) bs) (name what signs (at s (b ∷ bs)))
unfolding name word
name_ahead what signs s b bs is starts =
    let h = at s (b ∷ bs) in
    let g = at (spot_after_byte b s) bs in
    let f : List ℕ × Here → Result (List ℕ × Here) Stop = λ w. name_ended what signs w.1 >>= λ end. Ok (w.0, end) in
    let both : (is_name_byte b && not (is_digit b)) ≡ true = ap (λ v. v && not (is_digit b)) is ∙ ap (λ v. not v) starts in
    let read : Advances g (Ok (run is_name_byte h, after_run is_name_byte h) >>= f) = advances_bind g (Ok (run is_name_byte h, after_run is_name_byte h)) f (advances_ok g (after_run is_name_byte h) (run is_name_byte h) (past_behind is_name_byte s b bs is)) (ended_moves_on what signs) in
    subst (λ v. Advances g (cond v (Ok (run is_name_byte h, after_run is_name_byte h)) (Err (MissingName what, h)) >>= f)) (sym both) read
