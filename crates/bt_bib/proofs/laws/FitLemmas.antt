-- Readers on a text that is cut: if they end before the cut, they read the same as without it, and if they stop at a
-- fault there, some bytes complete what they read.
use Rattle.std.specs.Prelude.{◌&&◌}
use Rattle.std.specs.List.{list_all}
use Rattle.std.proofs.Common.{◌≡◌, ℕ, ◌<◌, ◌≤◌, Bool, true, false, cond, List, [], ◌∷◌, ◌++◌, Result, Ok, Err, refl, sym, ap, subst, ◌∙◌, append_assoc, arith}
use Rattle.std.proofs.lemmas.Bool.{false≢true}
use Rattle.bt_bib.specs.declared.spot.Spot.{Spot}
use Rattle.bt_bib.specs.Spot.{Here, at}
use Rattle.bt_bib.specs.Stop.{Stop, ◌>>=◌}
use Rattle.bt_bib.specs.Scan.{after_run}
use Rattle.bt_bib.specs.laws.Laws.{is_byte}
use Rattle.bt_bib.proofs.ReachLemmas.{Reaches, reaches_place, reaches_then, past_reaches, Advances}
use Rattle.bt_bib.proofs.laws.CutLemmas.{cut, Begins, begins_as, Next, past_cut}

-- the first byte is this one; any byte; none
abbrev pub Is : ℕ → ℕ → Type 0
Is c b = b ≡ c

abbrev pub Any : ℕ → Type 0
Any b = Unit {0}

abbrev pub Never : ℕ → Type 0
Never b = ⊥

abbrev pub AreBytes : List ℕ → Type 0
AreBytes l = list_all is_byte l ≡ true

and_both : (v w u : Bool) → (v && w) ≡ true → (w ≡ true → u ≡ true) → (v && u) ≡ true
and_both true w u h k = k h
and_both false w u h k = absurd (false≢true h)

pub bytes_append : (front back : List ℕ) → AreBytes front → AreBytes back → AreBytes (front ++ back)
bytes_append [] back a b = b
bytes_append (x ∷ front) back a b = and_both (is_byte x) (list_all is_byte front) (list_all is_byte (front ++ back)) a (λ c. bytes_append front back c b)

-- Something is read, up to these bytes.
pub record Reads {A : Type 0} (tail : List ℕ) (r : Result (A × Here) Stop) : Type 0 where
  pub value : A
  pub spot : Spot
  pub is : r ≡ Ok (value, at spot tail)

-- After a cut at e some bytes complete what is read from h on, if bytes that begin with P follow them. If nothing of it
-- was read, they begin with S.
pub record Completes {A : Type 0} (S P : ℕ → Type 0) (h e : Here) (y : List ℕ → Result (A × Here) Stop) : Type 0 where
  pub more : List ℕ
  pub bytes : AreBytes more
  pub begins : (tail : List ℕ) → Begins P tail → e.spot.place ≤ h.spot.place → Begins S (more ++ tail)
  pub reads : (tail : List ℕ) → Begins P tail → Reads tail (y (more ++ tail))

abbrev pub FitsBy : {A : Type 0} → (ℕ → Type 0) → (ℕ → Type 0) → Here → Result (A × Here) Stop → (Here → List ℕ → Result (A × Here) Stop) → Type 0
FitsBy S P h (Ok x) y = (e : Here) (more : List ℕ) → Reaches x.1 e → Next P x.1 e more → y e more ≡ Ok (x.0, cut x.1 e more)
FitsBy S P h (Err x) y = Completes S P h x.1 (y x.1)

-- x is read from h on, and y if the text is cut
pub record Fits {A : Type 0} (S P : ℕ → Type 0) (h : Here) (x : Result (A × Here) Stop) (y : Here → List ℕ → Result (A × Here) Stop) : Type 0 where
  pub by : FitsBy S P h x y

pub fits_ok : {A : Type 0} (S P : ℕ → Type 0) (h k : Here) (a : A) (y : Here → List ℕ → Result (A × Here) Stop) → ((e : Here) (more : List ℕ) → Reaches k e → Next P k e more → y e more ≡ Ok (a, cut k e more)) → Fits S P h (Ok (a, k)) y
fits_ok S P h k a y on = record { by = on }

pub fits_if : {A : Type 0} (S P : ℕ → Type 0) (h : Here) (v : Bool) (x z : Result (A × Here) Stop) (y : Here → List ℕ → Result (A × Here) Stop) → (v ≡ true → Fits S P h x y) → (v ≡ false → Fits S P h z y) → Fits S P h (cond v x z) y
fits_if S P h true x z y a b = a refl
fits_if S P h false x z y a b = b refl

-- what ends after g and is continued from a place before the cut
pub fits_as : {A : Type 0} (S T P : ℕ → Type 0) (h g k : Here) (x : Result (A × Here) Stop) (y z : Here → List ℕ → Result (A × Here) Stop) → h.spot.place < g.spot.place → Advances g x → ((e : Here) (more : List ℕ) → Reaches g e → y e more ≡ z e more) → Fits T P k x z → Fits S P h x y
fits_as S T P h g k (Ok x) y z lt a same f = record { by = λ e more way next. same e more (reaches_then g x.1 e a.ahead way) ∙ f.by e more way next }
fits_as S T P h g k (Err x) y z lt a same f =
    let c = f.by in
    record {
      by = record {
        more = c.more;
        bytes = c.bytes;
        begins = λ tail b le. absurd (omega (arith, reaches_place g x.1 a.ahead));
        reads = λ tail b.
            let r = c.reads tail b in
            record { value = r.value; spot = r.spot; is = same x.1 (c.more ++ tail) a.ahead ∙ r.is };
      };
    }

-- after a run of bytes
pub fits_past : {A : Type 0} (S P : ℕ → Type 0) (test : ℕ → Bool) (h : Here) (x : Result (A × Here) Stop) (f : Here → Result (A × Here) Stop) → ((b : ℕ) → S b → test b ≡ false) → ((b : ℕ) → P b → test b ≡ false) → Advances (after_run test h) x → Fits S P (after_run test h) x (λ e more. f (cut (after_run test h) e more)) → Fits S P h x (λ e more. f (after_run test (cut h e more)))
fits_past S P test h (Ok x) f s p a fits = record {
  by = λ e more way next.
      ap f (past_cut test h e more (reaches_then (after_run test h) x.1 e a.ahead way) (λ le. begins_as p (next (omega (arith, reaches_place (after_run test h) x.1 a.ahead))))) ∙ fits.by e more way next;
}
fits_past S P test h (Err x) f s p a fits =
    let c = fits.by in
    record {
      by = record {
        more = c.more;
        bytes = c.bytes;
        begins = λ tail b le. c.begins tail b (omega (arith, reaches_place h (after_run test h) (past_reaches test h)));
        reads = λ tail b.
            let r = c.reads tail b in
            record { value = r.value; spot = r.spot; is = ap f (past_cut test h x.1 (c.more ++ tail) a.ahead (λ le. begins_as s (c.begins tail b le))) ∙ r.is };
      };
    }

-- what is read from k on, if the first reading continued there
pub fits_step : {A : Type 0} (P : ℕ → Type 0) (h k : Here) (x : Result (A × Here) Stop) (y z : Here → List ℕ → Result (A × Here) Stop) → Reaches h k → Advances k x → ((e : Here) (more : List ℕ) → Reaches k e → Next P k e more → y e more ≡ z e more) → Fits Never P k x z → Fits Never P h x y
fits_step P h k (Ok x) y z way a same f = record { by = λ e more go next. same e more (reaches_then k x.1 e a.ahead go) (λ le. next (omega (arith, reaches_place k x.1 a.ahead))) ∙ f.by e more go next }
fits_step P h k (Err x) y z way a same f =
    let c = f.by in
    record {
      by = record {
        more = c.more;
        bytes = c.bytes;
        begins = λ tail b le. c.begins tail b (omega (arith, reaches_place h k way));
        reads = λ tail b.
            let r = c.reads tail b in
            record { value = r.value; spot = r.spot; is = same x.1 (c.more ++ tail) a.ahead (λ le. absurd (c.begins tail b le).fits) ∙ r.is };
      };
    }

-- some bytes that can be read from any place on, if bytes that begin with Q follow them
pub record Starts {A B : Type 0} (P Q : ℕ → Type 0) (f : A × Here → Result (B × Here) Stop) : Type 0 where
  pub word : List ℕ
  pub bytes : AreBytes word
  pub begins : (tail : List ℕ) → Begins Q tail → Begins P (word ++ tail)
  pub reads : (a : A) (s : Spot) (tail : List ℕ) → Begins Q tail → Reads tail (f (a, at s (word ++ tail)))

-- one reader after the other
fits_then : {A B : Type 0} (S P T Q : ℕ → Type 0) (h k : Here) (a : A) (z : Result (B × Here) Stop) (y : Here → List ℕ → Result (A × Here) Stop) (f : A × Here → Result (B × Here) Stop) → Reaches h k → Advances k z → ((e : Here) (more : List ℕ) → Reaches k e → Next P k e more → y e more ≡ Ok (a, cut k e more)) → (k.spot.place ≤ h.spot.place → (b : ℕ) → T b → S b) → ((b : ℕ) → T b → P b) → ((b : B) (g : Here) → z ≡ Ok (b, g) → g.spot.place ≤ k.spot.place → (c : ℕ) → Q c → P c) → Fits T Q k z (λ e more. f (a, cut k e more)) → Fits S Q h z (λ e more. y e more >>= f)
fits_then S P T Q h k a (Ok x) y f way adv on late next last fits = record {
  by = λ e more go after.
      ap (λ r. r >>= f) (on e more (reaches_then k x.1 e adv.ahead go) (λ le. begins_as (last x.0 x.1 refl (omega (arith, reaches_place x.1 e go))) (after (omega (arith, reaches_place k x.1 adv.ahead))))) ∙ fits.by e more go after;
}
fits_then S P T Q h k a (Err x) y f way adv on late next last fits =
    let c = fits.by in
    record {
      by = record {
        more = c.more;
        bytes = c.bytes;
        begins = λ tail b le. begins_as (late (omega (arith, reaches_place k x.1 adv.ahead))) (c.begins tail b (omega (arith, reaches_place h k way)));
        reads = λ tail b.
            let r = c.reads tail b in
            record { value = r.value; spot = r.spot; is = ap (λ r. r >>= f) (on x.1 (c.more ++ tail) adv.ahead (λ le. begins_as next (c.begins tail b le))) ∙ r.is };
      };
    }

pub fits_bind : {A B : Type 0} (S P T Q : ℕ → Type 0) (h : Here) (x : Result (A × Here) Stop) (y : Here → List ℕ → Result (A × Here) Stop) (f : A × Here → Result (B × Here) Stop) → Advances h x → ((a : A × Here) → Advances a.1 (f a)) → ((a : A) (k : Here) → x ≡ Ok (a, k) → k.spot.place ≤ h.spot.place → (b : ℕ) → T b → S b) → ((b : ℕ) → T b → P b) → ((a : A × Here) (b : B) (g : Here) → f a ≡ Ok (b, g) → g.spot.place ≤ a.1.spot.place → (c : ℕ) → Q c → P c) → Starts P Q f → Fits S P h x y → ((a : A) (k : Here) → Fits T Q k (f (a, k)) (λ e more. f (a, cut k e more))) → Fits S Q h (x >>= f) (λ e more. y e more >>= f)
fits_bind S P T Q h (Ok x) y f adv ahead late next last word fits then = fits_then S P T Q h x.1 x.0 (f x) y f adv.ahead (ahead x) fits.by (late x.0 x.1 refl) next (last x) (then x.0 x.1)
fits_bind S P T Q h (Err x) y f adv ahead late next last word fits then =
    let c = fits.by in
    record {
      by = record {
        more = c.more ++ word.word;
        bytes = bytes_append c.more word.word c.bytes word.bytes;
        begins = λ tail b le. subst (Begins S) (sym (append_assoc c.more word.word tail)) (c.begins (word.word ++ tail) (word.begins tail b) le);
        reads = λ tail b.
            let one = c.reads (word.word ++ tail) (word.begins tail b) in
            let two = word.reads one.value one.spot tail b in
            record { value = two.value; spot = two.spot; is = ap (λ m. y x.1 m >>= f) (append_assoc c.more word.word tail) ∙ ap (λ r. r >>= f) one.is ∙ two.is };
      };
    }
