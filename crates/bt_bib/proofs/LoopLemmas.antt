-- What a loop of readings returns.
use Rattle.std.proofs.Common.{◌≡◌, ℕ, ◌-◌, ◌<◌, List, [], length, Option, Some, None, Result, Ok, sym, ap, subst, ◌∙◌, length-drop, arith}
use Rattle.bt_bib.specs.declared.spot.Spot.{Spot}
use Rattle.bt_bib.specs.declared.stop.ReadStop.{ReadStop}
use Rattle.bt_bib.specs.declared.stop.ReadStop.TheVariants.{OutOfMemory, Stopped}
use Rattle.bt_bib.specs.Spot.{Here, here}
use Rattle.bt_bib.specs.inner.Spot.{IsAhead}
use Rattle.bt_bib.specs.Stop.{Stop, ◌>>=◌}
use Rattle.bt_bib.specs.inner.Stop.{Stops, FillsTo}
use Rattle.bt_bib.specs.Many.{all, collected}
use Rattle.bt_bib.specs.inner.Many.{gathered}
use Rattle.bt_bib.proofs.ManyLemmas.{IsLess, gathers_none, gathers_err}

pub ahead_then : (text : List ℕ) (a b c : Spot) → IsAhead text a b → IsAhead text b c → IsAhead text a c
ahead_then text a b c x y = record { order = omega arith; place = y.place; line = y.line }

abbrev pub read_out : {A : Type 0} → List A × Result Here Stop → Result (List A × Here) Stop
read_out x = x.1 >>= λ e. Ok (x.0, e)

less_at : {A : Type 0} (h e : Here) (a : A) (r : Result (Option A × Here) Stop) → r ≡ Ok (Some a, e) → IsLess h r → length e.rest < length h.rest
less_at h e a r is less = subst (IsLess h) is less

-- the loop ends
pub goes_down : {A : Type 0} (next : Here → Result (Option A × Here) Stop) → ((h : Here) → IsLess h (next h)) → (text : List ℕ) (s e : Spot) (a : A) → next (here text s) ≡ Ok (Some a, here text e) → length text - e.place < length text - s.place
goes_down next less text s e a is = omega (arith, less_at (here text s) (here text e) a (next (here text s)) is (less (here text s)), length-drop e.place text, length-drop s.place text)

pub ends_none : {A : Type 0} (next : Here → Result (Option A × Here) Stop) → ((h : Here) → IsLess h (next h)) → (before front : List A) (text : List ℕ) (from s e : Spot) → gathered front (all next (here text s)) ≡ gathered before (all next (here text from)) → next (here text s) ≡ Ok (None, here text e) → collected before (all next (here text from)) ≡ Ok (front, here text e)
ends_none next less before front text from s e same is = ap read_out (sym same ∙ gathers_none next less front (here text s) (here text e) is)

pub ends_err : {A : Type 0} (next : Here → Result (Option A × Here) Stop) → ((h : Here) → IsLess h (next h)) → (before front : List A) (text : List ℕ) (from s : Spot) (e : ReadStop) → gathered front (all next (here text s)) ≡ gathered before (all next (here text from)) → IsAhead text from s → Stops text s e (next (here text s)) → Stops text from e (collected before (all next (here text from)))
ends_err next less before front text from s OutOfMemory same inside is = tt
ends_err next less before front text from s (Stopped fault k) same inside is = (ap read_out (sym same ∙ gathers_err next less front (here text s) (fault, here text k) is.0), ahead_then text from s k inside is.1)

pub all_none : {A : Type 0} (next : Here → Result (Option A × Here) Stop) → ((h : Here) → IsLess h (next h)) → (front : List A) (text : List ℕ) (from s e : Spot) → gathered front (all next (here text s)) ≡ gathered [] (all next (here text from)) → next (here text s) ≡ Ok (None, here text e) → all next (here text from) ≡ (front, Ok (here text e))
all_none next less front text from s e same is = sym same ∙ gathers_none next less front (here text s) (here text e) is

-- the same for a loop that appends to an existing list
pub fills_none : {A : Type 0} (next : Here → Result (Option A × Here) Stop) → ((h : Here) → IsLess h (next h)) → (before front : List A) (text : List ℕ) (from s e : Spot) → gathered front (all next (here text s)) ≡ gathered before (all next (here text from)) → next (here text s) ≡ Ok (None, here text e) → gathered before (all next (here text from)) ≡ (front, Ok (here text e))
fills_none next less before front text from s e same is = sym same ∙ gathers_none next less front (here text s) (here text e) is

pub fills_err : {A : Type 0} (next : Here → Result (Option A × Here) Stop) → ((h : Here) → IsLess h (next h)) → (before front : List A) (text : List ℕ) (from s : Spot) (halt : ReadStop) → gathered front (all next (here text s)) ≡ gathered before (all next (here text from)) → IsAhead text from s → Stops text s halt (next (here text s)) → FillsTo text from halt front (gathered before (all next (here text from)))
fills_err next less before front text from s OutOfMemory same inside is = tt
fills_err next less before front text from s (Stopped fault k) same inside is = (sym same ∙ gathers_err next less front (here text s) (fault, here text k) is.0, ahead_then text from s k inside is.1)
