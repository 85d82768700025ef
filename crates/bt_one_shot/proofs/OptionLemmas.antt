-- What the parser finds in words, and what it is read as.
use Rattle.std.proofs.Common.{◌≡◌, ◌∙◌, ap, sym, refl, subst, arith, ℕ, Bool, true, false, List, [], Option, Some, None, Result, Ok, Err}
use Rattle.std.specs.Prelude.{option_map, unwrap_or, if◌then◌else◌}
use Rattle.std.specs.Borrow.{Bor}
use Rattle.std.specs.Str.Parse.{ParsesUnsigned, digits_value, without_leading_plus}
use Rattle.clap.specs.Words.{App, Row, Text, first_value, first_of, rows_of, is_simple, matches_of, ReadsOne}
use Rattle.clap.specs.ValueTests.{is_unsigned_in}
use Rattle.clap.specs.declared.builder.value_parser.ValueParser.TheVariants as vp
use Rattle.clap.specs.Faults.{fault_of, is_simple_and_free}
use Rattle.clap.specs.Kinds.{HasKind}
use Rattle.clap.specs.declared.error.Error.{Error}
use Rattle.clap.specs.declared.parser.matches.Found.{Found}
use Rattle.clap.proofs.WalkLemmas.{first_value-rows}
use Rattle.clap.proofs.ValueTestLemmas.{accepts-Accepts, Accepts-accepts}
use Rattle.bt_one_shot.specs.Words.{command_line, faults_of, asked, asked_by, min_of}

-- The command line

is_simple_line : is_simple command_line ≡ true
is_simple_line = refl

is_free_line : is_simple_and_free command_line ≡ true
is_free_line = refl

pub fault_kinds : (words : List Text) (a : App) (e : Error) → a ≡ command_line → (is_simple_and_free a ≡ true → HasKind (fault_of a words) e) → HasKind (faults_of words) e
unfolding faults_of
fault_kinds words a e is kinds = subst (λ (b : App). HasKind (fault_of b words) e) is (kinds (ap is_simple_and_free is ∙ is_free_line))

pub no_faults : (words : List Text) (a : App) → a ≡ command_line → (is_simple_and_free a ≡ true → fault_of a words ≡ []) → faults_of words ≡ []
unfolding faults_of
no_faults words a is kinds = subst (λ (b : App). fault_of b words ≡ []) is (kinds (ap is_simple_and_free is ∙ is_free_line))

pub asked_rows : (words : List Text) (a : App) (rows : List Row) → a ≡ command_line → (is_simple a ≡ true → rows ≡ matches_of a words) → asked words ≡ asked_by rows
unfolding asked
asked_rows words a rows is found = ap asked_by (sym (found (ap is_simple is ∙ is_simple_line) ∙ ap (λ (b : App). matches_of b words) is))

-- What is read of a match

pub read_first : (f : Found) (id : Text) (o : Option Text) → o ≡ first_value f id → first_of id (rows_of f) ≡ o
read_first f id o is = sym (first_value-rows f id) ∙ sym is

pub text_or : (o : Option (Bor Text)) (d : Bor Text) (v : Option Text) → option_map (λ s. s.now) o ≡ v → (unwrap_or o d).now ≡ unwrap_or v d.now
text_or None d v is = rw (← is) refl
text_or (Some s) d v is = rw (← is) refl

min_at : (E : Type 0) (t : List ℕ) (r : Option ℕ) (b : Bool) → is_unsigned_in 0 65535 t ≡ b → ReadsOne (λ u (x : Result ℕ E). ParsesUnsigned 16 10 u x) t r →
    unwrap_or r 2 ≡ unwrap_or (if b then Some (digits_value 10 (without_leading_plus t)) else None) 2
min_at E t (Some v) true is h = h.1
min_at E t (Some v) false is h =
    let wrong : is_unsigned_in 0 65535 t ≡ true = Accepts-accepts false (vp.Unsigned 0 65535) t (h.0.0, omega arith, omega arith, omega arith) in
    let bad : false ≡ true = sym is ∙ wrong in
    cc
min_at E t None true is h =
    let in_range = accepts-Accepts false (vp.Unsigned 0 65535) t is in
    absurd (h.1 (in_range.0, omega arith))
min_at E t None false is h = refl

reads_by : (E : Type 0) (G : List ℕ → Result ℕ E → Type 0) (t : List ℕ) (r : Option ℕ) → ((u : List ℕ) (x : Result ℕ E) → G u x → ParsesUnsigned 16 10 u x) →
    ReadsOne G t r → ReadsOne (λ u (x : Result ℕ E). ParsesUnsigned 16 10 u x) t r
reads_by E G t (Some v) only h = only t (Ok v) h
reads_by E G t None only h = (h.0, only t (Err h.0) h.1)

pub min_read : (E : Type 0) (G : List ℕ → Result ℕ E → Type 0) (o : Option (List ℕ)) (r : Option ℕ) → ((u : List ℕ) (x : Result ℕ E) → G u x → ParsesUnsigned 16 10 u x) →
    (o ≡ None → r ≡ None) → ((t : List ℕ) → o ≡ Some t → ReadsOne G t r) → unwrap_or r 2 ≡ min_of o
min_read E G None r only none value = rw (none refl) refl
min_read E G (Some t) r only none value = min_at E t r (is_unsigned_in 0 65535 t) refl (reads_by E G t r only (value t refl))
