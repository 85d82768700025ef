-- A fault at a word is reported on the word's line.
use Rattle.std.specs.Prelude.{ℕ, ◌≡◌, ◌^◌, ◌-◌, Bool, true, false, List, Option, Some, None, Result, Ok, Err, length, drop, not, nat_lt, ◌==◌}
use Rattle.std.proofs.Common.{refl, subst, cond}
use Rattle.bt_style.specs.declared.fault.StyleFault.{StyleFault}
use Rattle.bt_style.specs.declared.fault.FaultKind.{FaultKind}
use Rattle.bt_style.specs.declared.fault.FaultKind.TheVariants.{NumberTooLarge, NameTaken, BadName, StrayByte}
use Rattle.std.specs.List.{take_while}
use Rattle.std.specs.Char.{is_ascii_digit}
use Rattle.bt_text.specs.NameBytes.{is_name}
use Rattle.bt_style.specs.declared.style.Target.{Target}
use Rattle.bt_style.specs.declared.style.Target.TheVariants as targets
use Rattle.bt_style.specs.declared.verbs.Verb.{Verb}
use Rattle.bt_style.specs.Fault.{fault, ◌>>=◌}
use Rattle.bt_style.specs.Program.{Program}
use Rattle.bt_style.specs.Names.{target_named}
use Rattle.bt_text.specs.CaseFolding.{folded}
use Rattle.bt_style.specs.Declares.{new_name, target_of, runnable}
use Rattle.bt_style.specs.inner.Cases.{target_or_fault, verb_of, in_order}
use Rattle.bt_style.specs.Commands.{run_target}
use Rattle.bt_style.specs.Elements.{decimal, size_at, number_at, quoted_at, word_element}

-- a fault that is reported is on this line
abbrev OnIt : {A : Type 0} → ℕ → Result A StyleFault → Type 0
OnIt line (Ok x) = Unit {0}
OnIt line (Err f) = f.line ≡ line

pub record IsOn {A : Type 0} (line : ℕ) (r : Result A StyleFault) : Type 0 where
  pub by : OnIt line r

pub on_line : {A : Type 0} (line : ℕ) (r : Result A StyleFault) (f : StyleFault) → IsOn line r → r ≡ Err f → f.line ≡ line
on_line {A = A} line r f on e = (subst (λ (x : Result A StyleFault). IsOn line x) e on).by

fault_on : {A : Type 0} {line : ℕ} {kind : FaultKind} → IsOn {A = A} line (fault kind line)
fault_on = record { by = refl }

ok_on : {A : Type 0} {line : ℕ} {a : A} → IsOn {A = A} line (Ok a)
ok_on = record { by = tt }

on_if : {A : Type 0} {line : ℕ} (v : Bool) {x y : Result A StyleFault} → IsOn line x → IsOn line y → IsOn line (cond v x y)
on_if true a b = a
on_if false a b = b

on_then : {A B : Type 0} {line : ℕ} {r : Result A StyleFault} {k : A → Result B StyleFault} → IsOn line r → ((a : A) → IsOn line (k a)) → IsOn line (r >>= k)
on_then {r = Ok a} on next = next a
on_then {r = Err f} on next = record { by = on.by }

new_by : (a b : Bool) (name : List ℕ) (line : ℕ) → IsOn line (cond a (fault BadName line) (cond b (fault NameTaken line) (Ok name)))
new_by a b name line = on_if a fault_on (on_if b fault_on ok_on)

pub new_name_on : (taken : List ℕ → Bool) (word : List ℕ) (line : ℕ) → IsOn line (new_name taken word line)
new_name_on taken word line = new_by (not (is_name word)) (taken (folded word)) (folded word) line

known_on : (o : Option Target) (line : ℕ) → IsOn line (target_or_fault o line)
known_on None line = fault_on
known_on (Some t) line = ok_on

target_on : (p : Program) (word : List ℕ) (line : ℕ) → IsOn line (target_of p word line)
target_on p word line = known_on (target_named p (folded word)) line

runnable_on : (t : Target) (line : ℕ) → IsOn line (runnable t line)
runnable_on (targets.Field n) line = fault_on
runnable_on (targets.EntryNumber n) line = fault_on
runnable_on (targets.EntryText n) line = fault_on
runnable_on (targets.GlobalNumber n) line = fault_on
runnable_on (targets.GlobalText n) line = fault_on
runnable_on (targets.Function n) line = ok_on
runnable_on (targets.Builtin b) line = ok_on

pub run_target_on : (p : Program) (word : List ℕ) (line : ℕ) → IsOn line (run_target p word line)
run_target_on p word line = on_then (target_on p word line) (λ t. runnable_on t line)

size_by : (a b c : Bool) (n line : ℕ) → IsOn line (cond a (fault StrayByte line) (cond b (fault NumberTooLarge line) (cond c (Ok n) (fault StrayByte line))))
size_by a b c n line = on_if a fault_on (on_if b fault_on (on_if c ok_on fault_on))

size_on : (greatest : ℕ) (bytes : List ℕ) (line : ℕ) → IsOn line (size_at greatest bytes line)
unfolding size_at
size_on greatest bytes line = (let digits : List ℕ = take_while is_ascii_digit bytes in
    size_by (length digits == 0) (nat_lt greatest (decimal 0 digits)) (length (drop (length digits) bytes) == 0) (decimal 0 digits) line)

number_on : (bytes : List ℕ) (line : ℕ) → IsOn line (number_at bytes line)
unfolding number_at
number_on bytes line = on_if _ (on_then (size_on (2 ^ 31) (drop 1 bytes) line) (λ n. ok_on)) (on_then (size_on (2 ^ 31 - 1) bytes line) (λ n. ok_on))

quoted_on : (p : Program) (bytes : List ℕ) (line : ℕ) → IsOn line (quoted_at p bytes line)
unfolding quoted_at
quoted_on p bytes line = on_if _ fault_on (on_then (target_on p bytes line) (λ t. ok_on))

pub word_element_on : (p : Program) (word : List ℕ) (line : ℕ) → IsOn line (word_element p word line)
unfolding word_element
word_element_on p word line =
    on_if _ (on_then (number_on (drop 1 word) line) (λ n. ok_on)) (on_if _ (quoted_on p (drop 1 word) line) (on_then (target_on p word line) (λ t. ok_on)))

pub verb_on : (o : Option Verb) (line : ℕ) → IsOn line (verb_of o line)
verb_on None line = fault_on
verb_on (Some v) line = ok_on

pub order_on : (o : Option FaultKind) (line : ℕ) → IsOn line (in_order o line)
order_on None line = ok_on
order_on (Some k) line = fault_on
