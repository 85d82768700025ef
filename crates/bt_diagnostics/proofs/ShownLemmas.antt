-- One message more.
use Rattle.std.proofs.Common.{◌≡◌, ◌∙◌, ap, sym, refl, ℕ, zero, suc, ◌+◌, ◌<◌, List, [], ◌∷◌, ◌++◌, length, take, slice_index_or, Option, Some, None, arith}
use Rattle.std.specs.Prelude.{filter_map}
use Rattle.std.specs.List.{cons_option}
use Rattle.bt_log.specs.declared.message.Message.{Message}
use Rattle.bt_diagnostics.specs.declared.diagnostic.Diagnostic.{Diagnostic}

next_shown : (f : Message → Option Diagnostic) (ms : List Message) (i : ℕ) (d : Message) → i < length ms →
    filter_map f (take (suc i) ms) ≡ filter_map f (take i ms) ++ cons_option (f (slice_index_or ms i d)) []
next_shown f [] i d l = absurd (omega (arith, l))
next_shown f (m ∷ ms) zero d l = refl
next_shown f (m ∷ ms) (suc i) d l = go (next_shown f ms i d (omega (arith, l))) (f m)
  where
    go : filter_map f (take (suc i) ms) ≡ filter_map f (take i ms) ++ cons_option (f (slice_index_or ms i d)) [] → (o : Option Diagnostic) →
        cons_option o (filter_map f (take (suc i) ms)) ≡
        cons_option o (filter_map f (take i ms)) ++ cons_option (f (slice_index_or ms i d)) []
    go later None = later
    go later (Some x) = ap (λ l. x ∷ l) later

-- the diagnostics after one message more
pub one_more_shown : (f : Message → Option Diagnostic) (ms : List Message) (i : ℕ) (m : Message) (old new : List Diagnostic) (o : Option Diagnostic) → i < length ms → m ≡ slice_index_or ms i m →
    old ≡ filter_map f (take i ms) → new ≡ old ++ cons_option o [] → o ≡ f m → new ≡ filter_map f (take (i + 1) ms)
one_more_shown f ms i m old new o l is was now shows =
    let next : suc i ≡ i + 1 = omega arith in
    now ∙ (λ j. was j ++ cons_option ((shows ∙ ap f is) j) []) ∙ sym (next_shown f ms i m l) ∙ ap (λ n. filter_map f (take n ms)) next
