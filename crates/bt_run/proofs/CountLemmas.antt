-- The counts, function by function.
use Rattle.std.proofs.Common.{◌≡◌, ap, sym, subst, ◌∙◌, ℕ, ◌+◌, ◌<◌, List, [], ◌∷◌, ◌++◌, map, take, length, Option, Some, slice_index_or}
use Rattle.std.specs.Prelude.{sum_by, codes, decimal}
use Rattle.std.specs.Option.{SomeIff}
use Rattle.std.proofs.lemmas.List.Sums.{sum_by_more}
use Rattle.std.proofs.lemmas.List.{append_assoc}
use Rattle.std.proofs.lemmas.Option.{slice_get_within}
use Rattle.bt_style.specs.declared.builtin.Builtin.{Builtin}
use Rattle.bt_style.specs.Builtins.{name_of, table, place_of}
use Rattle.bt_log.specs.declared.message.Message.{Message}
use Rattle.bt_style.proofs.PlaceLemmas.{stands_in_its_place}
use Rattle.bt_run.specs.Counts.{all_calls, counts_told, total_line, function_line}
use Rattle.bt_run.specs.inner.Cases.{count_message}

-- the sum of one more of a list, if the addition has a result
pub sum_with : (f : Builtin → ℕ) (bs : List Builtin) (i : ℕ) (d : Builtin) (sum count new : ℕ) (added : Option ℕ) (P : Type 0) → i < length bs → sum ≡ sum_by f (take i bs) → count ≡ f (slice_index_or bs i d) → SomeIff added P (sum + count) → added ≡ Some new → new ≡ sum_by f (take (i + 1) bs)
sum_with f bs i d sum count new added P lt is_sum is_count adds is =
    let Adds : Option ℕ → Type 0 = λ result. SomeIff result P (sum + count) in
    (subst Adds is adds).1 ∙ (λ j. is_sum j + is_count j) ∙ sym (sum_by_more f bs i d lt)

-- the counts after the messages of a run, piece by piece
pub counted_behind : (calls : ℕ → ℕ) (bs : List Builtin) (count : ℕ) (head : Message) (log log1 log2 : List Message) → bs ≡ table → count ≡ all_calls calls → head ≡ total_line count → log1 ≡ log ++ head ∷ [] → log2 ≡ log1 ++ map (function_line calls) bs → log2 ≡ log ++ counts_told calls
unfolding counts_told
counted_behind calls bs count head log log1 log2 whole is_count is_head is1 is2 =
    let first : head ≡ total_line (all_calls calls) = is_head ∙ ap total_line is_count in
    is2 ∙ ap (λ l. l ++ map (function_line calls) bs) is1 ∙ append_assoc log (head ∷ []) (map (function_line calls) bs)
    ∙ ap (λ m. log ++ m ∷ map (function_line calls) bs) first ∙ ap (λ bs. log ++ total_line (all_calls calls) ∷ map (function_line calls) bs) whole

within : (b : Builtin) → place_of b < 37
unfolding table
within b = slice_get_within table (place_of b) b (stands_in_its_place b)

-- Only the places of the table are counted.
pub counted_alike : (f g : ℕ → ℕ) → ((place : ℕ) → place < 37 → f place ≡ g place) → counts_told f ≡ counts_told g
unfolding counts_told all_calls
counted_alike f g same =
    let e : (b : Builtin) → f (place_of b) ≡ g (place_of b) = λ b. same (place_of b) (within b) in
    λ j. total_line (sum_by (λ b. e b j) table) ∷ map (λ b. count_message (name_of b ++ codes " -- " ++ decimal (e b j))) table
