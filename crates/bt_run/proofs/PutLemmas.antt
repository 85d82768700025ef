-- Steps that take the place of others, and what they write.
use Rattle.std.specs.Prelude.{slice_index_or, slice_set, sum}
use Rattle.std.proofs.Common.{◌≡◌, ◌≢◌, refl, sym, ap, ◌∙◌, subst, ℕ, suc, ◌+◌, ◌-◌, ◌<◌, ◌≤◌, List, [], ◌∷◌, ◌++◌, length, map, take, drop, arith}
use Rattle.std.proofs.lemmas.Grind.{flat_map-append}
use Rattle.std.proofs.lemmas.List.{append-nil, append_assoc, drop-append-le, drop-drop, drop_more, drop-map, drop_at, get_or-map, length-append, length-drop, length-map, length-set, length-take-le, map-set, set-get_or, set_comm, set_past, set_split, take-append-drop, take-map, take_more, take-set-le, take-take, take_at}
use Rattle.std.proofs.lemmas.List.Concat.{length-flat_map}
use Rattle.std.proofs.lemmas.List.Sums.{sum-map}
use Rattle.std.proofs.lemmas.Slice.{between_is}
use Rattle.bt_style.specs.Builtins.{table}
use Rattle.bt_log.specs.Log.{lines_bytes}
use Rattle.bt_log.specs.declared.message.Message.{Message}
use Rattle.bt_run.specs.declared.course.Step.{Step}
use Rattle.bt_run.specs.declared.walk.NewStep.{NewStep}
use Rattle.bt_run.specs.Counts.{counts_told, function_line}
use Rattle.bt_run.specs.inner.Cases.{bbl_of, bytes_written}
use Rattle.bt_run.specs.inner.Put.{with_lengths}
use Rattle.bt_run.specs.inner.Walk.{AreNumbered, with_steps}
use Rattle.bt_run.proofs.WalkLemmas.{with_more}

-- Steps in the place of others

numbered_upto : (from end : ℕ) (os : List NewStep) → AreNumbered from end os → from ≤ end
numbered_upto from end [] h = h
numbered_upto from end (o ∷ os) h = omega (arith, h.0, numbered_upto (o.number + 1) end os h.2)

length_with : (ss : List Step) (os : List NewStep) → length (with_steps ss os) ≡ length ss
length_with ss [] = refl
length_with ss (o ∷ os) = length_with (slice_set ss o.number o.step) os ∙ length-set ss o.number o.step

one_more : (os : List NewStep) (i : ℕ) (o : NewStep) → i < length os → o ≡ slice_index_or os i o → take i os ++ o ∷ [] ≡ take (i + 1) os
one_more os i o lt at = sym (take_more os i o lt ∙ (λ j. take i os ++ sym at j ∷ []))

-- steps before all of these numbers stay
still_before : (n from end : ℕ) (os : List NewStep) (ss : List Step) → n ≤ from → AreNumbered from end os → take n (with_steps ss os) ≡ take n ss
still_before n from end [] ss le h = refl
still_before n from end (o ∷ os) ss le h =
    still_before n (o.number + 1) end os (slice_set ss o.number o.step) (omega (arith, le, h.0)) h.2
    ∙ take-set-le n ss o.number o.step (omega (arith, le, h.0))

-- the first one can be put last
put_last : (n : ℕ) (t : Step) (from end : ℕ) (os : List NewStep) (ss : List Step) → n < from → AreNumbered from end os → with_steps (slice_set ss n t) os ≡ slice_set (with_steps ss os) n t
put_last n t from end [] ss lt h = refl
put_last n t from end (o ∷ os) ss lt h =
    let apart : n ≢ o.number = λ same. absurd (omega (arith, same, lt, h.0)) in
    ap (λ (us : List Step). with_steps us os) (set_comm ss n o.number t o.step apart)
    ∙ put_last n t (o.number + 1) end os (slice_set ss o.number o.step) (omega (arith, lt, h.0)) h.2

-- one after another

pub put_more : (ss : List Step) (os : List NewStep) (o : NewStep) (now next : List Step) → now ≡ with_steps ss os → next ≡ slice_set now o.number o.step → next ≡ with_steps ss (os ++ o ∷ [])
put_more ss os o now next is put = put ∙ ap (λ (us : List Step). slice_set us o.number o.step) is ∙ sym (with_more ss os o)

pub put_beyond : (ss : List Step) (os : List NewStep) (o : NewStep) (now : List Step) → now ≡ with_steps ss os → (o.number < length now → ⊥) → now ≡ with_steps ss (os ++ o ∷ [])
put_beyond ss os o now is beyond = put_more ss os o now now is (sym (set_past now o.number o.step (omega (arith, beyond))))

-- their lengths

lengths_with : (ns : List ℕ) (os : List NewStep) (o : NewStep) → with_lengths ns (os ++ o ∷ []) ≡ slice_set (with_lengths ns os) o.number o.length
lengths_with ns [] o = refl
lengths_with ns (x ∷ os) o = lengths_with (slice_set ns x.number x.length) os o

pub lengths_more : (ns : List ℕ) (os : List NewStep) (i : ℕ) (o : NewStep) (now next : List ℕ) → i < length os → o ≡ slice_index_or os i o → now ≡ with_lengths ns (take i os) → next ≡ slice_set now o.number o.length → next ≡ with_lengths ns (take (i + 1) os)
lengths_more ns os i o now next lt at is put =
    put ∙ ap (λ (ms : List ℕ). slice_set ms o.number o.length) is ∙ sym (lengths_with ns (take i os) o) ∙ ap (with_lengths ns) (one_more os i o lt at)

pub lengths_beyond : (ns : List ℕ) (os : List NewStep) (i : ℕ) (o : NewStep) (now : List ℕ) → i < length os → o ≡ slice_index_or os i o → now ≡ with_lengths ns (take i os) → length now ≤ o.number → now ≡ with_lengths ns (take (i + 1) os)
lengths_beyond ns os i o now lt at is beyond =
    lengths_more ns os i o now now lt at is (sym (set_past now o.number o.length beyond))

pub lengths_put : (ss : List Step) (from end : ℕ) (os : List NewStep) → AreNumbered from end os → with_lengths (map bytes_written ss) os ≡ map bytes_written (with_steps ss os)
lengths_put ss from end [] h = refl
lengths_put ss from end (o ∷ os) h =
    ap (λ (ns : List ℕ). with_lengths ns os) ((λ j. slice_set (map bytes_written ss) o.number (h.1 j)) ∙ sym (map-set bytes_written ss o.number o.step))
    ∙ lengths_put (slice_set ss o.number o.step) (o.number + 1) end os h.2

-- the log

counts_length : (f : ℕ → ℕ) → length (counts_told f) ≡ 38
unfolding counts_told table
counts_length f = ap suc (length-map table (function_line f))

pub told_anew : (log before told : List Message) (was now : ℕ → ℕ) (n : ℕ) → n ≡ length log - 38 → log ≡ before ++ counts_told was → told ≡ take n log ++ counts_told now → told ≡ before ++ counts_told now
told_anew log before told was now n is whole are =
    let count : length log ≡ length before + 38 = ap length whole ∙ length-append before (counts_told was) ∙ ap (λ k. length before + k) (counts_length was) in
    are
    ∙ ap (λ (ms : List Message). take n ms ++ counts_told now) whole
    ∙ ap (λ (ms : List Message). ms ++ counts_told now) (take_at before (counts_told was) n (omega (arith, is, count)))

-- What they write

abbrev line : Step → List ℕ
line s = lines_bytes s.outcome.lines

-- the beginning of an old text, followed by new text

take_on : (old : List ℕ) (from end : ℕ) → from ≤ end → take from old ++ take (end - from) (drop from old) ≡ take end old
take_on old from end le =
    ap (λ (t : List ℕ). take from old ++ t) (between_is old from end)
    ∙ ap (λ (t : List ℕ). t ++ drop from (take end old)) (sym (take-take from end old le))
    ∙ take-append-drop from (take end old)

pub begun_at : (old text : List ℕ) (begin from end : ℕ) → begin ≡ from → from ≤ end → text ≡ [] → take end old ++ text ≡ take begin old ++ text ++ take (end - from) (drop from old)
begun_at old text begin from end is le none =
    let bare : (n : ℕ) → take n old ++ text ≡ take n old = λ n. ap (λ (t : List ℕ). take n old ++ t) none ∙ append-nil (take n old) in
    bare end
    ∙ sym (take_on old from end le)
    ∙ ap (λ (t : List ℕ). t ++ take (end - from) (drop from old)) (ap (λ n. take n old) (sym is) ∙ sym (bare begin))

pub with_line : (before text line more whole : List ℕ) → more ≡ text ++ line → before ++ text ≡ whole → before ++ more ≡ whole ++ line
with_line before text line more whole is same =
    ap (λ (t : List ℕ). before ++ t) is ∙ sym (append_assoc before text line) ∙ ap (λ (t : List ℕ). t ++ line) same

-- the steps from a number on up to the next one that is put, and that one
module _ (ss : List Step) (others : List NewStep) (i number : ℕ) (o : NewStep) (lt : i < length others) (at : o ≡ slice_index_or others i o) (numbered : AreNumbered number (length ss) (drop i others)) where
  abbrev os : List NewStep
  os = drop (i + 1) others

  here : drop i others ≡ o ∷ os
  here = drop_more others i o lt ∙ (λ j. sym at j ∷ os)

  h : AreNumbered number (length ss) (o ∷ os)
  h = subst (AreNumbered number (length ss)) here numbered

  pub next_numbered : AreNumbered (o.number + 1) (length ss) os
  next_numbered = h.2

  abbrev n : ℕ
  n = o.number

  abbrev part : List Step
  part = drop number (take n ss)

  abbrev own : Step
  own = slice_index_or ss n o.step

  pub first_below : number ≤ n
  first_below = h.0

  pub below : n < length ss
  below = omega (arith, numbered_upto (n + 1) (length ss) os h.2)

  -- steps with another one in its place
  parted : (rs : List Step) (t : Step) → take n rs ≡ take n ss → n < length rs → bbl_of (drop number (slice_set rs n t)) ≡ bbl_of part ++ (line t ++ bbl_of (drop (n + 1) rs))
  parted rs t same lt =
      let next : suc n ≡ n + 1 = omega arith in
      let whole : slice_set rs n t ≡ take n ss ++ t ∷ drop (n + 1) rs = set_split rs n t lt ∙ (λ j. same j ++ t ∷ drop (next j) rs) in
      ap (λ (us : List Step). bbl_of (drop number us)) whole
      ∙ ap bbl_of (drop-append-le number (take n ss) (t ∷ drop (n + 1) rs) (omega (arith, h.0, length-take-le n ss (omega (arith, below)))))
      ∙ flat_map-append line part (t ∷ drop (n + 1) rs)

  module _ (lengths : List ℕ) (measured : lengths ≡ map bytes_written ss) where
    pub indexed : n < length lengths
    indexed = omega (arith, below, ap length measured, length-map ss bytes_written)

    pub indexed_first : number < length lengths
    indexed_first = omega (arith, h.0, indexed)

    module _ (old : List ℕ) (place : ℕ) (within : place ≤ length old) (rest : drop place old ≡ bbl_of (drop number ss)) where
      parts : drop place old ≡ bbl_of part ++ (line own ++ bbl_of (drop (n + 1) ss))
      parts = rest ∙ ap (λ (us : List Step). bbl_of (drop number us)) (sym (set-get_or ss n o.step)) ∙ parted ss own refl below

      part_sum : sum (take (n - number) (drop number lengths)) ≡ length (bbl_of part)
      part_sum =
          ap sum (between_is lengths number n)
          ∙ ap (λ (ns : List ℕ). sum (drop number (take n ns))) measured
          ∙ ap (λ (ns : List ℕ). sum (drop number ns)) (take-map bytes_written n ss)
          ∙ ap sum (drop-map bytes_written number (take n ss))
          ∙ sum-map bytes_written part
          ∙ sym (length-flat_map line part)

      own_length : slice_index_or lengths n 0 ≡ length (line own)
      own_length = ap (λ (ns : List ℕ). slice_index_or ns n 0) measured ∙ get_or-map bytes_written ss n o.step 0 below

      pub fits : place + sum (take (n - number) (drop number lengths)) + slice_index_or lengths n 0 ≤ length old
      fits =
          let all = ap length parts in
          omega (arith, within, part_sum, own_length, all, length-drop place old, length-append (bbl_of part) (line own ++ bbl_of (drop (n + 1) ss)), length-append (line own) (bbl_of (drop (n + 1) ss)))

      module _ (end : ℕ) (is : end ≡ place + sum (take (n - number) (drop number lengths))) where
        same_part : take (end - place) (drop place old) ≡ bbl_of part
        same_part = ap (take (end - place)) parts ∙ take_at (bbl_of part) (line own ++ bbl_of (drop (n + 1) ss)) (end - place) (omega (arith, is, part_sum))

        pub next_rest : drop (end + slice_index_or lengths n 0) old ≡ bbl_of (drop (n + 1) ss)
        next_rest =
            let before = bbl_of part ++ line own in
            let count : end + slice_index_or lengths n 0 ≡ place + length before = omega (arith, is, part_sum, own_length, length-append (bbl_of part) (line own)) in
            ap (λ k. drop k old) count
            ∙ sym (drop-drop (length before) place old)
            ∙ ap (drop (length before)) (parts ∙ sym (append_assoc (bbl_of part) (line own) (bbl_of (drop (n + 1) ss))))
            ∙ drop_at before (bbl_of (drop (n + 1) ss)) (length before) refl

        pub next_whole : (text more all : List ℕ) → text ++ bbl_of (drop number (with_steps ss (drop i others))) ≡ all → more ≡ text ++ take (end - place) (drop place old) ++ line o.step → more ++ bbl_of (drop (n + 1) (with_steps ss os)) ≡ all
        next_whole text more all whole is_more =
            let us = with_steps ss os in
            let behind = bbl_of (drop (n + 1) us) in
            let put : with_steps ss (drop i others) ≡ slice_set us n o.step = ap (with_steps ss) here ∙ put_last n o.step (n + 1) (length ss) os ss (omega arith) h.2 in
            let split = parted us o.step (still_before n (n + 1) (length ss) os ss (omega arith) h.2) (omega (arith, below, length_with ss os)) in
            ap (λ (bs : List ℕ). bs ++ behind) (is_more ∙ ap (λ (bs : List ℕ). text ++ bs ++ line o.step) same_part)
            ∙ append_assoc (text ++ bbl_of part) (line o.step) behind
            ∙ append_assoc text (bbl_of part) (line o.step ++ behind)
            ∙ ap (λ (bs : List ℕ). text ++ bs) (sym split)
            ∙ ap (λ (vs : List Step). text ++ bbl_of (drop number vs)) (sym put)
            ∙ whole
