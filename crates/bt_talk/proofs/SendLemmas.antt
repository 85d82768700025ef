-- What is written of messages.
use Rattle.std.proofs.Common.{◌≡◌, ℕ, ◌+◌, suc, zero, ◌<◌, List, [], ◌∷◌, ◌++◌, map, take, length, slice_index_or, ap, sym, ◌∙◌, subst, arith, append_assoc, append-nil, Option, false}
use Rattle.std.specs.List.{AllByRecursion}
use Rattle.std.specs.Io.KnownBytes.{Appends}
use Rattle.bt_streams.proofs.WriteLemmas.{appends_more}
use Rattle.serde_json.specs.View.{view}
use Rattle.serde_json.specs.Written.{has_float, compact_text}
use Rattle.serde_json.specs.declared.value.Value.{Value}
use Rattle.bt_frames.specs.Framed.{head_of, framed}
use Rattle.bt_talk.specs.Handled.{HasNoFloat}
use Rattle.bt_talk.specs.Talks.{sent}

-- a head and a body, one after the other, are the frame
pub frame_sent : (old new : Option (List ℕ)) (head body text : List ℕ) (count : ℕ) → head ≡ head_of count → count ≡ length body → body ≡ text →
    Appends old new (head ++ (body ++ [])) → Appends old new (framed text)
frame_sent old new head body text count h n b p =
    let e : head ++ (body ++ []) ≡ framed text =
    ap (λ t. head ++ t) (append-nil body) ∙ ap (λ t. t ++ body) (h ∙ ap head_of n) ∙ ap framed b in
    subst (Appends old new) e p

-- each of them has no float
pub plain_at : (vs : List Value) (i : ℕ) (d : Value) → AllByRecursion HasNoFloat (map view vs) → i < length vs → has_float (view (slice_index_or vs i d)) ≡ false
plain_at [] i d h l = absurd (omega (arith, l))
plain_at (v ∷ vs) zero d h l = h.0
plain_at (v ∷ vs) (suc i) d h l = plain_at vs i d h.1 (omega (arith, l))

first_sent : (vs : List Value) (i : ℕ) (d : Value) → i < length vs → sent (map view (take (suc i) vs)) ≡ sent (map view (take i vs)) ++ framed (compact_text (view (slice_index_or vs i d)))
first_sent [] i d l = absurd (omega (arith, l))
first_sent (v ∷ vs) zero d l = append-nil (framed (compact_text (view v)))
first_sent (v ∷ vs) (suc i) d l =
    let f = framed (compact_text (view v)) in
    ap (λ t. f ++ t) (first_sent vs i d (omega (arith, l))) ∙ sym (append_assoc f (sent (map view (take i vs))) (framed (compact_text (view (slice_index_or vs i d)))))

-- one more is written
pub one_more_sent : (vs : List Value) (i : ℕ) (d m : Value) (a b e : Option (List ℕ)) → i < length vs → m ≡ slice_index_or vs i d →
    Appends a b (sent (map view (take i vs))) → Appends b e (framed (compact_text (view m))) → Appends a e (sent (map view (take (i + 1) vs)))
one_more_sent vs i d m a b e l is p q =
    let both = appends_more a b e _ _ p q in
    let next : suc i ≡ i + 1 = omega arith in
    let k : sent (map view (take i vs)) ++ framed (compact_text (view m)) ≡ sent (map view (take (i + 1) vs)) =
    ap (λ x. sent (map view (take i vs)) ++ framed (compact_text (view x))) is ∙ sym (first_sent vs i d l) ∙
    ap (λ n. sent (map view (take n vs))) next in
    subst (Appends a e) k both
