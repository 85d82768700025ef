-- Reads, one after another.
use Rattle.std.proofs.Common.{◌≡◌, ◌≢◌, ℕ, ◌+◌, ◌≤◌, List, [], ◌∷◌, ◌++◌, length, take, ap, sym, ◌∙◌, append_assoc, Option, None, Some}
use Rattle.std.proofs.lemmas.List.{length-take-le, take-append-le}
use Rattle.std.proofs.Math.Seq.{take-append-add}
use Rattle.std.specs.Io.KnownBytes.{Consumes}
use Rattle.bt_streams.specs.Reads.{HasNoFeed}

-- One read after another.
pub consumes_more : (a b c : Option (List ℕ)) (xs ys : List ℕ) → Consumes a b xs → Consumes b c ys → Consumes a c (xs ++ ys)
consumes_more None b c xs ys p q = tt
consumes_more (Some u) None c xs ys p q = absurd p
consumes_more (Some u) (Some v) None xs ys p q = absurd q
consumes_more (Some u) (Some v) (Some w) xs ys p q = p ∙ ap (λ t. xs ++ t) q ∙ sym (append_assoc xs ys w)

-- One more byte of a line.
pub no_feed_more : (xs : List ℕ) (b : ℕ) → HasNoFeed xs → b ≢ 10 → HasNoFeed (xs ++ b ∷ [])
no_feed_more [] b p q = (q, tt)
no_feed_more (x ∷ xs) b p q = (p.0, no_feed_more xs b p.1 q)

-- Two texts without a line feed.
pub no_feed_both : (xs ys : List ℕ) → HasNoFeed xs → HasNoFeed ys → HasNoFeed (xs ++ ys)
no_feed_both [] ys p q = q
no_feed_both (x ∷ xs) ys p q = (p.0, no_feed_both xs ys p.1 q)

-- The front of a text whose middle was written.
pub take_two : (a n : ℕ) (xs ys zs : List ℕ) → a ≤ length xs → n ≤ length ys → take (a + n) (take a xs ++ (ys ++ zs)) ≡ take a xs ++ take n ys
take_two a n xs ys zs p q =
    let l = length-take-le a xs p in
    let e = rw l at (take-append-add (take a xs) (ys ++ zs) n) in
    e ∙ ap (λ t. take a xs ++ t) (take-append-le n ys zs q)

-- One more read, into the middle of a buffer.
pub consumes_part : (a b c : Option (List ℕ)) (k n : ℕ) (xs ys zs : List ℕ) → k ≤ length xs → n ≤ length ys →
    Consumes a b (take k xs) → Consumes b c (take n ys) → Consumes a c (take (k + n) (take k xs ++ (ys ++ zs)))
consumes_part a b c k n xs ys zs h i p q =
    let e = take_two k n xs ys zs h i in
    rw e (consumes_more a b c (take k xs) (take n ys) p q)

-- One more byte of a line, written after the others.
pub line_more : (a b c : Option (List ℕ)) (k x : ℕ) (xs ys : List ℕ) → ys ≡ take k xs ++ x ∷ [] → HasNoFeed (take k xs) → x ≢ 10 →
    Consumes a b (take k xs) → Consumes b c (x ∷ []) → HasNoFeed ys × Consumes a c ys
line_more a b c k x xs ys e n f p q =
    rw e (no_feed_more (take k xs) x n f, consumes_more a b c (take k xs) (x ∷ []) p q)
