-- What two texts have in common.
use Rattle.std.proofs.Common.{◌≡◌, ◌≤◌, ◌∙◌, ◌+◌, ◌-◌, ◌++◌, ap, sym, refl, ℕ, Bool, true, false, not, List, length, take, drop, arith, append_assoc, take-append-drop, length-drop}
use Rattle.std.proofs.Math.Seq.{take-add, drop-append_seam}
use Rattle.std.proofs.lemmas.List.{drop-drop, length-take-le}
use Rattle.std.proofs.lemmas.Slice.Eq.{bytes_eq-Decides}
use Rattle.std.specs.Str.{bytes_eq}
use Rattle.bt_bib.specs.Splice.{IsSplice}

-- parts that a test didn't tell apart
pub same_parts : (apart : Bool) (a b : List ℕ) → apart ≡ not (bytes_eq a b) → apart ≡ false → a ≡ b
same_parts apart a b is same = (bytes_eq-Decides a b).0 (go (bytes_eq a b) (sym is ∙ same))
  where
    go : (q : Bool) → not q ≡ false → q ≡ true
    go true e = refl
    go false e = absurd (cc)

-- one step more at the beginnings
pub front_more : (count step : ℕ) (old new old_rest new_rest a b : List ℕ) → take count old ≡ take count new → old_rest ≡ drop count old → new_rest ≡ drop count new →
    a ≡ take step old_rest → b ≡ take step new_rest → a ≡ b → take (count + step) old ≡ take (count + step) new
front_more count step old new old_rest new_rest a b same o n f g e =
    take-add count step old ∙ ap (λ t. t ++ take step (drop count old)) same
    ∙ ap (λ t. take count new ++ t) (ap (take step) (sym o) ∙ sym f ∙ e ∙ g ∙ ap (take step) n)
    ∙ sym (take-add count step new)

-- what a text is after its first part, once more of its last part is cut off
pub rest_less : (n : ℕ) (text rest others part : List ℕ) → n ≤ length rest → text ≡ rest ++ drop (length rest) text → others ≡ take n rest → part ≡ drop n rest →
    text ≡ others ++ (part ++ drop (length rest) text)
rest_less n text rest others part l is f g =
    is ∙ ap (λ r. r ++ drop (length rest) text) (sym (take-append-drop n rest))
    ∙ append_assoc (take n rest) (drop n rest) (drop (length rest) text)
    ∙ ap (λ r. r ++ (drop n rest ++ drop (length rest) text)) (sym f)
    ∙ ap (λ r. others ++ (r ++ drop (length rest) text)) (sym g)

-- a text in two parts, the second by its place
pub back_is : (text front back : List ℕ) → text ≡ front ++ back → back ≡ drop (length front) text
back_is text front back is = sym (ap (drop (length front)) is ∙ drop-append_seam front back)

-- a text is its beginning and what stands behind it
pub joined : (text front back : List ℕ) → text ≡ front ++ back → text ≡ front ++ drop (length front) text
joined text front back is = is ∙ ap (λ b. front ++ b) (back_is text front back is)

-- Two texts whose beginnings and whose ends are the same: the new one is the old one but for what stands between.
pub differing : (start back : ℕ) (old new old_rest new_rest : List ℕ) → start ≤ length old → start ≤ length new → take start old ≡ take start new →
    old_rest ≡ drop start old → new_rest ≡ drop start new → back ≤ length old_rest → back ≤ length new_rest →
    drop (length old_rest - back) old_rest ≡ drop (length new_rest - back) new_rest →
    new ≡ take start old ++ take (length new - back - start) (drop start new) ++ drop (length old - back) old
differing start back old new old_rest new_rest l m same o n p q ends =
    let old_length : length old_rest ≡ length old - start = ap length o ∙ length-drop start old in
    let new_length : length new_rest ≡ length new - start = ap length n ∙ length-drop start new in
    let old_place : start + (length old_rest - back) ≡ length old - back = omega (arith, l, p, old_length) in
    let new_place : length new_rest - back ≡ length new - back - start = omega (arith, m, q, new_length) in
    let mid = take (length new_rest - back) new_rest in
    sym (take-append-drop start new)
    ∙ ap (λ t. t ++ drop start new) (sym same)
    ∙ ap (λ t. take start old ++ t) (sym n ∙ sym (take-append-drop (length new_rest - back) new_rest))
    ∙ ap (λ t. take start old ++ (mid ++ t)) (sym ends ∙ ap (drop (length old_rest - back)) o ∙ drop-drop (length old_rest - back) start old ∙ ap (λ k. drop k old) old_place)
    ∙ sym (append_assoc (take start old) mid (drop (length old - back) old))
    ∙ ap (λ k. take start old ++ take k new_rest ++ drop (length old - back) old) new_place
    ∙ ap (λ t. take start old ++ take (length new - back - start) t ++ drop (length old - back) old) n

-- a text is a splice of another where the two differ
pub difference_is_splice : (old new : List ℕ) (start end new_end : ℕ) → start ≤ new_end → new_end ≤ length new → start ≤ end → end ≤ length old →
    new ≡ take start old ++ take (new_end - start) (drop start new) ++ drop end old → IsSplice old new start end (new_end - start)
difference_is_splice old new start end new_end order within old_order old_within same = record {
  order = old_order;
  inside = old_within;
  bytes = take (new_end - start) (drop start new);
  count = length-take-le (new_end - start) (drop start new) (omega (arith, within, order, length-drop start new));
  text = same;
}
