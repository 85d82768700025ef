-- The piece before a text ends in the text, and it stays the same whatever stands after it, but for the first byte
-- there.
use Rattle.std.specs.Prelude.{◌==◌}
use Rattle.std.specs.List.{before_first, position_or_len}
use Rattle.std.proofs.Common.{◌≡◌, ◌∙◌, ap, sym, refl, subst, ℕ, zero, suc, ◌+◌, ◌<◌, ◌≤◌, Bool, true, false, cond, List, [], ◌∷◌, ◌++◌, length, take, drop, Some, None, arith}
use Rattle.std.proofs.Math.Seq.{drop-append_seam}
use Rattle.std.proofs.lemmas.Bool.{cond-true, cond-false}
use Rattle.std.proofs.lemmas.List.{length-append, length-drop, append-nil}
use Rattle.bt_text.specs.ByteTests.{is_white, is_line_feed}
use Rattle.bt_style.specs.Token.{Open, Close, Word, Literal, Unclosed, Glued, Piece, ends_word, ends_literal, may_follow, literal_piece, piece_at}
use Rattle.bt_style.specs.inner.Cases.{literal_end}

-- What stands before the first of some bytes

before_stop : (p : ℕ → Bool) (b : ℕ) (bytes : List ℕ) → p b ≡ true → before_first p (b ∷ bytes) ≡ []
before_stop p b bytes is = rw is refl

before_next : (p : ℕ → Bool) (b : ℕ) (bytes : List ℕ) → p b ≡ false → before_first p (b ∷ bytes) ≡ b ∷ before_first p bytes
before_next p b bytes is = (let one : 1 + position_or_len p bytes ≡ suc (position_or_len p bytes) = omega arith in rw (is, one) refl)

-- one of them is among these bytes, at the same place whatever stands after
record Inside (p : ℕ → Bool) (xs : List ℕ) : Type 0 where
  first : List ℕ
  stop : ℕ
  more : List ℕ
  before : (ys : List ℕ) → before_first p (xs ++ ys) ≡ first
  from : (ys : List ℕ) → drop (length first) (xs ++ ys) ≡ stop ∷ (more ++ ys)

-- or none is
record Beyond (p : ℕ → Bool) (xs : List ℕ) : Type 0 where
  before : (ys : List ℕ) → before_first p (xs ++ ys) ≡ xs ++ before_first p ys

data Place (p : ℕ → Bool) (xs : List ℕ) : Type 0 where
  Here : Inside p xs → Place p xs
  Behind : Beyond p xs → Place p xs

one_more : (p : ℕ → Bool) (b : ℕ) (xs : List ℕ) → p b ≡ false → Place p xs → Place p (b ∷ xs)
one_more p b xs is (Here i) = Here (record {
  first = b ∷ i.first;
  stop = i.stop;
  more = i.more;
  before = λ ys. before_next p b (xs ++ ys) is ∙ ap (λ (l : List ℕ). b ∷ l) (i.before ys);
  from = λ ys. i.from ys;
})
one_more p b xs is (Behind o) = Behind (record { before = λ ys. before_next p b (xs ++ ys) is ∙ ap (λ (l : List ℕ). b ∷ l) (o.before ys) })

split_by : (p : ℕ → Bool) (b : ℕ) (xs : List ℕ) (v : Bool) → p b ≡ v → Place p xs → Place p (b ∷ xs)
split_by p b xs true is later = Here (record { first = []; stop = b; more = xs; before = λ ys. before_stop p b (xs ++ ys) is; from = λ ys. refl })
split_by p b xs false is later = one_more p b xs is later

split : (p : ℕ → Bool) (xs : List ℕ) → Place p xs
split p [] = Behind (record { before = λ ys. refl })
split p (b ∷ xs) = split_by p b xs (p b) refl (split p xs)

take_within : (n : ℕ) (xs : List ℕ) → length (take n xs) ≤ length xs
take_within zero xs = omega arith
take_within (suc n) [] = omega arith
take_within (suc n) (x ∷ xs) = omega (arith, take_within n xs)

before_within : (p : ℕ → Bool) (xs : List ℕ) → length (before_first p xs) ≤ length xs
before_within p xs = take_within (position_or_len p xs) xs

none_left : (xs ys : List ℕ) → length (xs ++ ys) ≤ length xs → ys ≡ []
none_left xs [] le = refl
none_left xs (y ∷ ys) le = absurd (omega (arith, le, length-append xs (y ∷ ys)))

-- What stands after a piece

abbrev begins_with_quote : List ℕ → Bool
begins_with_quote [] = false
begins_with_quote (b ∷ bytes) = b == 34

-- the others end what stands before them as these do
pub record EndAlike (ys zs : List ℕ) : Type 0 where
  pub stops : (p : ℕ → Bool) → p 10 ≡ true → before_first p ys ≡ [] → before_first p zs ≡ []
  pub quote : begins_with_quote ys ≡ false → begins_with_quote zs ≡ false
  pub follows : may_follow ys ≡ true → may_follow zs ≡ true

-- as they do where both begin with the same byte, or are at their end
pub alike_by_first : (ys zs : List ℕ) → take 1 zs ≡ take 1 ys → EndAlike ys zs
alike_by_first [] [] e = record { stops = λ p feed h. h; quote = λ h. h; follows = λ h. h }
alike_by_first [] (c ∷ zs) e = cc
alike_by_first (b ∷ ys) [] e = cc
alike_by_first (b ∷ ys) (c ∷ zs) e =
    let same : b ≡ c = cc e in
    let same_stop : (p : ℕ → Bool) (v : Bool) → p b ≡ v → before_first p (b ∷ ys) ≡ [] → before_first p (b ∷ zs) ≡ [] = λ p v is h. elim v as (λ v. p b ≡ v → before_first p (b ∷ zs) ≡ []) [
      | true ↦ λ is. before_stop p b zs is
      | false ↦ λ is. (let no_way : b ∷ before_first p ys ≡ [] = sym (before_next p b ys is) ∙ h in cc no_way)
    ] is in
    subst (λ (d : ℕ). EndAlike (b ∷ ys) (d ∷ zs)) same (record {
      stops = λ p feed h. same_stop p (p b) refl h;
      quote = λ h. h;
      follows = λ h. h;
    })

pub follow_by_first : (ys zs : List ℕ) → take 1 zs ≡ take 1 ys → may_follow ys ≡ false → may_follow zs ≡ false
follow_by_first [] [] e h = h
follow_by_first [] (c ∷ zs) e h = cc
follow_by_first (b ∷ ys) [] e h = cc
follow_by_first (b ∷ ys) (c ∷ zs) e h = (let same : b ≡ c = cc e in subst (λ (d : ℕ). ends_word d ≡ false) same h)

-- or where the others begin with a new line
pub alike_by_feed : (ys zs : List ℕ) → EndAlike ys (10 ∷ zs)
alike_by_feed ys zs = record { stops = λ p feed h. before_stop p 10 zs feed; quote = λ h. refl; follows = λ h. refl }

-- The same piece

before_same : (p : ℕ → Bool) → p 10 ≡ true → (xs ys zs : List ℕ) → EndAlike ys zs → length (before_first p (xs ++ ys)) ≤ length xs → before_first p (xs ++ zs) ≡ before_first p (xs ++ ys)
before_same p feed xs ys zs a le = elim (split p xs) [
  | Here i ↦ i.before zs ∙ sym (i.before ys)
  | Behind o ↦
      (let none : before_first p ys ≡ [] = none_left xs (before_first p ys) (subst (λ (l : List ℕ). length l ≤ length xs) (o.before ys) le) in
      o.before zs ∙ ap (λ l. xs ++ l) (a.stops p feed none ∙ sym none) ∙ sym (o.before ys))
]

abbrev unclosed : List ℕ → Piece
unclosed inside = record { token = Some Unclosed; size = 1 + length inside }

abbrev closed : List ℕ → Bool → Piece
closed inside follows = record { token = Some (cond follows (Literal inside) Glued); size = 2 + length inside }

end_unclosed : (inside behind : List ℕ) → begins_with_quote behind ≡ false → literal_end inside behind ≡ unclosed inside
end_unclosed inside [] h = refl
end_unclosed inside (b ∷ behind) h = cond-false (b == 34) (closed inside (may_follow behind)) (unclosed inside) h

end_size : (v : Bool) (inside behind : List ℕ) → begins_with_quote behind ≡ v → (literal_end inside behind).size ≤ suc (length inside) → v ≡ false
end_size false inside behind h le = refl
end_size true inside [] h le = cc
end_size true inside (b ∷ behind) h le =
    (let e : literal_end inside (b ∷ behind) ≡ closed inside (may_follow behind) = cond-true (b == 34) (closed inside (may_follow behind)) (unclosed inside) h in
    absurd (omega (arith, subst (λ (x : Piece). x.size ≤ suc (length inside)) e le)))

end_some : (inside behind : List ℕ) (n : ℕ) → (literal_end inside behind).size ≤ n → suc (length inside) ≤ n
end_some inside [] n le = omega (arith, le)
end_some inside (b ∷ behind) n le = elim (b == 34) as (λ v. (cond v (closed inside (may_follow behind)) (unclosed inside)).size ≤ n → suc (length inside) ≤ n) [
  | true ↦ λ le. omega (arith, le)
  | false ↦ λ le. omega (arith, le)
] le

closed_same : (inside ys zs : List ℕ) → EndAlike ys zs → (v : Bool) → may_follow ys ≡ v → ((closed inside v).token ≡ Some Glued → may_follow ys ≡ false → may_follow zs ≡ false) →
    closed inside (may_follow zs) ≡ closed inside v
closed_same inside ys zs a true is apart = ap (closed inside) (a.follows is)
closed_same inside ys zs a false is apart = ap (closed inside) (apart refl is)

end_same : (inside : List ℕ) (c : ℕ) (more ys zs : List ℕ) → EndAlike ys zs → (v : Bool) →
    ((cond v (closed inside (may_follow (more ++ ys))) (unclosed inside)).token ≡ Some Glued → may_follow ys ≡ false → may_follow zs ≡ false) →
    cond v (closed inside (may_follow (more ++ zs))) (unclosed inside) ≡ cond v (closed inside (may_follow (more ++ ys))) (unclosed inside)
end_same inside c [] ys zs a true apart = closed_same inside ys zs a (may_follow ys) refl apart
end_same inside c (m ∷ more) ys zs a true apart = refl
end_same inside c more ys zs a false apart = refl

literal_by : (bytes inside behind : List ℕ) → before_first ends_literal bytes ≡ inside → drop (length inside) bytes ≡ behind → literal_piece bytes ≡ literal_end inside behind
unfolding literal_piece
literal_by bytes inside behind e f = ap (λ (i : List ℕ). literal_end i (drop (length i) bytes)) e ∙ ap (literal_end inside) f

-- where no byte ends the text among those before the cut
literal_over : (xs ys : List ℕ) → Beyond ends_literal xs → before_first ends_literal ys ≡ [] → literal_piece (xs ++ ys) ≡ literal_end xs ys
literal_over xs ys o none = literal_by (xs ++ ys) xs ys (o.before ys ∙ ap (λ l. xs ++ l) none ∙ append-nil xs) (drop-append_seam xs ys)

literal_size : (xs ys : List ℕ) → Beyond ends_literal xs → (literal_piece (xs ++ ys)).size ≤ suc (length xs) → before_first ends_literal ys ≡ []
literal_size xs ys o le =
    let inside : List ℕ = xs ++ before_first ends_literal ys in
    let e : literal_piece (xs ++ ys) ≡ literal_end inside (drop (length inside) (xs ++ ys)) = literal_by (xs ++ ys) inside (drop (length inside) (xs ++ ys)) (o.before ys) refl in
    let some : suc (length inside) ≤ suc (length xs) = end_some inside (drop (length inside) (xs ++ ys)) (suc (length xs)) (subst (λ (x : Piece). x.size ≤ suc (length xs)) e le) in
    none_left xs (before_first ends_literal ys) (omega (arith, some))

literal_same : (xs ys zs : List ℕ) → EndAlike ys zs → ((literal_piece (xs ++ ys)).token ≡ Some Glued → may_follow ys ≡ false → may_follow zs ≡ false) →
    (literal_piece (xs ++ ys)).size ≤ suc (length xs) → literal_piece (xs ++ zs) ≡ literal_piece (xs ++ ys)
literal_same xs ys zs a apart le = elim (split ends_literal xs) [
  | Here i ↦
      (let on : (ws : List ℕ) → literal_piece (xs ++ ws) ≡ literal_end i.first (i.stop ∷ (i.more ++ ws)) = λ ws. literal_by (xs ++ ws) i.first (i.stop ∷ (i.more ++ ws)) (i.before ws) (i.from ws) in
      let here = subst (λ (x : Piece). x.token ≡ Some Glued → may_follow ys ≡ false → may_follow zs ≡ false) (on ys) apart in
      on zs ∙ end_same i.first i.stop i.more ys zs a (i.stop == 34) here ∙ sym (on ys))
  | Behind o ↦
      (let none = literal_size xs ys o le in
      let is = literal_over xs ys o none in
      let unquoted = end_size (begins_with_quote ys) xs ys refl (subst (λ (x : Piece). x.size ≤ suc (length xs)) is le) in
      literal_over xs zs o (a.stops ends_literal refl none) ∙ end_unclosed xs zs (a.quote unquoted) ∙ sym (end_unclosed xs ys unquoted) ∙ sym is)
]

-- the piece by the class of its first byte: white, a comment, a brace, a literal or a word
abbrev comment_piece : List ℕ → Piece
comment_piece bytes = record { token = None; size = 1 + length (before_first is_line_feed bytes) }

abbrev word_piece : ℕ → List ℕ → Piece
word_piece b bytes = record { token = Some (Word (b ∷ before_first ends_word bytes)); size = 1 + length (before_first ends_word bytes) }

abbrev piece_by : Bool → Bool → Bool → Bool → Bool → ℕ → List ℕ → Piece
piece_by white percent opens closes quote b bytes =
    cond white (record { token = None; size = 1 }) (cond percent (comment_piece bytes) (cond opens (record { token = Some Open; size = 1 }) (cond closes (record { token = Some Close; size = 1 })
    (cond quote (literal_piece bytes) (word_piece b bytes)))))

same_by : (white percent opens closes quote : Bool) (b : ℕ) (xs ys zs : List ℕ) → EndAlike ys zs →
    ((piece_by white percent opens closes quote b (xs ++ ys)).token ≡ Some Glued → may_follow ys ≡ false → may_follow zs ≡ false) →
    (piece_by white percent opens closes quote b (xs ++ ys)).size ≤ suc (length xs) →
    piece_by white percent opens closes quote b (xs ++ zs) ≡ piece_by white percent opens closes quote b (xs ++ ys)
same_by true percent opens closes quote b xs ys zs a apart le = refl
same_by false true opens closes quote b xs ys zs a apart le =
    ap (λ (l : List ℕ). record { token = None; size = 1 + length l }) (before_same is_line_feed refl xs ys zs a (omega (arith, le)))
same_by false false true closes quote b xs ys zs a apart le = refl
same_by false false false true quote b xs ys zs a apart le = refl
same_by false false false false true b xs ys zs a apart le = literal_same xs ys zs a apart le
same_by false false false false false b xs ys zs a apart le =
    ap (λ (l : List ℕ). record { token = Some (Word (b ∷ l)); size = 1 + length l }) (before_same ends_word refl xs ys zs a (omega (arith, le)))

pub piece_same : (b : ℕ) (xs ys zs : List ℕ) → EndAlike ys zs → ((piece_at b (xs ++ ys)).token ≡ Some Glued → may_follow ys ≡ false → may_follow zs ≡ false) →
    (piece_at b (xs ++ ys)).size ≤ suc (length xs) → piece_at b (xs ++ zs) ≡ piece_at b (xs ++ ys)
unfolding piece_at
piece_same b xs ys zs a apart le = same_by (is_white b) (b == 37) (b == 123) (b == 125) (b == 34) b xs ys zs a apart le

-- A piece has a byte at least, and ends in the text.

end_within : (inside behind : List ℕ) (n : ℕ) → length inside + length behind ≤ n → (0 < (literal_end inside behind).size) × ((literal_end inside behind).size ≤ suc n)
end_within inside [] n le = (omega arith, omega (arith, le))
end_within inside (b ∷ behind) n le =
    elim (b == 34) as (λ v. (0 < (cond v (closed inside (may_follow behind)) (unclosed inside)).size) × ((cond v (closed inside (may_follow behind)) (unclosed inside)).size ≤ suc n)) [
      | true ↦ (omega arith, omega (arith, le))
      | false ↦ (omega arith, omega (arith, le))
    ]

literal_within : (bytes : List ℕ) → (0 < (literal_piece bytes).size) × ((literal_piece bytes).size ≤ suc (length bytes))
unfolding literal_piece
literal_within bytes =
    let inside : List ℕ = before_first ends_literal bytes in
    end_within inside (drop (length inside) bytes) (length bytes) (omega (arith, before_within ends_literal bytes, length-drop (length inside) bytes))

within_by : (white percent opens closes quote : Bool) (b : ℕ) (bytes : List ℕ) →
    (0 < (piece_by white percent opens closes quote b bytes).size) × ((piece_by white percent opens closes quote b bytes).size ≤ suc (length bytes))
within_by true percent opens closes quote b bytes = (omega arith, omega arith)
within_by false true opens closes quote b bytes = (omega arith, omega (arith, before_within is_line_feed bytes))
within_by false false true closes quote b bytes = (omega arith, omega arith)
within_by false false false true quote b bytes = (omega arith, omega arith)
within_by false false false false true b bytes = literal_within bytes
within_by false false false false false b bytes = (omega arith, omega (arith, before_within ends_word bytes))

pub piece_within : (b : ℕ) (bytes : List ℕ) → (0 < (piece_at b bytes).size) × ((piece_at b bytes).size ≤ suc (length bytes))
unfolding piece_at
piece_within b bytes = within_by (is_white b) (b == 37) (b == 123) (b == 125) (b == 34) b bytes
