-- A text is cut before a token: its tokens up to there stay the same, whatever stands after the cut, but for the first
-- byte there.
use Rattle.std.specs.List.{count_by}
use Rattle.std.proofs.Common.{◌≡◌, ◌∙◌, ◌⊎◌, inl, inr, ap, sym, refl, subst, ℕ, zero, suc, ◌+◌, ◌-◌, ◌≤◌, false, cond, List, [], ◌∷◌, ◌++◌, length, Option, Some, None, arith, add-zero}
use Rattle.std.proofs.lemmas.List.Sums.{sum_by-cons}
use Rattle.bt_text.specs.ByteTests.{is_line_feed}
use Rattle.bt_style.specs.Token.{Token, Open, Glued, Tokens, AtEnd, Front, Piece, may_follow, piece_at, line_after, tokens_after}
use Rattle.bt_style.specs.inner.Cases.{with_token}
use Rattle.bt_style.specs.laws.Laws.{in_front}
use Rattle.bt_style.proofs.laws.ReaderLemmas.{IsPlain, ArePlain}
use Rattle.bt_style.proofs.TokenLemmas.{line_after_is}
use Rattle.bt_style.proofs.laws.PieceLemmas.{EndAlike, piece_same, piece_within}

-- the lines of some bytes
abbrev pub lines_in : List ℕ → ℕ
lines_in bytes = count_by is_line_feed bytes

lines_more : (b line : ℕ) (before : List ℕ) → line_after b line + lines_in before ≡ line + lines_in (b ∷ before)
lines_more b line before = omega (arith, line_after_is b line, sum_by-cons (λ x. cond (is_line_feed x) 1 0) b before)

-- a token begins there, or the text ends
abbrev pub BeginsToken : List ℕ → Type 0
BeginsToken [] = Unit {0}
BeginsToken (b ∷ bytes) = (token : Token) × ((piece_at b bytes).token ≡ Some token)

-- What stands after the cut may be put in the place of what stood there: no token in front is a text with a wrong byte
-- after it, or no word can follow still.
abbrev pub Fits : List (Token × ℕ) → List ℕ → List ℕ → Type 0
Fits front rest other = ArePlain front ⊎ (may_follow rest ≡ false → may_follow other ≡ false)

-- the bytes before the cut, of which the first so many belong to a piece that began before, and those after it
pub record Cut (covered line : ℕ) (bytes : List ℕ) (front : List (Token × ℕ)) (here : Tokens) : Type 0 where
  pub before : List ℕ
  pub rest : List ℕ
  pub whole : bytes ≡ before ++ rest
  pub within : covered ≤ length before
  pub begins : BeginsToken rest
  pub at : tokens_after 0 (line + lines_in before) rest ≡ here
  pub goes_on : (other : List ℕ) → EndAlike rest other → Fits front rest other → tokens_after covered line (before ++ other) ≡ in_front front (tokens_after 0 (line + lines_in before) other)

cut_here : (line : ℕ) (bytes : List ℕ) (here : Tokens) → BeginsToken bytes → tokens_after 0 line bytes ≡ here → Cut 0 line bytes [] here
cut_here line bytes here begins e =
    let none : line ≡ line + 0 = sym (add-zero line) in
    record {
      before = [];
      rest = bytes;
      whole = refl;
      within = omega arith;
      begins = begins;
      at = ap (λ n. tokens_after 0 n bytes) (add-zero line) ∙ e;
      goes_on = λ other a f. ap (λ n. tokens_after 0 n other) none;
    }

-- a byte more before the cut, by what it is read as
cut_behind : (covered later b line : ℕ) (bytes : List ℕ) (front more : List (Token × ℕ)) (here : Tokens) → (c : Cut later (line_after b line) bytes more here) → covered ≤ suc (length c.before) →
    ((other : List ℕ) → EndAlike c.rest other → Fits front c.rest other → tokens_after covered line (b ∷ (c.before ++ other)) ≡ in_front front (tokens_after 0 (line_after b line + lines_in c.before) other)) →
    Cut covered line (b ∷ bytes) front here
cut_behind covered later b line bytes front more here c within goes_on = record {
  before = b ∷ c.before;
  rest = c.rest;
  whole = ap (λ (l : List ℕ). b ∷ l) c.whole;
  within = omega (arith, within);
  begins = c.begins;
  at = ap (λ n. tokens_after 0 n c.rest) (sym (lines_more b line c.before)) ∙ c.at;
  goes_on = λ other a f. goes_on other a f ∙ ap (λ n. in_front front (tokens_after 0 n other)) (lines_more b line c.before);
}

-- a text with a wrong byte after it isn't plain
not_glued : (o : Option Token) (token : Token) → o ≡ Some token → IsPlain token → o ≡ Some Glued → ⊥
not_glued o token is plain glued =
    let same : token ≡ Glued = (let both : Some token ≡ Some Glued = sym is ∙ glued in cc both) in
    subst IsPlain same plain

-- the piece in front is the same with other bytes after the cut
same_piece : (b line later : ℕ) (bytes : List ℕ) (more : List (Token × ℕ)) (here : Tokens) (c : Cut later line bytes more here) → (piece_at b bytes).size ≤ suc later → (other : List ℕ) →
    EndAlike c.rest other → ((piece_at b bytes).token ≡ Some Glued → may_follow c.rest ≡ false → may_follow other ≡ false) → piece_at b (c.before ++ other) ≡ piece_at b bytes
same_piece b line later bytes more here c le other a apart =
    let P : List ℕ → Type 0 = λ l. (piece_at b l).token ≡ Some Glued → may_follow c.rest ≡ false → may_follow other ≡ false in
    let size : (piece_at b (c.before ++ c.rest)).size ≤ suc (length c.before) = omega (arith, subst (λ (l : List ℕ). (piece_at b l).size ≤ suc later) c.whole le, c.within) in
    piece_same b c.before c.rest other a (subst P c.whole apart) size ∙ sym (ap (piece_at b) c.whole)

abbrev pub placed : Piece → ℕ → ℕ → List ℕ → Tokens
placed piece b line bytes = with_token piece.token line (tokens_after (piece.size - 1) (line_after b line) bytes)

pub step : (b line : ℕ) (bytes : List ℕ) → tokens_after 0 line (b ∷ bytes) ≡ placed (piece_at b bytes) b line bytes
unfolding tokens_after
step b line bytes = refl

size_left : (n m : ℕ) → n ≤ suc m → n - 1 ≤ m
size_left n m le = omega (arith, le)

size_back : (n : ℕ) → n ≤ suc (n - 1)
size_back n = omega arith

-- the piece in front is no token
cut_gap : (b line : ℕ) (bytes : List ℕ) (front : List (Token × ℕ)) (here : Tokens) → (piece_at b bytes).token ≡ None → Cut ((piece_at b bytes).size - 1) (line_after b line) bytes front here →
    Cut 0 line (b ∷ bytes) front here
cut_gap b line bytes front here none c =
    let size : ℕ = (piece_at b bytes).size in
    cut_behind 0 (size - 1) b line bytes front front here c (omega arith) (λ other a f.
    let same = same_piece b (line_after b line) (size - 1) bytes front here c (size_back size) other a (λ glued. (let no_way : None ≡ Some Glued = sym none ∙ glued in cc no_way)) in
    step b line (c.before ++ other) ∙ ap (λ (x : Piece). placed x b line (c.before ++ other)) same
    ∙ ap (λ (o : Option Token). with_token o line (tokens_after (size - 1) (line_after b line) (c.before ++ other))) none ∙ c.goes_on other a f)

-- it is a token
fits_behind : (token : Token) (line : ℕ) (front : List (Token × ℕ)) (rest other : List ℕ) → Fits ((token, line) ∷ front) rest other → Fits front rest other
fits_behind token line front rest other f = elim f [ inl plain ↦ inl plain.1 | inr follows ↦ inr follows ]

fits_apart : (o : Option Token) (token : Token) (line : ℕ) (front : List (Token × ℕ)) (rest other : List ℕ) → o ≡ Some token → Fits ((token, line) ∷ front) rest other →
    o ≡ Some Glued → may_follow rest ≡ false → may_follow other ≡ false
fits_apart o token line front rest other is f glued = elim f [ inl plain ↦ absurd (not_glued o token is plain.0 glued) | inr follows ↦ follows ]

cut_token : (b line : ℕ) (bytes : List ℕ) (token : Token) (front : List (Token × ℕ)) (here : Tokens) → (piece_at b bytes).token ≡ Some token →
    Cut ((piece_at b bytes).size - 1) (line_after b line) bytes front here → Cut 0 line (b ∷ bytes) ((token, line) ∷ front) here
cut_token b line bytes token front here is c =
    let size : ℕ = (piece_at b bytes).size in
    cut_behind 0 (size - 1) b line bytes ((token, line) ∷ front) front here c (omega arith) (λ other a f.
    let same = same_piece b (line_after b line) (size - 1) bytes front here c (size_back size) other a (fits_apart (piece_at b bytes).token token line front c.rest other is f) in
    step b line (c.before ++ other) ∙ ap (λ (x : Piece). placed x b line (c.before ++ other)) same
    ∙ ap (λ (o : Option Token). with_token o line (tokens_after (size - 1) (line_after b line) (c.before ++ other))) is
    ∙ ap (Front token line) (c.goes_on other a (fits_behind token line front c.rest other f)))

-- The cut before the token that stands after some

cut_covered : (covered b line : ℕ) (bytes : List ℕ) (front : List (Token × ℕ)) (here : Tokens) → Cut covered (line_after b line) bytes front here → Cut (suc covered) line (b ∷ bytes) front here
unfolding tokens_after
cut_covered covered b line bytes front here c = cut_behind (suc covered) covered b line bytes front front here c (omega (arith, c.within)) (λ other a f. c.goes_on other a f)

abbrev first_token : Tokens → Token × ℕ
first_token (AtEnd line) = (Open, line)
first_token (Front token line rest) = (token, line)

abbrev behind_first : Tokens → Tokens
behind_first (AtEnd line) = AtEnd line
behind_first (Front token line rest) = rest

by_piece : (b line : ℕ) (bytes : List ℕ) (front : List (Token × ℕ)) (here : Tokens) (o : Option Token) → (piece_at b bytes).token ≡ o → tokens_after 0 line (b ∷ bytes) ≡ in_front front here →
    ((later : List (Token × ℕ)) → tokens_after ((piece_at b bytes).size - 1) (line_after b line) bytes ≡ in_front later here →
    Cut ((piece_at b bytes).size - 1) (line_after b line) bytes later here) → Cut 0 line (b ∷ bytes) front here
by_piece b line bytes front here None is e later =
    let rest : Tokens = tokens_after ((piece_at b bytes).size - 1) (line_after b line) bytes in
    cut_gap b line bytes front here is (later front (sym (step b line bytes ∙ ap (λ (o : Option Token). with_token o line rest) is) ∙ e))
by_piece b line bytes [] here (Some token) is e later = cut_here line (b ∷ bytes) here (token, is) e
by_piece b line bytes (t ∷ front) here (Some token) is e later =
    let rest : Tokens = tokens_after ((piece_at b bytes).size - 1) (line_after b line) bytes in
    let both : Front token line rest ≡ Front t.0 t.1 (in_front front here) = sym (step b line bytes ∙ ap (λ (o : Option Token). with_token o line rest) is) ∙ e in
    let same : (token, line) ≡ t = ap first_token both in
    subst (λ (u : Token × ℕ). Cut 0 line (b ∷ bytes) (u ∷ front) here) same (cut_token b line bytes token front here is (later front (ap behind_first both)))

pub cut : (covered line : ℕ) (bytes : List ℕ) (front : List (Token × ℕ)) (here : Tokens) → covered ≤ length bytes → tokens_after covered line bytes ≡ in_front front here → Cut covered line bytes front here
unfolding tokens_after
cut zero line [] [] here le e = cut_here line [] here tt e
cut zero line [] (t ∷ front) here le e = cc
cut (suc covered) line [] front here le e = absurd (omega (arith, le))
cut zero line (b ∷ bytes) front here le e =
    by_piece b line bytes front here (piece_at b bytes).token refl e
    (λ later h. cut ((piece_at b bytes).size - 1) (line_after b line) bytes later here (size_left (piece_at b bytes).size (length bytes) (piece_within b bytes).1) h)
cut (suc covered) line (b ∷ bytes) front here le e = cut_covered covered b line bytes front here (cut covered (line_after b line) bytes front here (omega (arith, le)) e)
