-- The first fault of a style stands at a token of its text.
use Rattle.std.specs.Prelude.{Option}
use Rattle.std.proofs.Common.{◌≡◌, ◌∙◌, inl, inr, ap, sym, refl, subst, ℕ, suc, ◌+◌, ◌-◌, ◌<◌, ◌≤◌, List, [], ◌∷◌, ◌++◌, length, take, drop, Some, append_assoc, arith}
use Rattle.std.proofs.lemmas.List.{length-take-le, take-append-drop}
use Rattle.bt_style.specs.Token.{Tokens, AtEnd, Front, Token, Piece, piece_at, line_after, tokens_after}
use Rattle.bt_style.specs.inner.Cases.{with_token}
use Rattle.bt_style.specs.Reader.{reading, style_of}
use Rattle.bt_style.specs.laws.Laws.{in_front, first_line, BeginsAs, StandsInFront, StandsInItsText, FaultIsFirstInItsText}
use Rattle.bt_style.proofs.laws.QuoteLemmas.{preset_quoteless}
use Rattle.bt_style.proofs.laws.FirstLemmas.{faulty_text}
use Rattle.bt_style.proofs.laws.PieceLemmas.{alike_by_first, follow_by_first, alike_by_feed, piece_same, piece_within}
use Rattle.bt_style.proofs.laws.CutLemmas.{lines_in, BeginsToken, placed, step, cut}

-- the token before these bytes, and those after it
record Parted (rest : List ℕ) : Type 0 where
  token : List ℕ
  behind : List ℕ
  whole : rest ≡ token ++ behind
  one : StandsInFront token behind

whole_size : (size n : ℕ) → 0 < size → n ≡ size - 1 → size ≡ suc n
whole_size size n some is = omega (arith, some, is)

less_one : (size n : ℕ) → size ≤ suc n → size - 1 ≤ n
less_one size n le = omega (arith, le)

parted : (rest : List ℕ) → BeginsToken rest → Parted rest
parted [] begins = record { token = []; behind = []; whole = refl; one = refl }
parted (b ∷ bytes) begins =
    let size : ℕ = (piece_at b bytes).size in
    let within = piece_within b bytes in
    let same = take-append-drop (size - 1) bytes in
    let sized : size ≡ suc (length (take (size - 1) bytes)) = whole_size size (length (take (size - 1) bytes)) within.0 (length-take-le (size - 1) bytes (less_one size (length bytes) within.1)) in
    let is : piece_at b bytes ≡ record { token = Some begins.0; size = suc (length (take (size - 1) bytes)) } = λ j. record { token = begins.1 j; size = sized j } in
    record {
      token = b ∷ take (size - 1) bytes;
      behind = drop (size - 1) bytes;
      whole = ap (λ (l : List ℕ). b ∷ l) (sym same);
      one = (begins.0, ap (piece_at b) same ∙ is);
    }

first_same : (token behind other : List ℕ) → take 1 other ≡ take 1 behind → take 1 (token ++ other) ≡ take 1 (token ++ behind)
first_same [] behind other e = e
first_same (b ∷ token) behind other e = refl

empty : (other behind : List ℕ) → behind ≡ [] → take 1 other ≡ take 1 behind → other ≡ []
empty [] behind none e = refl
empty (b ∷ other) behind none e = (let no_way : take 1 (b ∷ other) ≡ [] = e ∙ ap (λ (l : List ℕ). take 1 l) none in cc no_way)

ends : (line : ℕ) → tokens_after 0 line [] ≡ AtEnd line
unfolding tokens_after
ends line = refl

-- other bytes after a token leave it as it is
begins_same : (line : ℕ) (token behind other : List ℕ) → StandsInFront token behind → take 1 other ≡ take 1 behind →
    BeginsAs (tokens_after 0 line (token ++ behind)) (tokens_after 0 line (token ++ other))
begins_same line [] behind other none e =
    subst (λ (t : Tokens). BeginsAs t (tokens_after 0 line other)) (sym (ap (tokens_after 0 line) none ∙ ends line)) (ap (tokens_after 0 line) (empty other behind none e) ∙ ends line)
begins_same line (b ∷ more) behind other one e =
    let piece : Piece = record { token = Some one.0; size = suc (length more) } in
    let small : (piece_at b (more ++ behind)).size ≤ suc (length more) = omega (arith, ap (λ (x : Piece). x.size) one.1) in
    let same : piece_at b (more ++ other) ≡ piece = piece_same b more behind other (alike_by_first behind other e) (λ glued. follow_by_first behind other e) small ∙ one.1 in
    let behind_it : List ℕ → Tokens = λ l. tokens_after (suc (length more) - 1) (line_after b line) (more ++ l) in
    let here : tokens_after 0 line (b ∷ (more ++ behind)) ≡ Front one.0 line (behind_it behind) = step b line (more ++ behind) ∙ ap (λ (x : Piece). placed x b line (more ++ behind)) one.1 in
    let there : tokens_after 0 line (b ∷ (more ++ other)) ≡ Front one.0 line (behind_it other) = step b line (more ++ other) ∙ ap (λ (x : Piece). placed x b line (more ++ other)) same in
    subst (λ (t : Tokens). BeginsAs t (tokens_after 0 line (b ∷ (more ++ other)))) (sym here) (behind_it other, there)

line_there : (line : ℕ) (rest : List ℕ) → BeginsToken rest → first_line (tokens_after 0 line rest) ≡ line
line_there line [] begins = ap first_line (ends line)
line_there line (b ∷ bytes) begins =
    ap first_line (step b line bytes ∙ ap (λ (o : Option Token). with_token o line (tokens_after ((piece_at b bytes).size - 1) (line_after b line) bytes)) begins.1)

next_line : (line : ℕ) (bytes : List ℕ) → tokens_after 0 line (10 ∷ bytes) ≡ tokens_after 0 (line + 1) bytes
unfolding tokens_after piece_at
next_line line bytes = refl

pub fault_is_first_in_its_text : FaultIsFirstInItsText
unfolding style_of reading
fault_is_first_in_its_text text f e =
    let found = faulty_text text f e in
    let x = found.0 in
    let c = cut 0 1 text x.front x.here (omega arith) x.whole in
    let line : ℕ = 1 + lines_in c.before in
    let p = parted c.rest c.begins in
    let here : tokens_after 0 line (p.token ++ p.behind) ≡ x.here = ap (tokens_after 0 line) (sym p.whole) ∙ c.at in
    let y = x.first (line + 1) in
    subst (StandsInItsText text) found.1 (record {
      before = c.before;
      token = p.token;
      behind = p.behind;
      whole = c.whole ∙ ap (λ l. c.before ++ l) p.whole ∙ sym (append_assoc c.before p.token p.behind);
      one = p.one;
      line = x.line ∙ sym (ap first_line c.at) ∙ line_there line c.rest c.begins;
      final = λ other same.
          let first : take 1 (p.token ++ other) ≡ take 1 c.rest = first_same p.token p.behind other same ∙ ap (λ (l : List ℕ). take 1 l) (sym p.whole) in
          ap style_of (append_assoc c.before p.token other) ∙ ap reading (c.goes_on (p.token ++ other) (alike_by_first c.rest (p.token ++ other) first) (inr (follow_by_first c.rest (p.token ++ other) first)))
          ∙ x.final (tokens_after 0 line (p.token ++ other)) (subst (λ (t : Tokens). BeginsAs t (tokens_after 0 line (p.token ++ other))) here (begins_same line p.token p.behind other p.one same));
      bytes = 10 ∷ y.0;
      are_bytes = y.1;
      style = y.2;
      first = ap reading (c.goes_on (10 ∷ y.0) (alike_by_feed c.rest y.0) (inl (x.plain preset_quoteless)) ∙ ap (in_front x.front) (next_line line y.0)) ∙ y.3;
    })
