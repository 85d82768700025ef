-- How the tokens of a text follow from its front piece and from what stands after it.
use Rattle.std.proofs.Common.{◌≡◌, ℕ, zero, suc, ◌+◌, ◌-◌, ◌<◌, true, false, cond, List, [], ◌∷◌, length, take, drop, refl, sym, ◌∙◌, ap, arith, count_by, add-zero}
use Rattle.std.proofs.Math.Seq.{take-nil, drop-nil}
use Rattle.std.proofs.lemmas.List.Sums.{sum_by-cons}
use Rattle.std.specs.Prelude.{Option}
use Rattle.bt_text.specs.ByteTests.{is_line_feed}
use Rattle.bt_style.specs.Token.{AtEnd, piece_at, line_after, tokens_after}
use Rattle.bt_style.specs.inner.Cases.{with_token}
use Rattle.bt_style.specs.inner.Cursor.{front_piece, IsPiece, maybe_placed}
use Rattle.bt_style.specs.declared.token.TokenKind.{TokenKind}

pub line_after_is : (b line : ℕ) → line_after b line ≡ line + cond (is_line_feed b) 1 0
line_after_is b line =
    elim (is_line_feed b) as (λ v. cond v (line + 1) line ≡ line + cond v 1 0) [ true ↦ refl | false ↦ sym (add-zero line) ]

-- covered bytes are passed, with their lines
pub passed : (covered line : ℕ) (bytes : List ℕ) →
    tokens_after covered line bytes ≡ tokens_after 0 (line + count_by is_line_feed (take covered bytes)) (drop covered bytes)
unfolding tokens_after
passed covered line [] = rw (take-nil {A = ℕ}, drop-nil {A = ℕ}, add-zero)
passed zero line (b ∷ bytes) = rw add-zero
passed (suc covered) line (b ∷ bytes) =
    passed covered (line_after b line) bytes ∙ ap (λ n. tokens_after 0 n (drop covered bytes))
    (omega (arith, line_after_is b line, sum_by-cons (λ x. cond (is_line_feed x) 1 0) b (take covered bytes)))

behind_piece : (size line b : ℕ) (bytes : List ℕ) → 0 < size →
    tokens_after (size - 1) (line_after b line) bytes ≡ tokens_after 0 (line + count_by is_line_feed (take size (b ∷ bytes))) (drop size (b ∷ bytes))
unfolding tokens_after
behind_piece zero line b bytes h = absurd (omega arith)
behind_piece (suc n) line b bytes h = let e : suc n - 1 ≡ n = omega arith in rw e (passed (suc n) line (b ∷ bytes))

-- the front piece, and what stands after it
pub front : (line : ℕ) (text : List ℕ) (found : Option TokenKind) (size : ℕ) → 0 < length text →
    IsPiece (front_piece text) found size (length text) →
    tokens_after 0 line text ≡ maybe_placed found line (tokens_after 0 (line + count_by is_line_feed (take size text)) (drop size text))
unfolding tokens_after
front line [] found size h p = absurd (omega arith)
front line (b ∷ bytes) found size h p =
    ap (with_token (piece_at b bytes).token line)
    (ap (λ n. tokens_after (n - 1) (line_after b line) bytes) p.size ∙ behind_piece size line b bytes p.some)
    ∙ p.token line _

pub at_end : (line : ℕ) (text : List ℕ) → length text ≡ 0 → tokens_after 0 line text ≡ AtEnd line
unfolding tokens_after
at_end line [] h = refl
at_end line (b ∷ bytes) h = absurd (omega arith)
