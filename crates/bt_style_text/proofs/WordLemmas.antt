-- How the words of a text follow from its front piece and from what stands after it.
use Rattle.std.proofs.Common.{◌≡◌, ℕ, zero, suc, ◌+◌, ◌-◌, ◌<◌, List, [], ◌∷◌, ◌++◌, length, drop, refl, sym, ◌∙◌, ap, append_assoc, arith, add-zero}
use Rattle.std.proofs.Math.Seq.{drop-nil}
use Rattle.std.proofs.lemmas.List.{append-nil}
use Rattle.std.specs.Prelude.{Option}
use Rattle.bt_style.specs.Token.{piece_at}
use Rattle.bt_style_text.specs.Words.{kind_of, placed, words_after}
use Rattle.bt_style_text.specs.inner.Words.{front_byte, front_piece, IsPiece}
use Rattle.bt_style_text.specs.declared.words.WordKind.{WordKind}
use Rattle.bt_style_text.specs.declared.words.Word.{Word}

-- covered bytes are passed
passed : (covered place : ℕ) (bytes : List ℕ) → words_after covered place bytes ≡ words_after 0 (place + covered) (drop covered bytes)
unfolding words_after
passed covered place [] = rw (drop-nil {A = ℕ}) refl
passed zero place (b ∷ bytes) = rw add-zero
passed (suc covered) place (b ∷ bytes) =
    passed covered (place + 1) bytes ∙ ap (λ n. words_after 0 n (drop covered bytes)) (omega arith)

behind_piece : (size place b : ℕ) (bytes : List ℕ) → 0 < size →
    words_after (size - 1) (place + 1) bytes ≡ words_after 0 (place + size) (drop size (b ∷ bytes))
unfolding words_after
behind_piece zero place b bytes h = absurd (omega arith)
behind_piece (suc n) place b bytes h = let e : suc n - 1 ≡ n = omega arith in rw e (passed (suc n) place (b ∷ bytes))

-- the front piece, and what stands after it
front : (place : ℕ) (text : List ℕ) (found : Option WordKind) (size : ℕ) → 0 < length text →
    IsPiece (front_byte text) (front_piece text) found size (length text) →
    words_after 0 place text ≡ placed found place (place + size) ++ words_after 0 (place + size) (drop size text)
unfolding words_after
front place [] found size h p = absurd (omega arith)
front place (b ∷ bytes) found size h p =
    ap (λ k. placed k place (place + (piece_at b bytes).size) ++ words_after ((piece_at b bytes).size - 1) (place + 1) bytes) p.kind ∙
    ap (λ n. placed found place (place + n) ++ words_after (n - 1) (place + 1) bytes) p.size ∙
    ap (λ ws. placed found place (place + size) ++ ws) (behind_piece size place b bytes p.some)

-- one turn of the loop over pieces
pub next_words : (old new : List Word) (place : ℕ) (text : List ℕ) (found : Option WordKind) (size : ℕ) (whole : List Word) → 0 < length text →
    IsPiece (front_byte text) (front_piece text) found size (length text) → new ≡ old ++ placed found place (place + size) →
    old ++ words_after 0 place text ≡ whole → new ++ words_after 0 (place + size) (drop size text) ≡ whole
next_words old new place text found size whole h p more before =
    ap (λ ws. ws ++ words_after 0 (place + size) (drop size text)) more ∙
    append_assoc old (placed found place (place + size)) (words_after 0 (place + size) (drop size text)) ∙
    ap (λ ws. old ++ ws) (sym (front place text found size h p)) ∙ before

at_end : (place : ℕ) (text : List ℕ) → length text ≡ 0 → words_after 0 place text ≡ []
unfolding words_after
at_end place [] h = refl
at_end place (b ∷ bytes) h = absurd (omega arith)

-- behind the last piece
pub all_words : (found : List Word) (place : ℕ) (text : List ℕ) (whole : List Word) → length text ≡ 0 → found ++ words_after 0 place text ≡ whole → found ≡ whole
all_words found place text whole none before = sym (append-nil found) ∙ ap (λ ws. found ++ ws) (sym (at_end place text none)) ∙ before
