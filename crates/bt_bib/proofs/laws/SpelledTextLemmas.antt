-- The text between braces or quotes is read as it is spelled.
use Rattle.std.specs.Prelude.{◌==◌, ◌&&◌}
use Rattle.std.proofs.Common.{◌≡◌, ℕ, suc, ◌+◌, ◌-◌, Bool, true, false, cond, List, ◌∷◌, ◌++◌, length, take, Ok, refl, sym, ap, ◌∙◌, append_assoc, arith}
use Rattle.std.proofs.lemmas.List.{take_at}
use Rattle.std.proofs.lemmas.Bool.{eq-eqb, ne_eqb, false≢true, or_parts}
use Rattle.bt_text.specs.ByteTests.{is_brace, left_brace, right_brace}
use Rattle.bt_bib.specs.declared.spot.Spot.{Spot}
use Rattle.bt_bib.specs.declared.enclosure.Turn.TheVariants as turns
use Rattle.bt_bib.specs.Spot.{at, spot_after_byte, spot_after}
use Rattle.bt_bib.specs.inner.Enclosure.{turn}
use Rattle.bt_bib.specs.laws.Spelling.{IsEnclosed, Nothing, Byte, Group}
use Rattle.bt_bib.specs.laws.SpelledLaws.{EnclosedTextsAreRead}
use Rattle.bt_bib.proofs.RunLemmas.{passed-nil, passed-cons}
use Rattle.bt_bib.proofs.ReachLemmas.{passed-append}
use Rattle.bt_bib.proofs.EnclosedLemmas.{taken, enclosed_run, enclosed_is_run, enclosed_cons}

pub and_none : (v : Bool) → (v && false) ≡ false
and_none true = refl
and_none false = refl

pub not_none : (d : ℕ) → (suc d == 0) ≡ false
not_none d = ne_eqb (suc d) 0 (λ e. omega arith)

-- what a byte other than a brace does, and what braces do, inside braces and outside
same_deep : (close d b : ℕ) → is_brace b ≡ false → turn close (suc d) b ≡ turns.Goes (suc d)
same_deep close d b bare = (let n = or_parts (b == left_brace) (b == right_brace) bare in rw (not_none d, n.0, n.1) (ap (λ v. cond v turns.Closes (turns.Goes (suc d))) (and_none (b == close))))

same_flat : (close b : ℕ) → is_brace b ≡ false → (b == close) ≡ false → turn close 0 b ≡ turns.Goes 0
same_flat close b bare apart = (let n = or_parts (b == left_brace) (b == right_brace) bare in rw (apart, n.0, n.1) refl)

up_deep : (close d : ℕ) → turn close (suc d) left_brace ≡ turns.Goes (suc (suc d))
up_deep close d =
    let more : suc d + 1 ≡ suc (suc d) = omega arith in
    ap (λ v. cond (left_brace == close && v) turns.Closes (turns.Goes (suc d + 1))) (not_none d) ∙ ap (λ v. cond v turns.Closes (turns.Goes (suc d + 1))) (and_none (left_brace == close)) ∙ ap (λ n. turns.Goes n) more

up_flat : (close : ℕ) → (close == left_brace) ≡ false → turn close 0 left_brace ≡ turns.Goes 1
up_flat close apart =
    let other : (left_brace == close) ≡ false = ne_eqb left_brace close (λ e. false≢true (sym apart ∙ eq-eqb close left_brace (sym e))) in
    ap (λ v. cond (v && true) turns.Closes (turns.Goes 1)) other

down : (close d : ℕ) → turn close (suc d) right_brace ≡ turns.Goes d
down close d =
    let less : suc d - 1 ≡ d = omega arith in
    ap (λ v. cond (right_brace == close && v) turns.Closes (cond v turns.Breaks (turns.Goes (suc d - 1)))) (not_none d) ∙ ap (λ v. cond v turns.Closes (turns.Goes (suc d - 1))) (and_none (right_brace == close)) ∙ ap (λ n. turns.Goes n) less

shuts : (close : ℕ) → turn close 0 close ≡ turns.Closes
shuts close = rw (eq-eqb close close refl) refl

behind_group : (inner rest : List ℕ) (s : Spot) → spot_after rest (spot_after_byte right_brace (spot_after inner (spot_after_byte left_brace s))) ≡ spot_after (left_brace ∷ inner ++ right_brace ∷ rest) s
behind_group inner rest s =
    sym (passed-cons left_brace (inner ++ right_brace ∷ rest) s ∙ passed-append inner (right_brace ∷ rest) (spot_after_byte left_brace s) ∙ passed-cons right_brace rest (spot_after inner (spot_after_byte left_brace s)))

-- Inside braces, the reader passes each text that braces may enclose.
deep : (close d c : ℕ) (s : Spot) (text rest : List ℕ) → IsEnclosed c text → enclosed_run close (suc d) s (text ++ rest) ≡ enclosed_run close (suc d) (spot_after text s) rest
deep close d c s text rest Nothing = ap (λ s. enclosed_run close (suc d) s rest) (sym (passed-nil s))
deep close d c s text rest (Byte {b = b} {rest = bs} bare apart more) =
    enclosed_cons close (suc d) s b (bs ++ rest) (turns.Goes (suc d)) (sym (same_deep close d b bare)) ∙ deep close d c (spot_after_byte b s) bs rest more ∙ ap (λ s. enclosed_run close (suc d) s rest) (sym (passed-cons b bs s))
deep close d c s text rest (Group {inner = i} {rest = u} inner more) =
    let t = spot_after_byte left_brace s in
    let last = spot_after i t in
    enclosed_cons close (suc d) s left_brace (i ++ right_brace ∷ u ++ rest) (turns.Goes (suc (suc d))) (sym (up_deep close d))
    ∙ ap (enclosed_run close (suc (suc d)) t) (append_assoc i (right_brace ∷ u) rest)
    ∙ deep close (suc d) right_brace t i (right_brace ∷ (u ++ rest)) inner
    ∙ enclosed_cons close (suc (suc d)) last right_brace (u ++ rest) (turns.Goes (suc d)) (sym (down close (suc d)))
    ∙ deep close d c (spot_after_byte right_brace last) u rest more
    ∙ ap (λ s. enclosed_run close (suc d) s rest) (behind_group i u s)

flat : (close : ℕ) (s : Spot) (text rest : List ℕ) → (close == left_brace) ≡ false → IsEnclosed close text → enclosed_run close 0 s (text ++ rest) ≡ enclosed_run close 0 (spot_after text s) rest
flat close s text rest other Nothing = ap (λ s. enclosed_run close 0 s rest) (sym (passed-nil s))
flat close s text rest other (Byte {b = b} {rest = bs} bare apart more) =
    enclosed_cons close 0 s b (bs ++ rest) (turns.Goes 0) (sym (same_flat close b bare apart)) ∙ flat close (spot_after_byte b s) bs rest other more ∙ ap (λ s. enclosed_run close 0 s rest) (sym (passed-cons b bs s))
flat close s text rest other (Group {inner = i} {rest = u} inner more) =
    let t = spot_after_byte left_brace s in
    let last = spot_after i t in
    enclosed_cons close 0 s left_brace (i ++ right_brace ∷ u ++ rest) (turns.Goes 1) (sym (up_flat close other))
    ∙ ap (enclosed_run close 1 t) (append_assoc i (right_brace ∷ u) rest)
    ∙ deep close 0 right_brace t i (right_brace ∷ (u ++ rest)) inner
    ∙ enclosed_cons close 1 last right_brace (u ++ rest) (turns.Goes 0) (sym (down close 0))
    ∙ flat close (spot_after_byte right_brace last) u rest other more
    ∙ ap (λ s. enclosed_run close 0 s rest) (behind_group i u s)

pub enclosed_texts_are_read : EnclosedTextsAreRead
enclosed_texts_are_read close s text rest other is =
    let h = at s (text ++ close ∷ rest) in
    let e = at (spot_after text s) (close ∷ rest) in
    let size : s.place + length text - s.place ≡ length text = omega arith in
    enclosed_is_run close h
    ∙ ap (taken h) (flat close s text (close ∷ rest) other is ∙ enclosed_cons close 0 (spot_after text s) close rest turns.Closes (sym (shuts close)))
    ∙ ap (λ (t : List ℕ). Ok (t, e)) (ap (λ n. take n (text ++ close ∷ rest)) size ∙ take_at text (close ∷ rest) (length text) refl)
