-- Searches and runs, step by step.
use Rattle.std.proofs.Common.{◌≡◌, ℕ, zero, suc, ◌+◌, ◌-◌, ◌<◌, ◌≤◌, List, [], ◌∷◌, length, drop, get_or, Option, refl, sym, ap, ◌∙◌, arith}
use Rattle.std.proofs.lemmas.List.{drop_more, drop_all}
use Rattle.bt_job.specs.declared.files.File.{File}
use Rattle.bt_bib.specs.declared.aux_line.AuxItem.{AuxItem}
use Rattle.bt_job.specs.declared.progress.Progress.{Progress}
use Rattle.bt_job.specs.declared.progress.Outcome.{Outcome}
use Rattle.bt_job.specs.FileNames.{text_of}
use Rattle.bt_job.specs.inner.LineEffects.{item_taken}
use Rattle.bt_job.specs.inner.NestedFiles.{in_place, lines_taken, opened, file_taken}

-- an item of a list, with the items after it
pub drop_at : {A : Type 0} → (xs : List A) (i : ℕ) (x : A) → i < length xs → x ≡ get_or xs i x → drop i xs ≡ x ∷ drop (i + 1) xs
drop_at xs i x lt is = drop_more xs i x lt ∙ ap (λ y. y ∷ drop (i + 1) xs) (sym is)

-- a line before others
pub line_cons : (nested : List ℕ → Progress → Progress) (files : List File) (file : List ℕ) (item : AuxItem) (items : List AuxItem) (r : Progress) → lines_taken nested files file (item ∷ items) r ≡ lines_taken nested files file items (in_place nested file item.line (item_taken files item r))
unfolding lines_taken
line_cons nested files file item items r = refl

-- no line
pub lines_nil : (nested : List ℕ → Progress → Progress) (files : List File) (file : List ℕ) (r : Progress) → lines_taken nested files file [] r ≡ r
unfolding lines_taken
lines_nil nested files file r = refl

-- the lines are at their end
pub lines_end : (nested : List ℕ → Progress → Progress) (files : List File) (file : List ℕ) (items : List AuxItem) (i : ℕ) (r x : Progress) → length items ≤ i → lines_taken nested files file (drop i items) r ≡ x → r ≡ x
lines_end nested files file items i r x le same = sym (ap (λ is. lines_taken nested files file is r) (drop_all i items le) ∙ lines_nil nested files file r) ∙ same

-- one more line
pub line_more : (nested : List ℕ → Progress → Progress) (files : List File) (file : List ℕ) (items : List AuxItem) (i : ℕ) (item : AuxItem) (r r1 r2 x : Progress) (o : Outcome)
    → i < length items → item ≡ get_or items i item → (r1, o) ≡ item_taken files item r → r2 ≡ in_place nested file item.line (r1, o)
    → lines_taken nested files file (drop i items) r ≡ x → lines_taken nested files file (drop (i + 1) items) r2 ≡ x
line_more nested files file items i item r r1 r2 x o lt is taken placed same =
    let behind = drop (i + 1) items in
    ap (lines_taken nested files file behind) (placed ∙ ap (in_place nested file item.line) taken)
    ∙ sym (ap (λ is. lines_taken nested files file is r) (drop_at items i item lt is) ∙ line_cons nested files file item behind r) ∙ same

-- a file within the bound
pub file_suc : (bound : ℕ) (files : List File) (level : ℕ) (file : List ℕ) (r : Progress) → file_taken (suc bound) files level file r ≡ opened (file_taken bound files (level + 1)) files level file (text_of files file) r
unfolding file_taken
file_suc bound files level file r = refl

-- a file past the bound
pub file_zero : (bound : ℕ) (files : List File) (level : ℕ) (file : List ℕ) (r : Progress) → bound ≡ 0 → r ≡ file_taken bound files level file r
unfolding file_taken
file_zero zero files level file r h = refl
file_zero (suc bound) files level file r h = absurd (omega arith)

-- a file within the bound, which has this text
pub file_opens : (bound : ℕ) (files : List File) (level : ℕ) (file : List ℕ) (o : Option (List ℕ)) (r : Progress) → (bound ≡ 0 → ⊥) → o ≡ text_of files file
    → file_taken bound files level file r ≡ opened (file_taken (bound - 1) files (level + 1)) files level file o r
file_opens zero files level file o r h is = absurd (h refl)
file_opens (suc bound) files level file o r h is =
    let one : suc bound - 1 ≡ bound = omega arith in
    file_suc bound files level file r ∙ ap (λ t. opened (file_taken bound files (level + 1)) files level file t r) (sym is)
    ∙ ap (λ n. opened (file_taken n files (level + 1)) files level file o r) (sym one)

-- the same, with levels counted from the root
pub opens_within : (bound : ℕ) (files : List File) (file : List ℕ) (o : Option (List ℕ)) (r : Progress) → bound ≤ length files + 1 → (bound ≡ 0 → ⊥) → o ≡ text_of files file
    → file_taken bound files (length files + 1 - bound) file r
    ≡ opened (file_taken (bound - 1) files (length files + 1 - (bound - 1))) files (length files + 1 - bound) file o r
opens_within bound files file o r few some is =
    let level = length files + 1 - bound in
    let next : level + 1 ≡ length files + 1 - (bound - 1) = omega (arith, few, some) in
    file_opens bound files level file o r some is
    ∙ ap (λ n. opened (file_taken (bound - 1) files n) files level file o r) next
