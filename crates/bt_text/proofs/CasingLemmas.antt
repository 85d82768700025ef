-- The steps of a change of case.
use Rattle.std.proofs.Common.{◌≡◌, ℕ, cond, List, [], ◌∷◌, ◌++◌, fold, flat_map, append_assoc, refl, sym, ap, ◌∙◌}
use Rattle.bt_text.specs.declared.modes.Mode.{Mode}
use Rattle.bt_text.specs.Blocks.{blocks}
use Rattle.bt_text.specs.CaseChange.{changed_after, changed_block, changed_case}
use Rattle.bt_text.specs.Special.{Symbol, control, symbols}
use Rattle.bt_text.specs.inner.TitlePlace.{TitlePlace, is_spared_at, next_place, title_place_after}
use Rattle.bt_text.proofs.TitlePlaceLemmas.{title_place_after-append, spared_at_place}

-- the step of a loop over the symbols of a special character
pub control_step : (f : Symbol → List ℕ) (out s name gap after : List ℕ) → symbols s ≡ control name gap ∷ symbols after → (out ++ f (control name gap)) ++ flat_map f (symbols after) ≡ out ++ flat_map f (symbols s)
control_step f out s name gap after e = append_assoc out (f (control name gap)) (flat_map f (symbols after)) ∙ ap (λ l. out ++ flat_map f l) (sym e)

-- blocks that begin at a place
abbrev pub changed_from : Mode → TitlePlace → List (List ℕ) → List ℕ
changed_from mode place [] = []
changed_from mode place (block ∷ rest) = cond (is_spared_at mode place) block (changed_block mode block) ++ changed_from mode (fold next_place place block) rest

-- Of the bytes in front only their place matters.
changed_behind_from : (mode : Mode) (front : List ℕ) (bs : List (List ℕ)) → changed_after mode front bs ≡ changed_from mode (title_place_after front) bs
changed_behind_from mode front [] = refl
changed_behind_from mode front (block ∷ rest) =
    ap (λ s. cond s block (changed_block mode block) ++ changed_after mode (front ++ block) rest) (spared_at_place mode front) ∙ ap (λ l. cond (is_spared_at mode (title_place_after front)) block (changed_block mode block) ++ l) (changed_behind_from mode (front ++ block) rest ∙ ap (λ place. changed_from mode place rest) (title_place_after-append front block))

pub changed_from_start : (mode : Mode) (t : List ℕ) → changed_case mode t ≡ changed_from mode (title_place_after []) (blocks t)
changed_from_start mode t = changed_behind_from mode [] (blocks t)
