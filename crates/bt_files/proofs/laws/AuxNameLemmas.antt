-- The files that an item names once it has other names.
use Rattle.std.proofs.Common.{◌≡◌, ℕ, ◌-◌, Bool, true, false, List, [], ◌∷◌, ◌++◌, length, map, refl, ap, ◌∙◌, arith}
use Rattle.std.specs.Prelude.{eqb, codes, if◌then◌else◌}
use Rattle.std.specs.List.{ends_with}
use Rattle.std.specs.Str.{bytes_eq}
use Rattle.std.proofs.lemmas.List.{drop_at, length-append}
use Rattle.bt_bib.specs.declared.aux_line.Command.{Command}
use Rattle.bt_bib.specs.declared.aux_line.Command.TheVariants.{Citation, Database, Style, Nested}
use Rattle.bt_job.specs.FileNames.{with_ending}
use Rattle.bt_files.specs.AuxText.{part_with, names_by}
use Rattle.bt_files.specs.laws.AuxText.{KeepsEnding}

added_ending : (name ending : List ℕ) → bytes_eq ending ending ≡ true → ends_with eqb (name ++ ending) ending ≡ true
added_ending name ending same =
    ap (bytes_eq ending) (drop_at name ending (length (name ++ ending) - length ending) (omega (arith, length-append name ending))) ∙ same

has_ending : (name ending : List ℕ) → bytes_eq ending ending ≡ true → ends_with eqb (with_ending ending name) ending ≡ true
has_ending name ending same = by_test (ends_with eqb name ending) refl
  where
    by_test : (test : Bool) → ends_with eqb name ending ≡ test → ends_with eqb (if test then name else name ++ ending) ending ≡ true
    by_test true is = is
    by_test false is = added_ending name ending same

stays : (name ending : List ℕ) → ends_with eqb name ending ≡ true → with_ending ending name ≡ name
stays name ending is = ap (λ (test : Bool). if test then name else name ++ ending) is

names_with : (f : List ℕ → List ℕ) (ending : List ℕ) → bytes_eq ending ending ≡ true → KeepsEnding f ending → (parts : List (List ℕ)) →
    map (with_ending ending) (map (λ part. f (with_ending ending part)) parts) ≡ map f (map (with_ending ending) parts)
names_with f ending same keeps [] = refl
names_with f ending same keeps (part ∷ parts) =
    let first : with_ending ending (f (with_ending ending part)) ≡ f (with_ending ending part) =
    stays (f (with_ending ending part)) ending (keeps (with_ending ending part) (has_ending part ending same)) in
    ap (λ (name : List ℕ). name ∷ map (with_ending ending) (map (λ p. f (with_ending ending p)) parts)) first
    ∙ ap (λ (names : List (List ℕ)). f (with_ending ending part) ∷ names) (names_with f ending same keeps parts)

pub renamed_names : (f : List ℕ → List ℕ) → KeepsEnding f (codes ".bib") → KeepsEnding f (codes ".bst") → (c : Command) (parts : List (List ℕ)) →
    names_by c (map (part_with f c) parts) ≡ map f (names_by c parts)
renamed_names f bib bst Citation parts = refl
renamed_names f bib bst Database parts = names_with f (codes ".bib") refl bib parts
renamed_names f bib bst Style parts = names_with f (codes ".bst") refl bst parts
renamed_names f bib bst Nested parts = refl
