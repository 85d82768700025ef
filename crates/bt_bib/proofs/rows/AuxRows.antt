-- Worked examples: the definitions compute.
use Rattle.std.proofs.Common.{◌≡◌, ℕ, List, [], ◌∷◌, map, Option, Some, None, refl}
use Rattle.std.specs.Prelude.{codes}
use Rattle.bt_bib.specs.declared.aux_line.Command.TheVariants.{Citation, Style, Nested}
use Rattle.bt_bib.specs.declared.aux_argument.AuxFault.{AuxFault}
use Rattle.bt_bib.specs.declared.aux_argument.AuxFault.TheVariants.{NoBrace, WhiteSpace, StuffAfter}
use Rattle.bt_bib.specs.declared.aux_line.AuxItem.{AuxItem}
use Rattle.bt_bib.specs.AuxLine.{aux_lines}

-- the parts and the faults of lines
abbrev read : List AuxItem → List (List (List ℕ) × Option AuxFault)
read items = map (λ i. (i.parts, i.fault)) items

faulty_stuff : read (aux_lines (codes "\\citation{c,a}x")) ≡ (codes "c" ∷ [], Some StuffAfter) ∷ []
unfolding aux_lines
faulty_stuff = refl

faulty_brace : read (aux_lines (codes "\\citation{c,a")) ≡ (codes "c" ∷ [], Some NoBrace) ∷ []
unfolding aux_lines
faulty_brace = refl

faulty_white : read (aux_lines (codes "\\citation{a b}")) ≡ ([], Some WhiteSpace) ∷ []
unfolding aux_lines
faulty_white = refl

-- Trailing white space is removed first; other lines are ignored; a comma is a byte of a style's name; a part may be
-- empty.
four_lines : aux_lines (codes "\\relax\n\\citation{,a,} \t\r\n \\citation{b}\n\\bibstyle{x,y}\n\\@input{}")
    ≡ (record { line = 2; command = Citation; parts = [] ∷ codes "a" ∷ [] ∷ []; fault = None })
    ∷ (record { line = 4; command = Style; parts = codes "x,y" ∷ []; fault = None })
    ∷ (record { line = 5; command = Nested; parts = [] ∷ []; fault = None })
    ∷ []
unfolding aux_lines
four_lines = refl
