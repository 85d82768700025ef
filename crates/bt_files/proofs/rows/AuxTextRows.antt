-- Worked examples: what is written, and that it is read as it was.
use Rattle.std.proofs.Common.{◌≡◌, ℕ, List, [], ◌∷◌, ◌++◌, map, Option, Some, None, refl}
use Rattle.std.specs.Prelude.{codes}
use Rattle.bt_bib.specs.declared.aux_line.Command.{Command}
use Rattle.bt_bib.specs.declared.aux_line.Command.TheVariants.{Citation, Database, Style, Nested}
use Rattle.bt_bib.specs.declared.aux_argument.AuxFault.{AuxFault}
use Rattle.bt_bib.specs.declared.aux_argument.AuxFault.TheVariants.{NoBrace, WhiteSpace, StuffAfter}
use Rattle.bt_bib.specs.declared.aux_line.AuxItem.{AuxItem}
use Rattle.bt_bib.specs.AuxLine.{aux_lines}
use Rattle.bt_files.specs.AuxText.{written, item_with}

abbrev item_at : ℕ → Command → List (List ℕ) → Option AuxFault → AuxItem
item_at line command parts fault = record { line = line; command = command; parts = parts; fault = fault }

-- each command, and gaps between the lines
abbrev four : List AuxItem
four =
    item_at 2 Citation (codes "b" ∷ [] ∷ codes "a" ∷ []) None
    ∷ item_at 3 Database (codes "+/1.bib" ∷ codes "refs" ∷ []) None
    ∷ item_at 6 Style (codes "x,y" ∷ []) None
    ∷ item_at 7 Nested ([] ∷ []) None
    ∷ []

four_written : written four ≡ codes "\n\\citation{b,,a}\n\\bibdata{+/1.bib,refs}\n\n\n\\bibstyle{x,y}\n\\@input{}"
unfolding written
four_written = refl

four_read : aux_lines (written four) ≡ four
unfolding written aux_lines
four_read = refl

-- each fault, after some parts and after none
abbrev faulty : List AuxItem
faulty =
    item_at 1 Citation (codes "b" ∷ codes "a" ∷ []) (Some NoBrace)
    ∷ item_at 2 Citation ([] ∷ []) (Some WhiteSpace)
    ∷ item_at 3 Database (codes "refs" ∷ []) (Some StuffAfter)
    ∷ item_at 4 Database [] (Some WhiteSpace)
    ∷ item_at 5 Style [] (Some NoBrace)
    ∷ item_at 6 Nested [] (Some StuffAfter)
    ∷ []

faulty_written : written faulty ≡ codes "\\citation{b,a,x\n\\citation{,x }\n\\bibdata{refs,x}x\n\\bibdata{x }\n\\bibstyle{x\n\\@input{x}x"
unfolding written
faulty_written = refl

faulty_read : aux_lines (written faulty) ≡ faulty
unfolding written aux_lines
faulty_read = refl

-- other names, and keys that stay
renamed : map (item_with (λ name. codes "+/" ++ name)) (item_at 1 Citation (codes "a" ∷ []) None ∷ item_at 2 Database (codes "b" ∷ codes "c.bib" ∷ []) None ∷ item_at 3 Nested (codes "d.aux" ∷ []) None ∷ [])
    ≡ item_at 1 Citation (codes "a" ∷ []) None ∷ item_at 2 Database (codes "+/b.bib" ∷ codes "+/c.bib" ∷ []) None ∷ item_at 3 Nested (codes "+/d.aux" ∷ []) None ∷ []
renamed = refl
