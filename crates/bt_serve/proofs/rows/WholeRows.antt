-- Worked examples: the commands that inputs are cut into.
use Rattle.std.specs.Prelude.{codes}
use Rattle.std.proofs.Common.{◌≡◌, refl, ℕ, List, [], ◌∷◌}
use Rattle.bt_serve.specs.Commands.{Command}
use Rattle.bt_serve.specs.Whole.{commands_of}

-- a line and the bytes that follow it
abbrev command : List ℕ → List ℕ → Command
command line bytes = record { line = line; bytes = bytes }

-- an input is cut into these commands, and this is left
abbrev IsCutInto : List ℕ → List Command → List ℕ → Type 0
IsCutInto input commands rest = commands_of input ≡ record { commands = commands; rest = rest }

no_bytes : IsCutInto [] [] []
no_bytes = refl

empty_lines : IsCutInto (codes "\n\nbbl") (command [] [] ∷ command [] [] ∷ command (codes "bbl") [] ∷ []) []
empty_lines = refl

one_line : IsCutInto (codes "splice library.bib 40 43 5\nKnuthstatus") (command (codes "splice library.bib 40 43 5") (codes "Knuth") ∷ command (codes "status") [] ∷ []) []
one_line = refl

-- the bytes that a line asks for may have line feeds
several : IsCutInto (codes "write a.aux 12\n\\citation{k}write b.bib 5\na\nb\ncremove a.aux\nmin 3\nroot b\nbbl\nblg\nstatus\nno such command\nquit\nbbl\n")
    (command (codes "write a.aux 12") (codes "\\citation{k}")
    ∷ command (codes "write b.bib 5") (codes "a\nb\nc")
    ∷ command (codes "remove a.aux") []
    ∷ command (codes "min 3") []
    ∷ command (codes "root b") []
    ∷ command (codes "bbl") []
    ∷ command (codes "blg") []
    ∷ command (codes "status") []
    ∷ command (codes "no such command") []
    ∷ command (codes "quit") []
    ∷ command (codes "bbl") []
    ∷ []) []
several = refl

cut_short : IsCutInto (codes "status\nwrite a.aux 12\n\\citation") (command (codes "status") [] ∷ []) (codes "write a.aux 12\n\\citation")
cut_short = refl

without_its_bytes : IsCutInto (codes "write a.aux 1") [] (codes "write a.aux 1")
without_its_bytes = refl
