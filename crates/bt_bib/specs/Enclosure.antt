-- What braces and quotes enclose.
use Rattle.std.specs.Prelude.{ℕ, Bool, ◌&&◌, ◌||◌, ◌==◌, List, [], ◌∷◌, ◌++◌, count_by, Some, None, Result, Ok, Err, if◌then◌else◌}
use Rattle.bt_text.specs.ByteTests.{left_brace, right_brace}
use Rattle.bt_bib.specs.declared.fault.ItemFault.TheVariants.{EndOfFile, UnbalancedBraces}
use Rattle.bt_bib.specs.Spot.{Here, after_bytes}
use Rattle.bt_bib.specs.Scan.{first}
use Rattle.bt_bib.specs.Stop.{Stop}

-- as many left braces as right ones
abbrev pub has_as_many_right_braces : List ℕ → Bool
has_as_many_right_braces t = count_by (λ b. b == left_brace) t == count_by (λ b. b == right_brace) t

-- A byte ends the enclosed text if the bytes before it are balanced and it is the closing sign or a right brace.
abbrev pub ends_enclosed : ℕ → List ℕ → ℕ → Bool
ends_enclosed close front b = (b == close || b == right_brace) && has_as_many_right_braces front

-- front, and the bytes after it up to the first one that ends the enclosed text
abbrev pub enclosed_text : ℕ → List ℕ → List ℕ → List ℕ
enclosed_text close front [] = front
enclosed_text close front (b ∷ rest) =
    if ends_enclosed close front b then front else enclosed_text close (front ++ b ∷ []) rest

-- the text before the byte that closes it, and that byte; a right brace without a left one is a fault
unfoldable pub enclosed : ℕ → Here → Result (List ℕ × Here) Stop
enclosed close h =
    (let text = enclosed_text close [] h.rest in
    let end = after_bytes text h in
    elim (first end.rest) [
      | None ↦ Err (EndOfFile, end)
      | Some b ↦ if b == close then Ok (text, end) else Err (UnbalancedBraces, end)
    ])
