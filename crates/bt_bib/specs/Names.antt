-- Names, and what may follow them.
use Rattle.std.specs.Prelude.{ℕ, ◌&&◌, ◌||◌, not, ◌==◌, List, Some, None, Result, Ok, Err, if◌then◌else◌}
use Rattle.std.specs.List.{list_any}
use Rattle.bt_text.specs.ByteTests.{is_white, is_digit}
use Rattle.bt_text.specs.NameBytes.{is_name_byte}
use Rattle.bt_bib.specs.declared.fault.NameRole.{NameRole}
use Rattle.bt_bib.specs.declared.fault.ItemFault.TheVariants.{EndOfFile, MissingName, BadNameEnd}
use Rattle.bt_bib.specs.Spot.{Here}
use Rattle.bt_bib.specs.Scan.{first, run, after_run}
use Rattle.bt_bib.specs.Stop.{Stop, ◌>>=◌}

-- the longest run of name bytes, which must not begin with a digit
unfoldable pub word : NameRole → Here → Result (List ℕ × Here) Stop
word what h = elim (first h.rest) [
  | None ↦ Err (EndOfFile, h)
  | Some b ↦
      if is_name_byte b && not (is_digit b) then Ok (run is_name_byte h, after_run is_name_byte h)
      else Err (MissingName what, h)
]

-- A name is followed by white space, the text's end or one of some signs.
unfoldable pub name_ended : NameRole → List ℕ → Here → Result Here Stop
name_ended what signs h = elim (first h.rest) [
  | None ↦ Ok h
  | Some b ↦ if is_white b || list_any (λ sign. sign == b) signs then Ok h else Err (BadNameEnd what b, h)
]

-- a name that ends as it must
unfoldable pub name : NameRole → List ℕ → Here → Result (List ℕ × Here) Stop
name what signs h = word what h >>= λ w. name_ended what signs w.1 >>= λ end. Ok (w.0, end)
