-- Values: one part, or several joined by `#`. A part is `{balanced}`, `"balanced"`, a run of digits, or a macro's name.
use Rattle.std.specs.Prelude.{ℕ, ◌==◌, List, [], ◌∷◌, Option, Some, None, Result, Ok, Err, if◌then◌else◌}
use Rattle.bt_text.specs.ByteTests.{is_digit, left_brace, right_brace}
use Rattle.bt_text.specs.NameBytes.{is_name_byte}
use Rattle.bt_bib.specs.declared.fault.ItemFault.TheVariants.{EndOfFile, MissingPart}
use Rattle.bt_bib.specs.declared.fault.NameRole.TheVariants.{FieldPart}
use Rattle.bt_bib.specs.declared.item.Closing.{Closing}
use Rattle.bt_bib.specs.declared.item.Part.{Part}
use Rattle.bt_bib.specs.declared.item.Part.TheVariants.{Text, Macro}
use Rattle.bt_bib.specs.Spot.{Here, after_byte}
use Rattle.bt_bib.specs.Scan.{first, run, after_run, after_white, closing_sign}
use Rattle.bt_bib.specs.Enclosure.{enclosed}
use Rattle.bt_bib.specs.Stop.{Stop, ◌>>=◌}
use Rattle.bt_bib.specs.Names.{name}
use Rattle.bt_bib.specs.Many.{all, collected}

-- A macro's name is followed by a comma, a `#` or the closing sign of the item.
abbrev pub part_ends : Closing → List ℕ
part_ends close = 44 ∷ 35 ∷ closing_sign close ∷ []

-- a part, and the white space after it
unfoldable pub part : Closing → Here → Result (Part × Here) Stop
part close h =
    let found : Result (Part × Here) Stop = elim (first h.rest) [
      | None ↦ Err (EndOfFile, h)
      | Some b ↦
          if b == left_brace then (enclosed right_brace (after_byte h) >>= λ x. Ok (Text x.0, after_byte x.1))
          else if b == 34 then (enclosed 34 (after_byte h) >>= λ x. Ok (Text x.0, after_byte x.1))
          else if is_digit b then Ok (Text (run is_digit h), after_run is_digit h)
          else if is_name_byte b then (name FieldPart (part_ends close) h >>= λ n. Ok (Macro n.0 h.spot.line, n.1))
          else Err (MissingPart, h)
    ] in
    found >>= λ x. Ok (x.0, after_white x.1)

-- another part after a `#`, or none
unfoldable pub next_part : Closing → Here → Result (Option Part × Here) Stop
next_part close h = elim (first h.rest) [
  | None ↦ Ok (None, h)
  | Some b ↦
      if b == 35 then (part close (after_white (after_byte h)) >>= λ x. Ok (Some x.0, x.1)) else Ok (None, h)
]

-- a value, and the white space after it
unfoldable pub value : Closing → Here → Result (List Part × Here) Stop
value close h = part close h >>= λ x. collected (x.0 ∷ []) (all (next_part close) x.1)
