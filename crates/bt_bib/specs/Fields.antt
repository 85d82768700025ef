-- The fields of an entry: `, field = value` any number of times, with a comma before the end allowed.
use Rattle.std.specs.Prelude.{ℕ, ◌==◌, List, [], ◌∷◌, Option, Some, None, Result, Ok, Err, if◌then◌else◌}
use Rattle.bt_bib.specs.declared.fault.ItemFault.TheVariants.{EndOfFile, ExpectedCommaOrClose, ExpectedEquals}
use Rattle.bt_bib.specs.declared.fault.NameRole.TheVariants.{FieldName}
use Rattle.bt_bib.specs.declared.item.Closing.{Closing}
use Rattle.bt_bib.specs.declared.item.Field.{Field}
use Rattle.bt_bib.specs.Spot.{Here, after_byte}
use Rattle.bt_bib.specs.Scan.{first, after_white, sign, closing_sign}
use Rattle.bt_bib.specs.Stop.{Stop, ◌>>=◌}
use Rattle.bt_bib.specs.Names.{name}
use Rattle.bt_bib.specs.Values.{value}

-- The name of a field or string is followed by `=`.
abbrev pub name_ends : List ℕ
name_ends = 61 ∷ []

-- `field = value`
unfoldable pub field : Closing → Here → Result (Field × Here) Stop
field close h =
    name FieldName name_ends h >>= λ n.
    sign 61 ExpectedEquals (after_white n.1) >>= λ equals.
    value close (after_white equals) >>= λ v.
    Ok (record { name = n.0; line = h.spot.line; value = v.0 }, v.1)

-- another field after a comma, or the end of the entry
unfoldable pub next_field : Closing → Here → Result (Option Field × Here) Stop
next_field close h = elim (first h.rest) [
  | None ↦ Err (EndOfFile, h)
  | Some b ↦
      if b == closing_sign close then Ok (None, after_byte h)
      else if b == 44 then (let w = after_white (after_byte h) in elim (first w.rest) [
        | None ↦ Err (EndOfFile, w)
        | Some c ↦
            if c == closing_sign close then Ok (None, after_byte w) else (field close w >>= λ x. Ok (Some x.0, x.1))
      ])
      else Err (ExpectedCommaOrClose, h)
]
