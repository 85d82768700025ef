-- Edits of a text.
use Rattle.std.specs.Prelude.{ℕ, min, nat_le, ◌&&◌, true, if◌then◌else◌, List, [], ◌++◌, length, Option, Some, None}
use Rattle.std.specs.List.{fold}
use Rattle.bt_positions.specs.Positions.{offset_of, position_of}
use Rattle.bt_positions.specs.declared.counting.Counting.{Counting}
use Rattle.bt_mentions.specs.Databases.{part}
use Rattle.bt_edited.specs.declared.edits.Edit.{Edit}
use Rattle.bt_edited.specs.declared.edits.Draft.{Draft}

-- the edit of the part of a text between two offsets, as far as the text has it
abbrev pub edit_of : Counting → List ℕ → ℕ → ℕ → List ℕ → Edit
edit_of c text from to new =
    record {
      from = position_of c (min from (length text)) text;
      to = position_of c (min to (length text)) text;
      new = new;
    }

-- a draft after one more edit
abbrev pub draft_after : Counting → List ℕ → Draft → Edit → Draft
draft_after c text d e =
    let from = offset_of c e.from text in
    let to = offset_of c e.to text in
    record {
      bytes = d.bytes ++ part d.place from text ++ e.new;
      place = to;
      rises = d.rises && nat_le d.place from && nat_le from to;
    }

abbrev pub finished : List ℕ → Draft → Option (List ℕ)
finished text d = if d.rises then Some (d.bytes ++ part d.place (length text) text) else None

-- The text after edits, whose positions are those of the text before; none if one begins before the one before it ends.
abbrev pub text_after_edits : Counting → List Edit → List ℕ → Option (List ℕ)
text_after_edits c es text = finished text (fold (draft_after c text) (record { bytes = []; place = 0; rises = true }) es)
