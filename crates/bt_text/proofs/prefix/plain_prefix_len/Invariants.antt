use Rattle.std.proofs.Common.{◌≡◌, ◌++◌, take, drop, map, flat_map}
use Rattle.bt_text.specs.Substrings.{first_characters}
use Rattle.bt_text.specs.Pieces.{bytes_of}
use Rattle.bt_text.specs.inner.Cases.{single}
use Rattle.bt_text.proofs.prefix.plain_prefix_len.Given as goal

abbrev pub invariant-loop-place : goal.invariant-loop-place
invariant-loop-place l = take l.place l.text ++ flat_map bytes_of (first_characters l.left (map single (drop l.place l.text))) ≡ flat_map bytes_of (first_characters l.most (map single l.text))
