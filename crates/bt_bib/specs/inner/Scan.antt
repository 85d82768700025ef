-- Which bytes a class of the code has.
use Rattle.std.specs.Prelude.{ℕ, Bool}
use Rattle.bt_text.specs.ByteTests.{is_white, is_digit}
use Rattle.bt_bib.specs.declared.scan.Class.{Class}
use Rattle.bt_bib.specs.declared.scan.Class.TheVariants.{White, Digit, Key}
use Rattle.bt_bib.specs.Scan.{is_key_byte}

abbrev pub has : Class → ℕ → Bool
has White b = is_white b
has Digit b = is_digit b
has (Key close) b = is_key_byte close b
