-- The class of a byte.
use Rattle.std.specs.Prelude.{ℕ, if◌then◌else◌}
use Rattle.bt_text.specs.declared.classes.Class.{Class}
use Rattle.bt_text.specs.declared.classes.Class.TheVariants.{White, Letter, Digit, Sep, Other}
use Rattle.bt_text.specs.ByteTests.{is_digit, is_letter, is_separator, is_white}

abbrev pub class_of : ℕ → Class
class_of b =
    if is_white b then White else (if is_letter b then Letter
    else (if is_digit b then Digit else (if is_separator b then Sep else Other)))
