-- No two fields of a style match, ignoring case.
use Rattle.std.specs.Prelude.{◌≡◌, ℕ, List, IsTrue, Ok}
use Rattle.bt_text.specs.NameList.{are_apart}
use Rattle.bt_style.specs.Program.{Program}
use Rattle.bt_style.specs.Reader.{style_of}

-- No two fields of a style that a text spells have the same name, ignoring case.
abbrev pub FieldsAreApart : Type 0
FieldsAreApart = (text : List ℕ) (p : Program) → style_of text ≡ Ok p → IsTrue (are_apart p.fields)
