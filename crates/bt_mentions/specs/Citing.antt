-- Where keys are cited.
use Rattle.std.specs.Prelude.{ℕ, ◌==◌, ◌&&◌, ◌||◌, nat_le, Bool, true, false, if◌then◌else◌, List, Option, Some, None}
use Rattle.std.specs.List.{fold}
use Rattle.std.specs.Char.{to_ascii_lowercase}
use Rattle.bt_text.specs.ByteTests.{is_white}
use Rattle.bt_mentions.specs.declared.citing.Letters.{Letters}
use Rattle.bt_mentions.specs.declared.citing.Letters.TheVariants.{Nothing, C, Ci, Cit, Cita, Cite, Cites, Found}
use Rattle.bt_mentions.specs.declared.citing.Arguments.{Arguments}
use Rattle.bt_mentions.specs.declared.citing.Arguments.TheVariants.{First, All as AllOfThem}
use Rattle.bt_mentions.specs.declared.citing.Citing.{Citing}
use Rattle.bt_mentions.specs.declared.citing.Citing.TheVariants.{Outside, Name, Before, Option as InOption, Keys}

-- the first letter that counts
abbrev pub letters_from : ℕ → Letters
letters_from letter = if letter == 99 then C else Nothing

-- after one more letter of a command's name, in lower case
abbrev pub letters_after : Letters → ℕ → Letters
letters_after Nothing letter = letters_from letter
letters_after C letter = if letter == 105 then Ci else letters_from letter
letters_after Ci letter = if letter == 116 then Cit else letters_from letter
letters_after Cit letter = if letter == 101 then Cite else (if letter == 97 then Cita else letters_from letter)
letters_after Cita letter = if letter == 116 then Found else letters_from letter
letters_after Cite letter = if letter == 115 then Cites else Found
letters_after Cites letter = Found
letters_after Found letter = Found

-- Which arguments of a command with such a name have keys. A name that has `cite` or `citat` in it cites, and all arguments
-- have keys if it ends so with `cites`.
abbrev pub arguments_of : Letters → Option Arguments
arguments_of Nothing = None
arguments_of C = None
arguments_of Ci = None
arguments_of Cit = None
arguments_of Cita = None
arguments_of Cite = Some First
arguments_of Cites = Some AllOfThem
arguments_of Found = Some First

-- after a byte that follows the name, an option or an argument of a command that cites
abbrev pub before_after : Arguments → ℕ → Citing
before_after a byte =
    if byte == 91 then InOption a else
    (if byte == 123 then Keys a else
    (if byte == 92 then Name Nothing else
    (if is_white byte || byte == 42 then Before a else Outside)))

-- after a byte that follows a command's name
abbrev pub after_name : Option Arguments → ℕ → Citing
after_name None byte = if byte == 92 then Name Nothing else Outside
after_name (Some a) byte = before_after a byte

-- after one more byte of a command's name, or the byte after it
abbrev pub name_after : Letters → ℕ → Citing
name_after letters byte =
    let letter = to_ascii_lowercase byte in
    if nat_le 97 letter && nat_le letter 122 then Name (letters_after letters letter)
    else after_name (arguments_of letters) byte

-- after an argument
abbrev pub after_keys : Arguments → Citing
after_keys First = Outside
after_keys AllOfThem = Before AllOfThem

-- after one more byte
abbrev pub citing_after : Citing → ℕ → Citing
citing_after Outside byte = if byte == 92 then Name Nothing else Outside
citing_after (Name letters) byte = name_after letters byte
citing_after (Before a) byte = before_after a byte
citing_after (InOption a) byte = if byte == 93 then Before a else InOption a
citing_after (Keys a) byte = if byte == 125 then after_keys a else Keys a

-- whether keys are cited
abbrev pub are_keys : Citing → Bool
are_keys Outside = false
are_keys (Name letters) = false
are_keys (Before a) = false
are_keys (InOption a) = false
are_keys (Keys a) = true

-- whether keys are cited after these bytes
abbrev pub is_citing : List ℕ → Bool
is_citing bytes = are_keys (fold citing_after Outside bytes)
