-- The result of a built-in function that depends only on its arguments.
use Rattle.std.specs.Prelude.{ℤ, pos, negsuc, Bool, true, false, ◌^◌, [], Option, Some, None, nat_lt, if◌then◌else◌}
use Rattle.bt_style.specs.declared.builtin.Builtin.{Builtin as Primitive}
use Rattle.bt_actions.specs.declared.complaint.Complaint.{Complaint}
use Rattle.bt_actions.specs.declared.complaint.Complaint.TheVariants.{OutOfRange}
use Rattle.bt_actions.specs.Item.{Item, Num, Txt}
use Rattle.bt_actions.specs.World.{World, Act}
use Rattle.bt_actions.specs.State.{pushed, pushed_in_error}

-- a value, or an error with a value in place of the right one
pub data Given : Type 0 where
  Gives : (v : Item) → Given
  Errs : (m : Complaint) → (v : Item) → Given

-- pushes the value
abbrev pub answered : Given → World → Act
answered (Gives v) w = pushed v w
answered (Errs m v) w = pushed_in_error m v w

-- applies a function to its arguments and pushes the result; without arguments, pushes the default
abbrev pub valued : {A : Type 0} → (A → Given) → Item → Option A × World → Act
valued f default (None, w) = pushed default w
valued f default (Some a, w) = answered (f a) w

-- the defaults for a number and for a text
abbrev pub zero_item : Item
zero_item = Num (pos 0)

abbrev pub empty_item : Item
empty_item = Txt []

-- whether a number fits 32 signed bits
abbrev pub fits_number : ℤ → Bool
fits_number (pos n) = nat_lt n (2 ^ 31)
fits_number (negsuc n) = nat_lt n (2 ^ 31)

-- a number as a result; if it doesn't fit, an error
abbrev pub number_given : Primitive → ℤ → Given
number_given b n = if fits_number n then Gives (Num n) else Errs (OutOfRange b) zero_item

-- 1 if it is true, else 0
abbrev pub truth : Bool → Item
truth true = Num (pos 1)
truth false = Num (pos 0)
