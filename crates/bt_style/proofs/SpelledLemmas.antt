-- What a reader's result tells of its parts.
use Rattle.std.proofs.Common.{◌≡◌, refl, Result, Ok, Err}
use Rattle.bt_style.specs.declared.fault.StyleFault.{StyleFault}
use Rattle.bt_style.specs.Fault.{◌>>=◌}

pub bind_ok : {A B : Type 0} (r : Result A StyleFault) (f : A → Result B StyleFault) (y : B) → (r >>= f) ≡ Ok y → (x : A) × (r ≡ Ok x) × (f x ≡ Ok y)
bind_ok (Ok x) f y h = (x, refl, h)
bind_ok (Err e) f y h = cc

pub ok_same : {A : Type 0} (x y : A) → ◌≡◌ {A = Result A StyleFault} (Ok x) (Ok y) → x ≡ y
ok_same x y h = cc
