-- How targets are found.
use Rattle.std.proofs.Common.{◌≡◌, ◌∙◌, ap, sym, refl, List, [], ◌∷◌, ◌++◌, Bor, append_assoc, append-nil, ◌+◌, arith}
use denote.Enum.Bare.{same_true}
use Rattle.std.proofs.Common.{true, rules}
use Rattle.std.proofs.lemmas.Bool.Decides.{nat_tests}
use Rattle.bt_style.specs.contracts.builtin.Builtin.{the_type}
use Rattle.bt_style.specs.declared.builtin.Builtin.{Builtin}
use Rattle.bt_style.specs.declared.builtin.Builtin.TheVariants as builtins
use Rattle.bt_style.specs.declared.style.Target.TheVariants as targets
use Rattle.bt_style.specs.declared.style.Op.{Op}
use Rattle.bt_style.specs.declared.style.Target.{Target}
use Rattle.bt_style.specs.Tree.{ops_body}
use Rattle.bt_style.specs.Reach.{target_eq, noted, noted_all, body_names}
use Rattle.bt_style.specs.inner.Reach.{waiting_names, waiting_size, body_size}

pub noted_all_append : (found as' bs : List Target) → noted_all found (as' ++ bs) ≡ noted_all (noted_all found as') bs
noted_all_append found [] bs = refl
noted_all_append found (a ∷ as') bs = noted_all_append (noted found a) as' bs

-- the part that is left last comes first
pub waiting_names_push : (ws : List (Bor (List Op))) (w : Bor (List Op)) → waiting_names (ws ++ w ∷ []) ≡ body_names (ops_body w.now) ++ waiting_names ws
waiting_names_push [] w = sym (append-nil (body_names (ops_body w.now)))
waiting_names_push (v ∷ ws) w =
    ap (λ (l : List Target). l ++ body_names (ops_body v.now)) (waiting_names_push ws w)
    ∙ append_assoc (body_names (ops_body w.now)) (waiting_names ws) (body_names (ops_body v.now))

pub waiting_size_push : (ws : List (Bor (List Op))) (w : Bor (List Op)) → waiting_size (ws ++ w ∷ []) ≡ body_size (ops_body w.now) + waiting_size ws
waiting_size_push [] w = omega arith
waiting_size_push (v ∷ ws) w = omega (arith, waiting_size_push ws w)

-- Equal targets, and targets among others.

builtin_sound : (a b : Builtin) → target_eq (targets.Builtin a) (targets.Builtin b) ≡ true → a ≡ b
builtin_sound a b h = same_true the_type (search rules) _ _ h

pub target_eq_sound : (a b : Target) → target_eq a b ≡ true → a ≡ b
target_eq_sound (targets.Builtin a) (targets.Builtin b) h = ap targets.Builtin (builtin_sound a b h)
target_eq_sound (targets.Field n) (targets.Field m) h = ap targets.Field (grind (arith, nat_tests, h))
target_eq_sound (targets.EntryNumber n) (targets.EntryNumber m) h = ap targets.EntryNumber (grind (arith, nat_tests, h))
target_eq_sound (targets.EntryText n) (targets.EntryText m) h = ap targets.EntryText (grind (arith, nat_tests, h))
target_eq_sound (targets.GlobalNumber n) (targets.GlobalNumber m) h = ap targets.GlobalNumber (grind (arith, nat_tests, h))
target_eq_sound (targets.GlobalText n) (targets.GlobalText m) h = ap targets.GlobalText (grind (arith, nat_tests, h))
target_eq_sound (targets.Function n) (targets.Function m) h = ap targets.Function (grind (arith, nat_tests, h))
target_eq_sound a b h = cc

builtin_refl : (b : Builtin) → target_eq (targets.Builtin b) (targets.Builtin b) ≡ true
builtin_refl builtins.Greater = refl
builtin_refl builtins.Less = refl
builtin_refl builtins.Equals = refl
builtin_refl builtins.Plus = refl
builtin_refl builtins.Minus = refl
builtin_refl builtins.Join = refl
builtin_refl builtins.Assign = refl
builtin_refl builtins.AddPeriod = refl
builtin_refl builtins.CallType = refl
builtin_refl builtins.ChangeCase = refl
builtin_refl builtins.ChrToInt = refl
builtin_refl builtins.Cite = refl
builtin_refl builtins.Duplicate = refl
builtin_refl builtins.Empty = refl
builtin_refl builtins.FormatName = refl
builtin_refl builtins.If = refl
builtin_refl builtins.IntToChr = refl
builtin_refl builtins.IntToStr = refl
builtin_refl builtins.Missing = refl
builtin_refl builtins.Newline = refl
builtin_refl builtins.NumNames = refl
builtin_refl builtins.Pop = refl
builtin_refl builtins.Preamble = refl
builtin_refl builtins.Purify = refl
builtin_refl builtins.Quote = refl
builtin_refl builtins.Skip = refl
builtin_refl builtins.Stack = refl
builtin_refl builtins.Substring = refl
builtin_refl builtins.Swap = refl
builtin_refl builtins.TextLength = refl
builtin_refl builtins.TextPrefix = refl
builtin_refl builtins.Top = refl
builtin_refl builtins.Type = refl
builtin_refl builtins.Warning = refl
builtin_refl builtins.While = refl
builtin_refl builtins.Width = refl
builtin_refl builtins.Write = refl

pub target_eq_refl : (a : Target) → target_eq a a ≡ true
target_eq_refl (targets.Builtin b) = builtin_refl b
target_eq_refl (targets.Field n) = grind (arith, nat_tests)
target_eq_refl (targets.EntryNumber n) = grind (arith, nat_tests)
target_eq_refl (targets.EntryText n) = grind (arith, nat_tests)
target_eq_refl (targets.GlobalNumber n) = grind (arith, nat_tests)
target_eq_refl (targets.GlobalText n) = grind (arith, nat_tests)
target_eq_refl (targets.Function n) = grind (arith, nat_tests)
