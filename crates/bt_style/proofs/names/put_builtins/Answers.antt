use Rattle.std.proofs.Common.{◌≡◌, ◌-◌, suc, arith}
use Rattle.bt_style.proofs.NameLemmas.{holds_from}
use Rattle.bt_style.proofs.names.put_builtins.Goals as goal

pub builtins-preserved : goal.builtins-preserved
builtins-preserved c =
    let next : c.builtins.left ≡ suc (c.builtins.left - 1) = omega arith in
    record {
      within = omega arith;
      so_far = holds_from c.builtins.targets c.put_builtin.new.targets c.args.builtins.now (c.builtins.left - 1) c.builtins.left next c.builtins.invariant.within c.builtins.invariant.so_far c.in_ok-put_builtin.ensures;
    }

pub returns : goal.returns
returns c =
    let none : c.builtins.left ≡ 0 = omega arith in
    λ key. let h = c.builtins.invariant.so_far key in rw none at h
