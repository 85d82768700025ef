use Rattle.std.specs.Prelude.{IfSome, bytes_eq, false}
use Rattle.std.proofs.Common.{◌≡◌, ◌∙◌, subst, List, ℕ, [], Option}
use Rattle.bt_style.specs.declared.style.Command.{Command}
use Rattle.bt_style.specs.Program.{program_of}
use Rattle.bt_actions.specs.declared.entry.Entry.{Entry}
use Rattle.bt_run.specs.declared.walk.Walk.{Walk}
use Rattle.bt_run.specs.ReadCommand.{with_blank_variables}
use Rattle.bt_run.specs.inner.Beside.{HasKey, first_of}
use Rattle.bt_run.specs.inner.WalkContext.{IsOnlyRead}
use Rattle.bt_run.specs.inner.Walk.{IsWalkThrough}
use Rattle.bt_run.proofs.kept.Kept.walk.Goals as goal

pub returns : goal.returns
returns c =
    let p = program_of c.args.style.now in
    let kept = c.args.self.now in
    let place = c.in-Some-changed_entry.other.place in
    let d = c.in-Some-changed_entry.other.entry.now in
    let read = c.in-Some-read_number.read in
    let w = c.in-Some-2.walk in
    let key = c.as_slice-key.result.now in
    let named : key ≡ d.key = c.as_slice-key.ensures ∙ c.deref.ensures in
    let through = subst (λ (o : Option Walk). IfSome o (IsWalkThrough p key (first_of p c.in_ok-first.first) kept.steps read)) c.in-Some-2.is c.in_ok-walk.ensures in
    record {
      k = c.in-Some.kept;
      d = d;
      read = read;
      is = c.in-Some.is;
      other = c.in-Some-changed_entry.ensures;
      only = subst (λ (cs : List Command). IsOnlyRead read cs) c.as_slice.ensures c.in-Some-read_number.ensures;
      within = c.is_only_of_key.ensures.within c.if-not-is_only_of_key.false;
      counted = c.is_only_of_key.ensures.counted c.if-not-is_only_of_key.false;
      keyed = subst (λ (k : List ℕ). HasKey place k kept.entries) named (c.is_only_of_key.ensures.keyed c.if-not-is_only_of_key.false);
      some_key = subst (λ (k : List ℕ). bytes_eq [] k ≡ false) named (c.is_only_of_key.ensures.some c.if-not-is_only_of_key.false);
      through =
          subst (λ (k : List ℕ). IsWalkThrough p k (first_of p (with_blank_variables p d)) kept.steps read w) named
          (subst (λ (e : Entry). IsWalkThrough p key (first_of p e) kept.steps read w) c.in_ok-first.ensures through);
    }
