use Rattle.std.proofs.Common.{◌∙◌, ap, subst, sym, Option}
use Rattle.bt_run.specs.declared.kept_resolution.KeptResolution.{KeptResolution}
use Rattle.bt_run.specs.inner.Names.{HaveDistinctNames}
use Rattle.bt_run.specs.inner.Put.{GoesOver, with_lengths}
use Rattle.bt_run.proofs.PutKeptLemmas.{arranged_put, called_put, found_put, in_turn_put, marked_put, measured_put, true_put}
use Rattle.bt_run.proofs.kept.Kept.put.Goals as goal

pub invariant_of-self : goal.invariant_of-self
invariant_of-self c =
    let k = c.args.self.now in
    let place = c.args.place in
    let w = c.args.walk in
    let h = c.requires in
    let steps = c.put_steps.new.steps in
    let put = c.put_steps.ensures in
    let entries = c.set.new.self in
    let set = c.set.ensures in
    let resolution = c.after_edit.result in
    record {
      true_steps = true_put k place w h steps put;
      marked = marked_put k place w h steps entries put set;
      arranged = arranged_put k place w h entries set;
      called = called_put k place w h steps put;
      in_turn = in_turn_put k place w h steps put;
      named = subst HaveDistinctNames (sym put) h.named;
      found = found_put k place w h entries resolution set (subst (λ (r : Option KeptResolution). GoesOver r resolution) c.take-resolution.ensures.value c.after_edit.ensures);
      measured = measured_put k place w h steps c.put_lengths.new.lengths put (c.put_lengths.ensures ∙ ap (with_lengths k.lengths) c.as_slice.ensures);
    }
