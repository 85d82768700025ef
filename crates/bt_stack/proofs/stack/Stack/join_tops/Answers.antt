use Rattle.std.proofs.Common.{arith}
use Rattle.std.proofs.lemmas.Grind.{common_steps}
use Rattle.bt_stack.proofs.GrowLemmas.{desk_kept, all_fit_more}
use Rattle.bt_stack.proofs.TopLemmas.{at_err}
use Rattle.bt_stack.proofs.JoinLemmas.{join_refused, join_done, fit_joined}
use Rattle.bt_stack.proofs.stack.Stack.join_tops.Goals as goal

pub returns-in_err-join-clause-err : goal.returns-in_err-join-clause-err
returns-in_err-join-clause-err c = let s = c.self.inside in
    at_err c.from_residual.result (desk_kept _ _ s.values.items s.globals s.own _ c.in_err-join.ensures.grows c.self.invariant c.self.view_is)

pub invariant_of-self-in-None : goal.invariant_of-self-in-None
invariant_of-self-in-None c = let s = c.self.inside in
    let grows = c.in_ok-join.ensures.grows in
    record {
      fit = all_fit_more _ _ s.values.items grows c.self.invariant.fit;
      globals_fit = all_fit_more _ _ s.globals.texts.items grows c.self.invariant.globals_fit;
      own_fit = all_fit_more _ _ s.own.texts.items grows c.self.invariant.own_fit;
      few = c.self.invariant.few;
    }

pub returns-in-None-clause-ok : goal.returns-in-None-clause-ok
returns-in-None-clause-ok c = let s = c.self.inside in
    join_refused _ _ s.values.items s.globals s.own c.len-count.result _ _ _ c.in_ok-join.ensures.grows c.self.invariant (grind arith) c.if-count-lt2.false c.index-lower.ensures c.index-upper.ensures c.self.view_is (rw c.in-None.is at c.in_ok-join.ensures.item)

pub invariant_of-self-in-Some : goal.invariant_of-self-in-Some
invariant_of-self-in-Some c = let s = c.self.inside in
    let grows = c.in_ok-join.ensures.grows in
    record {
      fit = fit_joined _ _ s.values.items _ _ _ _ grows c.self.invariant.fit (rw c.in-Some.is at c.in_ok-join.ensures.fits) c.truncate.ensures.items;
      globals_fit = all_fit_more _ _ s.globals.texts.items grows c.self.invariant.globals_fit;
      own_fit = all_fit_more _ _ s.own.texts.items grows c.self.invariant.own_fit;
      few = grind (arith, common_steps, c.self.invariant.few);
    }

pub returns-in-Some-clause-ok : goal.returns-in-Some-clause-ok
returns-in-Some-clause-ok c = let s = c.self.inside in
    join_done _ _ s.values.items _ s.globals s.own c.len-count.result _ _ _ _ c.in_ok-join.ensures.grows c.self.invariant (grind arith) c.if-count-lt2.false c.index-lower.ensures c.index-upper.ensures c.self.view_is (rw c.in-Some.is at c.in_ok-join.ensures.item) c.truncate.ensures.items
