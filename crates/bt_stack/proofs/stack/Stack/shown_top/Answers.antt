use Rattle.bt_style.specs.Program.{program_of}
use Rattle.bt_actions.specs.LogLines.{shown_value}
use Rattle.bt_stack.proofs.GrowLemmas.{items_are}
use Rattle.bt_stack.proofs.TopLemmas.{fit_read}
use Rattle.bt_stack.proofs.LogLemmas.{words_none}
use Rattle.bt_stack.proofs.stack.Stack.shown_top.Goals as goal

pub shown-requires : goal.shown-requires
shown-requires c = fit_read _ _ _ _ _ (c.in-Some.ensures.fits _) c.deref.ensures.value c.deref-in-Some.ensures.value c.self.invariant.fit

pub returns-in-None : goal.returns-in-None
returns-in-None c = let s = c.self.inside in
    words_none (shown_value (program_of c.args.style.now)) s.pool.items _ _ _ _ (c.in-None.ensures.item s.pool.items) c.deref.ensures.value (items_are s.pool.items s.values.items s.globals s.own _ c.self.view_is)
