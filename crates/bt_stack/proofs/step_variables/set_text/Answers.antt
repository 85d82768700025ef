use Rattle.std.proofs.lemmas.List.Elements.{All-set}
use Rattle.bt_stack.specs.inner.Kept.{Fits, AllFit}
use Rattle.bt_stack.proofs.step_variables.set_text.Goals as goal
use Rattle.bt_stack.proofs.step_variables.set_text.Goals.{then-n-len+else-n-count+in_ok-make_text_place, else-n-len}

pub returns-in_err-make_text_place-clause-fit : goal.returns-in_err-make_text_place-clause-fit
returns-in_err-make_text_place-clause-fit c = λ size fits all. c.make_text_place.ensures.fit size all

pub returns-clause-fit : goal.returns-clause-fit
returns-clause-fit c = λ size fits all.
    let fit : AllFit size c.if-n-len.texts.items = elim c.if-n-len.branch [
      | then-n-len+else-n-count+in_ok-make_text_place w ↦ rw w.texts-is (w.make_text_place.ensures.fit size all)
      | else-n-len w ↦ rw w.texts-is all
    ] in
    All-set (Fits size) c.if-n-len.texts.items c.args.n c.args.value fits fit
