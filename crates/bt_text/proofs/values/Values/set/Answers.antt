use Rattle.std.proofs.Common.{sym, ap, ◌∙◌, List, set, ◌++◌, arith}
use Rattle.std.proofs.lemmas.List.{set-append_left, set-append_right}
use Rattle.std.proofs.lemmas.Result.{on_ok_weaker}
use Rattle.bt_text.proofs.values.Values.set.Goals as goal

pub returns-then-place-len-clause-ok : goal.returns-then-place-len-clause-ok
returns-then-place-len-clause-ok g c =
    let v = c.self.inside in
    sym (set-append_left v.first.items v.more c.args.place c.args.item (omega arith))
    ∙ ap (λ (l : List _). set l c.args.place c.args.item) c.self.view_is

pub returns-clause-ok : goal.returns-clause-ok
returns-clause-ok g c =
    let v = c.self.inside in
    on_ok_weaker c.set.result
    (λ put. ap (λ (l : List _). v.first.items ++ l) put
    ∙ sym (set-append_right v.first.items v.more c.len-2.result c.args.place c.args.item (omega arith) (omega arith))
    ∙ ap (λ (l : List _). set l c.args.place c.args.item) c.self.view_is)
    c.set.ensures.ok
